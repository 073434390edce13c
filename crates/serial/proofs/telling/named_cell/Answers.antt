-- `named_cell` meets its contract: the address has a place in the memory.
-- Assumes nothing.
use Prim.Native.Nat.{ℕ, ◌-◌, ◌<◌}
use mathlib.Core.Path.{sym, ap, subst, ◌∙◌}
use lib.ListN.{get_or}
use Rattle.units.specs.declared.CellAddress.{CellAddress}
use Rattle.machine.specs.Record.{cell_at, null_cell}
use Rattle.machine.specs.Acting.{named_cell}
use Rattle.serial.proofs.Sound.{named-place}
use Rattle.serial.proofs.telling.named_cell.Goals as goal

pub bounds-machine-i : goal.bounds-machine-i
unfolding named_cell cell_at
bounds-machine-i c = subst (λ (i : ℕ). i < 131)
    (sym (c.place-i.ensures ∙ ap (λ (x : CellAddress). x.0 - 100) c.named-at.ensures))
    (named-place c.args.command c.args.machine c.requires.1 c.requires.0)

pub returns : goal.returns
unfolding named_cell cell_at
returns c = ap (λ (i : ℕ). get_or c.args.machine.cells i null_cell)
    (c.place-i.ensures ∙ ap (λ (x : CellAddress). x.0 - 100) c.named-at.ensures)
