-- `carried_out` meets its contract: the answer and the state at the cell that was read are those of the definition.
-- Assumes nothing.
use mathlib.Core.Path.{◌≡◌, sym, ap, subst}
use mathlib.Core.Bool.{true}
use mathlib.Core.List.{[]}
use Rattle.laws.specs.Tests.{choose}
use Rattle.laws.proofs.Writing.{put_as}
use Rattle.instruction.specs.Soundness.{cell_sound}
use Rattle.instruction.specs.declared.Cell.{Cell}
use Rattle.machine.specs.Strings.{to_every}
use Rattle.replies.specs.Pieces.{Answerable}
use Rattle.serial.proofs.Carried.{machine-by, answer-by}
use Rattle.serial.proofs.Sound.{named-sound, answerable}
use Rattle.serial.proofs.telling.carried_out.Goals as goal

pub answered-length-requires : goal.answered-length-requires
answered-length-requires c = let a = c.args in
    subst (λ (x : Cell). Answerable a.header.address a.command a.machine.state x a.buf.now)
    (sym c.named_cell-cell.ensures)
    (answerable a.command a.machine a.header a.buf.now c.requires.1 c.requires.0.sound c.requires.2 c.requires.0.room)

pub acted-after-requires : goal.acted-after-requires
acted-after-requires c = (
  c.requires.1,
  subst (λ (x : Cell). cell_sound x ≡ true) (sym c.named_cell-cell.ensures)
      (named-sound c.args.command c.args.machine c.requires.0.sound),
)

pub returns : goal.returns
returns c =
    let a = c.args in
    let aa = a.header.address in
    record {
      machine_value = machine-by a.command aa a.machine c.named_cell-cell.ensures c.acted-after.ensures c.kept.ensures;
      answer = put_as (ap (choose (to_every a.header) []) (answer-by a.command aa a.machine c.named_cell-cell.ensures))
          c.answered-length.ensures;
    }
