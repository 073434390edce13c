-- Assumes nothing.
use native.Mathlib.Omega.{arith}
use mathlib.Core.Path.{◌∙◌, refl, sym}
use lib.ListN.{length-set}
use Rattle.packed.specs.Cells.{cells_as}
use Rattle.packed.proofs.CellTurns.{from_start, from_wrong, from_next, from_end}
use Rattle.packed.proofs.cells.read_cells.Goals as goal

pub loop-cell-init : goal.loop-cell-init
loop-cell-init c = record { many = refl; left = from_start _ _ _ _ }

pub returns-in_err-read : goal.returns-in_err-read
unfolding cells_as
returns-in_err-read c =
    let l = c.loop-cell in
    rw c.from_residual.ensures
    (sym (l.invariant.left ∙ from_wrong _ c.args.s.now l.at l.cell-index l.cell-items (omega (arith, l.invariant.many)) (sym c.in_err-read.ensures)))

pub loop-cell-preserved : goal.loop-cell-preserved
loop-cell-preserved c =
    let l = c.loop-cell in
    let f = from_next _ c.args.s.now l.at l.cell-index l.cell-items (omega (arith, l.invariant.many)) (sym c.in_ok-read.ensures) in
    record { many = simp length-set l.invariant.many; left = l.invariant.left ∙ f }

pub returns : goal.returns
unfolding cells_as
returns c =
    let l = c.loop-cell in
    sym (l.invariant.left ∙ from_end _ c.args.s.now l.at l.cell-index l.cell-items (omega (arith, l.invariant.many)))
