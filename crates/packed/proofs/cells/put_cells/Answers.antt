-- Assumes nothing.
use native.Mathlib.Omega.{arith}
use mathlib.Core.Path.{◌∙◌, ap, sym}
use lib.ListN.{length, length-append}
use Rattle.laws.proofs.Writing.{put-none, put-append, put_as}
use Rattle.packed.proofs.CellTurns.{cells-next, cells-end}
use Rattle.packed.proofs.cells.put_cells.Goals as goal

pub put_cell-at-requires : goal.put_cell-at-requires
put_cell-at-requires c =
    let l = c.loop-cell in
    let e = cells-next l.cell-index c.args.cells.now (omega arith) in
    omega (arith, simp length-append at (ap length e), l.invariant.size, l.invariant.room)

pub loop-cell-preserved : goal.loop-cell-preserved
loop-cell-preserved c =
    let l = c.loop-cell in
    let e = cells-next l.cell-index c.args.cells.now (omega arith) in
    let w = c.put_cell-at.ensures in
    record {
      size = c.put_cell-at.auto.buf ∙ l.invariant.size;
      room = omega (arith, w.next, l.invariant.room, simp length-append at (ap length e));
      whole = λ b m p. l.invariant.whole b m (put_as (sym e) (put-append w p));
    }

pub returns : goal.returns
returns c =
    let l = c.loop-cell in
    let e = cells-end l.cell-index c.args.cells.now (omega arith) in
    l.invariant.whole _ _ (put_as (sym e) (put-none l.buf l.at))
