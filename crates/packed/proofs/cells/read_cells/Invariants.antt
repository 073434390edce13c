-- Invariant: the cells left, read from the place reached and stored after those so far, give the whole result.
-- Assumes nothing.
use Prim.Native.Nat.{◌-◌}
use mathlib.Core.Path.{◌≡◌}
use lib.ListN.{length}
use Rattle.format.specs.Formats.{codes}
use Rattle.packed.specs.Cells.{cells_from}
use Rattle.packed.proofs.cells.read_cells.Given as goal

abbrev pub invariant-loop-cell : goal.invariant-loop-cell
invariant-loop-cell l = record {
  many : length l.cell-items ≡ length l.initial.cell-items;
  left : cells_from codes (length l.initial.cell-items) l.s l.from 0 l.initial.cell-items
      ≡ cells_from codes (length l.initial.cell-items - l.cell-index) l.s l.at l.cell-index l.cell-items;
}
