-- Invariant: the cells left have room, and written from the place reached they complete the whole.
-- Assumes nothing.
use Prim.Native.Nat.{ℕ, ◌+◌, ◌≤◌}
use mathlib.Core.Path.{◌≡◌}
use mathlib.Core.List.{List}
use lib.ListN.{length, drop}
use Rattle.laws.specs.Writing.{Put}
use Rattle.packed.specs.Cells.{cells_bytes}
use Rattle.packed.proofs.cells.put_cells.Given as goal

abbrev pub invariant-loop-cell : goal.invariant-loop-cell
invariant-loop-cell l = record {
  size : length l.buf ≡ length l.initial.buf;
  room : l.at + length (cells_bytes (drop l.cell-index l.cells)) ≤ length l.initial.buf;
  whole : (b : List ℕ) (e : ℕ) → Put l.buf b (cells_bytes (drop l.cell-index l.cells)) l.at e → Put l.initial.buf b (cells_bytes l.cells) l.from e;
}
