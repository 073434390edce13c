-- Invariant: the numbers left have room, and written from the place reached they complete the whole.
-- Assumes nothing.
use Prim.Native.Nat.{ℕ, ◌+◌, ◌-◌, ◌≤◌}
use mathlib.Core.Path.{◌≡◌}
use mathlib.Core.List.{List}
use lib.ListN.{length}
use Rattle.laws.specs.Writing.{Put}
use Rattle.packed.specs.Layout.{laid_from, laid}
use Rattle.packed.proofs.rows.put_row.Given as goal

abbrev pub invariant-loop-i : goal.invariant-loop-i
invariant-loop-i l = record {
  size : length l.buf ≡ length l.initial.buf;
  room : l.at + length (laid_from (l.count - l.i) l.signed l.i l.values) ≤ length l.initial.buf;
  whole : (b : List ℕ) (e : ℕ) → Put l.buf b (laid_from (l.count - l.i) l.signed l.i l.values) l.at e → Put l.initial.buf b (laid l.count l.signed l.values) l.from e;
}
