-- Invariant: the numbers left, read from the place reached and stored after the values so far, give the whole result.
-- Assumes nothing.
use Prim.Native.Nat.{◌-◌}
use mathlib.Core.Path.{◌≡◌}
use mathlib.Core.List.{◌++◌}
use lib.ListN.{length, drop, replicate}
use Rattle.packed.specs.Layout.{laid_read_from, laid_read}
use Rattle.packed.proofs.rows.read_row.Given as goal

abbrev pub invariant-loop-i : goal.invariant-loop-i
invariant-loop-i l = record {
  many : length l.v-items ≡ l.count;
  left : laid_read l.count l.signed l.s l.from ≡ laid_read_from (l.count - l.i) l.signed l.s l.at l.i (l.v-items ++ drop l.count (replicate 6 0));
}
