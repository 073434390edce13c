-- Marking a place that has no mark leaves one fewer without.
-- Assumes nothing.
use Prim.Native.Nat.{ℕ, zero, suc, ◌<◌}
use native.Mathlib.Nat.{not-suc-le-zero}
use native.Mathlib.Omega.{arith}
use mathlib.Core.Path.{◌≡◌}
use mathlib.Core.Bool.{Bool, false}
use mathlib.Core.List.{List, [], ◌∷◌}
use lib.ListN.{length}
use Rattle.laws.specs.Tests.{choose}
use Rattle.cellmap.specs.Marks.{is_marked, marked, unmarked}

pub unmarked-less : (marks : List Bool) (k : ℕ) → k < length marks → is_marked marks k ≡ false → unmarked marks ≡ suc (unmarked (marked marks k))
unfolding unmarked choose
unmarked-less [] k h e = absurd (not-suc-le-zero h)
unmarked-less (b ∷ marks) zero h e = rw e (omega arith)
unmarked-less (b ∷ marks) (suc k) h e = let q = unmarked-less marks k (omega arith) e in omega (arith, q)
