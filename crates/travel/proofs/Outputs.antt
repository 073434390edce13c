-- Outputs that are alike: the same ones are, and not those of which one is complemented.
-- Assumes nothing.
use Prim.Native.Nat.{ℕ, zero, suc, ◌<◌}
use native.Mathlib.Nat.{not-suc-le-zero, le_of_suc-le-suc}
use mathlib.Core.Path.{◌≡◌, refl}
use mathlib.Core.Bool.{Bool, true, false, not}
use mathlib.Core.List.{List, [], ◌∷◌}
use lib.ListN.{length, get_or, set}
use Rattle.laws.specs.Tests.{same}
use Rattle.laws.proofs.Tests.{both_true}
use Rattle.laws.proofs.Joins.{both-false-left, both-false-right}
use Rattle.travel.specs.Travel.{alike}

same_self : (b : Bool) → same b b ≡ true
unfolding same
same_self true = refl
same_self false = refl

same_not : (b : Bool) → same b (not b) ≡ false
unfolding same
same_not true = refl
same_not false = refl

pub alike_self : (l : List Bool) → alike l l ≡ true
unfolding alike
alike_self [] = refl
alike_self (b ∷ l) = both_true (same_self b) (alike_self l)

pub alike-not : (l : List Bool) (k : ℕ) → k < length l → alike l (set l k (not (get_or l k false))) ≡ false
unfolding alike
alike-not [] k h = absurd (not-suc-le-zero h)
alike-not (b ∷ l) zero h = both-false-left _ _ (same_not b)
alike-not (b ∷ l) (suc k) h = both-false-right _ _ (alike-not l k (le_of_suc-le-suc h))
