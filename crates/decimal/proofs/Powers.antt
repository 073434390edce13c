-- The table of powers holds 10 ^ k at each place k: one computed test over the table.
-- Assumes nothing.
use Prim.Native.Nat.{ℕ, ◌^◌, ◌<◌}
use mathlib.Core.Path.{◌≡◌, refl}
use mathlib.Core.Bool.{Bool}
use mathlib.Core.List.{List, [], ◌∷◌}
use lib.Dec.{eqb}
use lib.ListN.{get_or}
use borrow.Author.Tests.{eqb-true}
use Rattle.laws.specs.Tests.{both}
use Rattle.laws.specs.Tables.{every_from}
use Rattle.laws.proofs.Tables.{every_from-at}

abbrev pub powers : List ℕ
powers = 1 ∷ 10 ∷ 100 ∷ 1000 ∷ 10000 ∷ 100000 ∷ 1000000 ∷ 10000000 ∷ 100000000 ∷ 1000000000 ∷ []

unfoldable is_power : ℕ → ℕ → Bool
is_power k x = eqb x (10 ^ k)

pub power_at : (k : ℕ) → k < 10 → get_or powers k 0 ≡ 10 ^ k
unfolding is_power every_from both
power_at k h = eqb-true (get_or powers k 0) (10 ^ k) (every_from-at is_power 0 powers refl k h)
