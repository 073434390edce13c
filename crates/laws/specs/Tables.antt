-- One test over every entry of a list, with the entry's place: how a table's rule is stated.
-- Assumes nothing.
use Rattle.std.specs.Prelude.{ℕ, zero, suc, Bool, true, List, [], ◌∷◌}
use Rattle.laws.specs.Tests.{both}

-- the test passes at each entry and its place, counted from i
unfoldable pub every_from {ℓ} : {A : Type ℓ} → (ℕ → A → Bool) → ℕ → List A → Bool
every_from f i [] = true
every_from f i (x ∷ xs) = both (f i x) (every_from f (suc i) xs)

unfoldable pub every {ℓ} : {A : Type ℓ} → (A → Bool) → List A → Bool
every f [] = true
every f (x ∷ xs) = both (f x) (every f xs)

-- the test passes at each number below n
unfoldable pub all_below : (ℕ → Bool) → ℕ → Bool
all_below f zero = true
all_below f (suc n) = both (f n) (all_below f n)
