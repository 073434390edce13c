-- From a test that is computed over a whole list to the rule at each entry.
-- Assumes nothing.
use Prim.Native.Nat.{ℕ, zero, suc, ◌+◌, ◌<◌}
use native.Mathlib.Nat.{add-zero, zero-add, add-suc, suc-add, le_of_suc-le-suc, not-suc-le-zero}
use native.Mathlib.Decide.{ℕ_discrete}
use native.Mathlib.Omega.{arith}
use mathlib.Core.Path.{◌≡◌, ◌∙◌, ap, sym}
use mathlib.Core.Bool.{Bool, true}
use mathlib.Core.List.{List, [], ◌∷◌}
use lib.ListN.{length, get_or}
use Rattle.laws.specs.Tables.{every_from, every, all_below}
use Rattle.laws.proofs.Tests.{both_left, both_right}

every_from-get {ℓ} : {A : Type ℓ} (f : ℕ → A → Bool) (d : A) (xs : List A) (i : ℕ) → every_from f i xs ≡ true → (k : ℕ) → k < length xs → f (i + k) (get_or xs k d) ≡ true
unfolding every_from
every_from-get f d [] i t k h = absurd (not-suc-le-zero h)
every_from-get f d (x ∷ xs) i t zero h = rw (add-zero i) (both_left _ _ t)
every_from-get f d (x ∷ xs) i t (suc k) h =
    rw (add-suc i k, ← suc-add i k) (every_from-get f d xs (suc i) (both_right _ _ t) k (le_of_suc-le-suc h))

-- a test with places, at one place
pub every_from-at {ℓ} : {A : Type ℓ} (f : ℕ → A → Bool) (d : A) (xs : List A) → every_from f 0 xs ≡ true → (k : ℕ) → k < length xs → f k (get_or xs k d) ≡ true
every_from-at f d xs t k h = ap (λ (i : ℕ). f i (get_or xs k d)) (sym (zero-add k)) ∙ every_from-get f d xs 0 t k h

pub every-at {ℓ} : {A : Type ℓ} (f : A → Bool) (d : A) (xs : List A) → every f xs ≡ true → (k : ℕ) → k < length xs → f (get_or xs k d) ≡ true
unfolding every
every-at f d [] t k h = absurd (not-suc-le-zero h)
every-at f d (x ∷ xs) t zero h = both_left _ _ t
every-at f d (x ∷ xs) t (suc k) h = every-at f d xs (both_right _ _ t) k (le_of_suc-le-suc h)

pub all_below-at : (f : ℕ → Bool) (n k : ℕ) → all_below f n ≡ true → k < n → f k ≡ true
unfolding all_below
all_below-at f zero k t h = absurd (not-suc-le-zero h)
all_below-at f (suc n) k t h = pick (ℕ_discrete k n) (all_below-at f n k (both_right _ _ t))
  where
    pick : Dec (k ≡ n) → (k < n → f k ≡ true) → f k ≡ true
    pick (yes e) g = rw e (both_left _ _ t)
    pick (no e) g = g (omega arith)
