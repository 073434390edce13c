-- Taking a choice and joined tests apart.
-- Assumes nothing.
use Prim.Native.Nat.{ℕ, ◌-◌, ◌<◌, ◌≤◌}
use native.Mathlib.Nat.{eq-zero-or-pos}
use native.Mathlib.Omega.{arith}
use mathlib.Core.Path.{◌≡◌, refl}
use mathlib.Core.Bool.{Bool, true, false}
use mathlib.Core.Logic.{◌⊎◌, inl, inr, ⊎_elim}
use Rattle.laws.specs.Tests.{choose, both, either}

pub both_left : (a b : Bool) → both a b ≡ true → a ≡ true
unfolding both
both_left true b t = refl
both_left false b t = t

pub both_right : (a b : Bool) → both a b ≡ true → b ≡ true
unfolding both
both_right true b t = t
both_right false b t = cc

pub both_true : {a b : Bool} → a ≡ true → b ≡ true → both a b ≡ true
unfolding both
both_true {a} {b} s t = rw (s, t)

-- of a false join both tests are false
pub either_left : (a b : Bool) → either a b ≡ false → a ≡ false
unfolding either
either_left true b t = t
either_left false b t = refl

pub either-right : (a b : Bool) → either a b ≡ false → b ≡ false
unfolding either
either-right true b t = cc
either-right false b t = t

-- a join of which one test is true
pub either-true-left : (a b : Bool) → a ≡ true → either a b ≡ true
unfolding either
either-true-left a b t = rw t

pub either-true-right : (a b : Bool) → b ≡ true → either a b ≡ true
unfolding either
either-true-right true b t = refl
either-true-right false b t = t

-- of a true join one test is true
pub either-cases : (a b : Bool) → either a b ≡ true → (a ≡ true) ⊎ (b ≡ true)
unfolding either
either-cases true b t = inl refl
either-cases false b t = inr t

-- what holds of each branch, under its test, holds of the choice
pub choose-by {ℓ} : {A : Type ℓ} (P : A → Type 0) (b : Bool) {x y : A} → (b ≡ true → P x) → (b ≡ false → P y) → P (choose b x y)
unfolding choose
choose-by P true f g = f refl
choose-by P false f g = g refl

pub choose-true {ℓ} : {A : Type ℓ} (b : Bool) (x y : A) → b ≡ true → choose b x y ≡ x
unfolding choose
choose-true b x y e = rw e

pub choose-false {ℓ} : {A : Type ℓ} (b : Bool) (x y : A) → b ≡ false → choose b x y ≡ y
unfolding choose
choose-false b x y e = rw e

pub choose-map : {A B : Type 0} (f : A → B) (b : Bool) (x y : A) → f (choose b x y) ≡ choose b (f x) (f y)
unfolding choose
choose-map f true x y = refl
choose-map f false x y = refl

pub lt-or-le : (a b : ℕ) → (a < b) ⊎ (b ≤ a)
lt-or-le a b = ⊎_elim (λ (e : b - a ≡ 0). inr (omega arith)) (λ (p : 0 < b - a). inl (omega arith)) (eq-zero-or-pos (b - a))
