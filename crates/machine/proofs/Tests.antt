-- Laws of tests and lists that are not particular to the drive.
-- Assumes nothing.
use Prim.Native.Nat.{ℕ, zero, suc}
use mathlib.Core.Path.{◌≡◌, refl, sym, subst, ◌∙◌}
use mathlib.Core.Bool.{Bool, true, false}
use mathlib.Core.List.{List, [], ◌∷◌}
use lib.Dec.{T}
use lib.ListN.{set}
use Rattle.laws.specs.Tests.{both, either}
use Rattle.laws.specs.Tables.{every}
use Rattle.laws.proofs.Tests.{both_left, both_right, both_true}

-- no test is both
pub clash {ℓ} : {X : Type ℓ} → false ≡ true → X
clash e = absurd (subst T (sym e) tt)

-- a test passes or fails
pub by-test {ℓ} : {X : Type ℓ} (b : Bool) → (b ≡ true → X) → (b ≡ false → X) → X
by-test true f g = f refl
by-test false f g = g refl

-- one of two holds, and the other does not
pub either_first : (a b : Bool) → either a b ≡ true → b ≡ false → a ≡ true
unfolding either
either_first true b t u = refl
either_first false b t u = clash (sym u ∙ t)

pub either_second : (a b : Bool) → either a b ≡ true → a ≡ false → b ≡ true
unfolding either
either_second true b t u = clash (sym u)
either_second false b t u = t

-- the second to the sixth of tests that are joined
pub second : (a b c : Bool) → both a (both b c) ≡ true → b ≡ true
second a b c t = both_left _ _ (both_right _ _ t)

pub third : (a b c d : Bool) → both a (both b (both c d)) ≡ true → c ≡ true
third a b c d t = second _ _ _ (both_right _ _ t)

pub fourth : (a b c d e : Bool) → both a (both b (both c (both d e))) ≡ true → d ≡ true
fourth a b c d e t = third _ _ _ _ (both_right _ _ t)

pub fifth : (a b c d e f : Bool) → both a (both b (both c (both d (both e f)))) ≡ true → e ≡ true
fifth a b c d e f t = fourth _ _ _ _ _ (both_right _ _ t)

pub sixth : (a b c d e f g : Bool) → both a (both b (both c (both d (both e (both f g))))) ≡ true → f ≡ true
sixth a b c d e f g t = fifth _ _ _ _ _ _ (both_right _ _ t)

-- a list of which every entry passes, with another that passes
pub every_set {ℓ} :
    {A : Type ℓ} (f : A → Bool) (xs : List A) (i : ℕ) (x : A) → every f xs ≡ true → f x ≡ true → every f (set xs i x) ≡ true
unfolding every
every_set f [] i x t h = refl
every_set f (y ∷ ys) zero x t h = both_true h (both_right _ _ t)
every_set f (y ∷ ys) (suc i) x t h = both_true (both_left _ _ t) (every_set f ys i x (both_right _ _ t) h)
