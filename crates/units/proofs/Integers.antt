-- The size of a sum, a difference and a product of integers, and from the size that a number fits a width.
-- Assumes nothing.
use Rattle.std.proofs.Common.{◌≡◌, ℕ, zero, suc, ◌+◌, ◌*◌, ◌^◌, ◌<◌, ◌≤◌, ℤ, pos, negsuc, ◌+ℤ◌, ◌-ℤ◌, ◌*ℤ◌, neg_ℤ, nat_abs, refl, ⊎_elim, lt_of_le_of_lt, arith, SFits, le-ltb, lt-ltb}
use lib.IntN.{sub_ℕ}
use lib.Signed.{mag}
use mir.Syntax.{Width}
use mir.Val.{hbits}
use Rattle.laws.proofs.Tests.{lt-or-le}

pub nat_abs-neg : (z : ℤ) → nat_abs (neg_ℤ z) ≡ nat_abs z
nat_abs-neg (pos zero) = refl
nat_abs-neg (pos (suc n)) = refl
nat_abs-neg (negsuc n) = refl

nat_abs-subℕ : (a b : ℕ) → nat_abs (sub_ℕ a b) ≤ a + b
nat_abs-subℕ a b =
    ⊎_elim (λ (l : a < b). simp (lt-ltb a b l) (omega arith)) (λ (l : b ≤ a). simp (le-ltb a b l) (omega arith)) (lt-or-le a b)

pub nat_abs-add : (y z : ℤ) → nat_abs (y +ℤ z) ≤ nat_abs y + nat_abs z
nat_abs-add (pos a) (pos b) = omega arith
nat_abs-add (pos a) (negsuc b) = nat_abs-subℕ a (suc b)
nat_abs-add (negsuc a) (pos b) = omega (arith, nat_abs-subℕ b (suc a))
nat_abs-add (negsuc a) (negsuc b) = omega arith

pub nat_abs-sub : (y z : ℤ) → nat_abs (y -ℤ z) ≤ nat_abs y + nat_abs z
nat_abs-sub y z = omega (arith, nat_abs-add y (neg_ℤ z), nat_abs-neg z)

pub nat_abs_mul : (y z : ℤ) → nat_abs (y *ℤ z) ≡ nat_abs y * nat_abs z
nat_abs_mul (pos a) (pos b) = refl
nat_abs_mul (pos a) (negsuc b) = nat_abs-neg (pos (a * suc b))
nat_abs_mul (negsuc a) (pos b) = nat_abs-neg (pos (suc a * b))
nat_abs_mul (negsuc a) (negsuc b) = refl

mag-nat_abs : (z : ℤ) → mag z ≤ nat_abs z
mag-nat_abs (pos n) = omega arith
mag-nat_abs (negsuc n) = omega arith

-- a number that is no larger than k fits a width that holds k
pub sfits-nat_abs : (w : Width) (z : ℤ) (k : ℕ) → nat_abs z ≤ k → k < 2 ^ hbits w → SFits w z
sfits-nat_abs w z k p q = record { sfits = lt_of_le_of_lt (omega (arith, mag-nat_abs z)) q }
