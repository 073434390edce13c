-- How large steps times m and a shift are, which shifts are steps, and the test of a limit either way as the code makes it.
-- Assumes nothing.
use Rattle.std.proofs.Common.{◌≡◌, ℕ, zero, suc, ◌*◌, ◌≤◌, Bool, true, false, ◌&&◌, leb, ℤ, pos, negsuc, ◌-ℤ◌, neg_ℤ, nat_abs, sym, refl, ◌∙◌, mul-le-mul_left, arith, lit<, lit≤, to_z-of_z, w32, w64, Fits, SFits, to_z, of_z, ltb-false}
use lib.Dec.{leb-zero, leb-suc-zero, leb-suc-suc}
use lib.Signed.{lt_z, le_z, nat_abs-le}
use mir.Facts.{sfits_to_z}
use Rattle.laws.specs.Tests.{choose, either}
use Rattle.laws.proofs.Tests.{either_left, either-right}
use Rattle.laws.proofs.Joins.{and_both, both_end}
use Rattle.units.specs.Limits.{step_limit}
use Rattle.units.specs.declared.Steps.{Steps}
use Rattle.units.specs.declared.position.Position.{Position}
use Rattle.units.specs.Position.{number_of}
use Rattle.units.specs.Shift.{Within, multiplier_of, scaled_of, is_beyond_of}
use Rattle.units.proofs.Integers.{nat_abs_mul, nat_abs-sub, sfits-nat_abs}

nat_abs-multiplier : (x4 : Bool) → nat_abs (multiplier_of x4) ≤ 4
unfolding multiplier_of choose
nat_abs-multiplier true = lit≤ tt
nat_abs-multiplier false = lit≤ tt

-- times m is at most times 4
pub nat_abs-scaled : (n : Steps) (x4 : Bool) → nat_abs (scaled_of n x4) ≤ nat_abs n.0 * 4
unfolding scaled_of
nat_abs-scaled n x4 = rw (nat_abs_mul n.0 (multiplier_of x4)) (mul-le-mul_left (nat_abs n.0) (nat_abs-multiplier x4))

-- 01: "n is ±nnn within 8,388,607 each way". Such steps times m are steps again.
pub within-scaled : (n : Steps) (x4 : Bool) → nat_abs n.0 ≤ step_limit → Within (scaled_of n x4)
within-scaled n x4 h = record { within = omega (arith, nat_abs-scaled n x4) }

-- nothing overflows: every i32 times m, and every i32 less a position, is an i64
pub sfits-scaled : (n : Steps) (x4 : Bool) → SFits w32 n.0 → SFits w64 (scaled_of n x4)
sfits-scaled n x4 s =
    sfits-nat_abs w64 (scaled_of n x4) 8589934592 (omega (arith, nat_abs-scaled n x4, nat_abs-le n.0 s.sfits)) (lit< tt)

pub sfits-shift : (n : Steps) (p : Position) → SFits w32 n.0 → Fits w32 p.0 → SFits w64 (n.0 -ℤ number_of p)
sfits-shift n p s f =
    sfits-nat_abs w64 (n.0 -ℤ number_of p) 4294967296
    (omega (arith, nat_abs-sub n.0 (number_of p), nat_abs-le n.0 s.sfits, nat_abs-le (number_of p) (sfits_to_z f).sfits))
    (lit< tt)

below-neg : (n k : ℕ) → lt_z (negsuc n) (neg_ℤ (pos k)) ≡ false → suc n ≤ k
below-neg n zero t = let e : ◌≡◌ {A = ℕ} 0 1 = cc in absurd (omega arith)
below-neg n (suc k) t = omega (arith, ltb-false k n t)

-- neither above k nor below −k is within k
nat_abs-between : (z : ℤ) (k : ℕ) → either (lt_z (pos k) z) (lt_z z (neg_ℤ (pos k))) ≡ false → nat_abs z ≤ k
nat_abs-between (pos n) k t = ltb-false k n (either_left _ _ t)
nat_abs-between (negsuc n) k t = below-neg n k (either-right _ _ t)

-- a shift that is not beyond is within 8,388,607, and so within the limit of rests
pub within-not-beyond : (z : ℤ) → is_beyond_of z ≡ false → Within z
unfolding is_beyond_of
within-not-beyond z t = record { within = omega (arith, nat_abs-between z step_limit t) }

-- neither below −k nor above k
between-within : (k : ℕ) (z : ℤ) → le_z (neg_ℤ (pos k)) z && le_z z (pos k) ≡ leb (nat_abs z) k
between-within zero (pos n) = simp leb-zero
between-within zero (negsuc n) = sym (leb-suc-zero n)
between-within (suc k) (pos n) = refl
between-within (suc k) (negsuc n) = and_both _ true ∙ both_end _ ∙ sym (leb-suc-suc n k)

-- the same, of a number that was read back from its bits
pub between-within-bits : (k : ℕ) (z : ℤ) → SFits w32 z →
    le_z (neg_ℤ (pos k)) (to_z w32 (of_z w32 z)) && le_z (to_z w32 (of_z w32 z)) (pos k) ≡ leb (nat_abs z) k
between-within-bits k z s = rw (to_z-of_z s) (between-within k z)
