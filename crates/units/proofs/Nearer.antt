-- What remains after one more step: one less, with the same sign.
-- Assumes nothing.
use Rattle.std.proofs.Common.{◌≡◌, zero, suc, ◌-◌, min, false, eqb, ℤ, pos, negsuc, ◌+ℤ◌, ◌-ℤ◌, nat_abs, sym, refl, ap, ◌∙◌, arith, to_z-of_z, w32, SFits, to_z, of_z, le-ltb, ne_eqb}
use Rattle.std.specs.Int.{int_signum}
use lib.IntN.{+ℤ_one, -ℤ_one}
use lib.Signed.{lt_z}
use Rattle.laws.specs.Tests.{choose}
use Rattle.units.specs.declared.Steps.{Steps}
use Rattle.units.specs.Remaining.{is_zero_of, is_negative_of, nearer_of}
use Rattle.units.specs.Shift.{Within}

-- a number by clauses: one nearer to zero
nearerℤ : ℤ → ℤ
nearerℤ (pos zero) = pos zero
nearerℤ (pos (suc n)) = pos n
nearerℤ (negsuc zero) = pos zero
nearerℤ (negsuc (suc n)) = negsuc n

-- the definition, by clauses
nearer-is : (n : Steps) → (nearer_of n).0 ≡ nearerℤ n.0
unfolding nearer_of choose is_negative_of is_zero_of nearerℤ
nearer-is n = by n.0
  where
    by : (z : ℤ) → choose (lt_z z (pos 0)) (z +ℤ pos 1) (choose (eqb (nat_abs z) 0) z (z -ℤ pos 1)) ≡ nearerℤ z
    by (pos zero) = refl
    by (pos (suc n)) = simp (le-ltb (suc n) 0 (omega arith), ne_eqb (suc n) 0 (λ e. omega arith), -ℤ_one)
    by (negsuc zero) = refl
    by (negsuc (suc n)) = +ℤ_one (negsuc (suc n))

-- a step takes one away
pub nat_abs-nearer : (n : Steps) → nat_abs (nearer_of n).0 ≡ nat_abs n.0 - 1
unfolding nearerℤ
nat_abs-nearer n = ap nat_abs (nearer-is n) ∙ by n.0
  where
    by : (z : ℤ) → nat_abs (nearerℤ z) ≡ nat_abs z - 1
    by (pos zero) = refl
    by (pos (suc n)) = omega arith
    by (negsuc zero) = refl
    by (negsuc (suc n)) = omega arith

-- the last step leaves none
pub nearer-one : nearer_of (record { 0 = pos 1 }) ≡ record { 0 = pos 0 }
unfolding nearer_of choose is_negative_of is_zero_of
nearer-one = refl

pub nearer-minus-one : nearer_of (record { 0 = negsuc 0 }) ≡ record { 0 = pos 0 }
unfolding nearer_of choose is_negative_of is_zero_of
nearer-minus-one = refl

-- where some remain, they have the sign that they had
pub is_negative-nearer : (n : Steps) → is_zero_of (nearer_of n) ≡ false → is_negative_of (nearer_of n) ≡ is_negative_of n
unfolding is_negative_of is_zero_of nearerℤ
is_negative-nearer n h =
    ap (λ (z : ℤ). lt_z z (pos 0)) (nearer-is n) ∙ by n.0 (ap (λ (z : ℤ). eqb (nat_abs z) 0) (sym (nearer-is n)) ∙ h)
  where
    by : (z : ℤ) → eqb (nat_abs (nearerℤ z)) 0 ≡ false → lt_z (nearerℤ z) (pos 0) ≡ lt_z z (pos 0)
    by (pos zero) e = refl
    by (pos (suc n)) e = simp (le-ltb n 0 (omega arith), le-ltb (suc n) 0 (omega arith))
    by (negsuc zero) e = cc
    by (negsuc (suc n)) e = refl

-- what remains stays within the limit
pub within-nearer : (n : Steps) → Within n.0 → Within (nearer_of n).0
within-nearer n w = record { within = omega (arith, nat_abs-nearer n, w.within) }

-- less its sign, a number is one nearer to zero, and fits the width that it fitted
less-signum : (z : ℤ) → z -ℤ int_signum z ≡ nearerℤ z
unfolding nearerℤ
less-signum (pos zero) = refl
less-signum (pos (suc n)) = let e : min (suc n) 1 ≡ 1 = omega arith in rw e (-ℤ_one (pos (suc n)))
less-signum (negsuc zero) = refl
less-signum (negsuc (suc n)) = +ℤ_one (negsuc (suc n))

sfits-nearer : (z : ℤ) → SFits w32 z → SFits w32 (nearerℤ z)
unfolding nearerℤ
sfits-nearer (pos zero) s = s
sfits-nearer (pos (suc n)) s = record { sfits = omega (arith, s.sfits) }
sfits-nearer (negsuc zero) s = record { sfits = omega arith }
sfits-nearer (negsuc (suc n)) s = record { sfits = omega (arith, s.sfits) }

sfits-signum : (z : ℤ) → SFits w32 (int_signum z)
sfits-signum (pos n) = record { sfits = omega arith }
sfits-signum (negsuc n) = record { sfits = omega arith }

-- the same of the numbers as they are read back from their bits
pub nearer-bits : (n : Steps) → SFits w32 n.0 → to_z w32 (of_z w32 (n.0 -ℤ to_z w32 (of_z w32 (int_signum n.0)))) ≡ (nearer_of n).0
nearer-bits n s = rw (to_z-of_z (sfits-signum n.0), less-signum n.0, to_z-of_z (sfits-nearer n.0 s)) (sym (nearer-is n))
