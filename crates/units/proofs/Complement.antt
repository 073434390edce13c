-- Numbers and their bits in two's complement.
-- Assumes nothing.
use Rattle.std.proofs.Common.{◌≡◌, ℕ, suc, ◌-◌, ◌^◌, ◌≤◌, eqb, ℤ, pos, negsuc, nat_abs, sym, refl, ◌∙◌, arith, to_z-of_z, w32, w64, Fits, SFits, to_z, of_z, le-ltb, ne_eqb}
use mir.Facts.{of_z-to_z, sfits_widen}
use Rattle.units.specs.declared.Steps.{Steps}
use Rattle.units.specs.Bits.{steps_of, bits_of}

-- bits to steps and back
pub bits-steps : (b : ℕ) → Fits w32 b → bits_of (steps_of b) ≡ b
bits-steps b f = of_z-to_z f

-- steps to bits and back
pub steps-bits : (n : Steps) → SFits w32 n.0 → steps_of (bits_of n) ≡ n
steps-bits n s = rw (to_z-of_z s)

-- a number of 32 bits in 64
pub to_z-of_z-wide : {z : ℤ} → SFits w32 z → to_z w64 (of_z w64 z) ≡ z
to_z-of_z-wide s = to_z-of_z {w = w64} (sfits_widen (tt {0}) s)

-- the upper half of the bits stands for the negative numbers
pub to_z-high : (b : ℕ) → 2147483648 ≤ b → to_z w32 b ≡ negsuc (2 ^ 32 - suc b)
to_z-high b h = simp (le-ltb b 2147483648 h)

pub of_z-zero : (z : ℤ) → SFits w32 z → eqb (of_z w32 z) 0 ≡ eqb (nat_abs z) 0
of_z-zero (pos n) s = refl
of_z-zero (negsuc n) s = ne_eqb (2 ^ 32 - suc n) 0 (λ e. omega (arith, s.sfits)) ∙ sym (ne_eqb (suc n) 0 (λ e. omega arith))
