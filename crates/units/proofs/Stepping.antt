-- One step of the position, on the bits and on the number.
-- Assumes nothing.
use Rattle.std.proofs.Common.{◌≡◌, ℕ, suc, ◌+◌, ◌-◌, ◌%◌, ◌^◌, ◌<◌, ◌≤◌, Bool, false, ltb, ℤ, pos, negsuc, ◌+ℤ◌, ◌-ℤ◌, refl, ⊎_elim, arith, to_z-of_z, w32, Fits, SFits, to_z, of_z, ltb-false, le-ltb, lt-ltb}
use mir.Facts.{to_z_pos, of_z-to_z, sfits_lit}
use Rattle.laws.specs.Tests.{choose}
use Rattle.laws.proofs.Tests.{lt-or-le, choose-by}
use Rattle.units.specs.declared.position.Position.{Position}
use Rattle.units.specs.Position.{wrapped, moved, number_of, position_of, stepped_of}
use Rattle.units.proofs.Complement.{to_z-high}

-- bits to a position's number and back
pub position-number : (p : Position) → Fits w32 p.0 → position_of (number_of p) ≡ p
position-number p f = rw (of_z-to_z f)

pub number-position : (z : ℤ) → SFits w32 z → number_of (position_of z) ≡ z
number-position z s = to_z-of_z s

not-past : (n : ℕ) → ltb 2147483647 n ≡ false → n < 2 ^ 31
not-past n t = omega (arith, ltb-false 2147483647 n t)

-- what is wrapped is a number of 32 bits
sfits-wrapped : (z : ℤ) → SFits w32 (wrapped z)
unfolding wrapped choose
sfits-wrapped (pos n) = choose-by (SFits w32) (ltb 2147483647 n) (λ t. sfits_lit tt) (λ t. record { sfits = not-past n t })
sfits-wrapped (negsuc n) = choose-by (SFits w32) (ltb 2147483647 n) (λ t. sfits_lit tt) (λ t. record { sfits = not-past n t })

pub sfits-moved : (z : ℤ) (forward : Bool) → SFits w32 (moved z forward)
unfolding moved
sfits-moved z forward = sfits-wrapped (choose forward (z +ℤ pos 1) (z -ℤ pos 1))

-- the number after a step is the next one, wrapped
pub number-stepped : (p : Position) (forward : Bool) → number_of (stepped_of p forward) ≡ moved (number_of p) forward
unfolding stepped_of
number-stepped p forward = to_z-of_z (sfits-moved (number_of p) forward)

-- a step on adds one to the bits
pub wrapped-forward : (b : ℕ) → b < 2 ^ 32 → of_z w32 (wrapped (to_z w32 b +ℤ pos 1)) ≡ (b + 1) % 2 ^ 32
unfolding wrapped choose
wrapped-forward b f =
    ⊎_elim
    (λ (l : b < 2147483648). rw (to_z_pos w32 {n = b} l) (⊎_elim
    (λ (m : b + 1 < 2147483648). simp (le-ltb 2147483647 (b + 1) (omega arith)) (omega arith))
    (λ (m : 2147483648 ≤ b + 1). simp (lt-ltb 2147483647 (b + 1) (omega arith)) (omega arith))
    (lt-or-le (b + 1) 2147483648)))
    (λ (l : 2147483648 ≤ b). rw (to_z-high b l) (⊎_elim
    (λ (m : b < 4294967295).
    let p : 1 < suc (2 ^ 32 - suc b) = omega arith in
    let q : suc (2 ^ 32 - suc b) - 2 ≤ 2147483647 = omega arith in
    simp (lt-ltb 1 (suc (2 ^ 32 - suc b)) p, le-ltb 2147483647 (suc (2 ^ 32 - suc b) - 2) q) (omega arith))
    (λ (m : 4294967295 ≤ b). let e : b ≡ 4294967295 = omega arith in rw e refl)
    (lt-or-le b 4294967295)))
    (lt-or-le b 2147483648)

-- a step back takes one from the bits
pub wrapped-back : (b r : ℕ) → b < 2 ^ 32 → r < 2 ^ 32 → (r + 1) % 2 ^ 32 ≡ b → of_z w32 (wrapped (to_z w32 b -ℤ pos 1)) ≡ r
unfolding wrapped choose
wrapped-back b r f g h =
    ⊎_elim
    (λ (l : b < 2147483648). rw (to_z_pos w32 {n = b} l) (⊎_elim
    (λ (m : b < 1). let e : b ≡ 0 = omega arith in rw e (omega arith))
    (λ (m : 1 ≤ b). simp (le-ltb b 1 m, le-ltb 2147483647 (b - 1) (omega arith)) (omega arith))
    (lt-or-le b 1)))
    (λ (l : 2147483648 ≤ b). rw (to_z-high b l) (⊎_elim
    (λ (m : b < 2147483649). let e : b ≡ 2147483648 = omega arith in rw e (omega arith))
    (λ (m : 2147483649 ≤ b). simp (le-ltb 2147483647 (suc (2 ^ 32 - suc b + 0)) (omega arith)) (omega arith))
    (lt-or-le b 2147483649)))
    (lt-or-le b 2147483648)
