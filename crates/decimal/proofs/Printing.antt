-- What is printed: its length, the width that holds a number, and the two forms of a signed number.
-- Assumes nothing.
use Prim.Native.Nat.{ℕ, zero, suc, ◌+◌, ◌-◌, ◌*◌, ◌/◌, ◌%◌, ◌^◌, ◌≤◌, ◌<◌}
use native.Mathlib.Nat.{one-le-pow, div-lt_iff_lt-mul}
use native.Mathlib.Omega.{arith}
use mathlib.Core.Path.{◌≡◌, refl, ap, subst}
use mathlib.Core.List.{List, ◌∷◌}
use lib.ListN.{length}
use lib.Dec.{ltb, lit<}
use borrow.Author.Tests.{ltb-true, lt-ltb, le-ltb}
use Rattle.laws.specs.Tests.{choose}
use Rattle.laws.proofs.Tests.{choose-by}
use Rattle.decimal.specs.Printing.{digits, width_from, width, decimal, signed}

pub pow_pos : (w : ℕ) → 0 < 10 ^ w
pow_pos w = one-le-pow w 10 (lit< tt)

-- the highest digit of a number below ten times a power
pub digit-small : (n p : ℕ) → 0 < p → n < 10 * p → n / p < 10
digit-small n p pos h = (div-lt_iff_lt-mul pos).1 h

pub length_digits : (w n : ℕ) → length (digits w n) ≡ w
unfolding digits
length_digits zero n = refl
length_digits (suc w) n = ap suc (length_digits w (n % 10 ^ w))

-- a number that f + w digits hold is below the power of its width
pub width_from-holds : (f w n : ℕ) → n < 10 ^ (f + w) → n < 10 ^ width_from f w n
unfolding width_from
width_from-holds zero w n h = subst (λ (k : ℕ). n < 10 ^ k) (omega arith) h
width_from-holds (suc f) w n h =
    choose-by (λ (k : ℕ). n < 10 ^ k) (ltb n (10 ^ w)) (ltb-true n (10 ^ w))
    (λ t. width_from-holds f (suc w) n (subst (λ (k : ℕ). n < 10 ^ k) (omega arith) h))

width_from-range : (f w n : ℕ) → (w ≤ width_from f w n) × (width_from f w n ≤ f + w)
unfolding width_from
width_from-range zero w n = omega arith
width_from-range (suc f) w n =
    choose-by (λ (k : ℕ). (w ≤ k) × (k ≤ suc f + w)) (ltb n (10 ^ w)) (λ t. omega arith) (λ t. omega (arith, width_from-range f (suc w) n))

-- a number is below the power of its width
pub width-holds : (n : ℕ) → n < 10 ^ 10 → n < 10 ^ width n
unfolding width
width-holds n h = width_from-holds 9 1 n h

pub width_small : (n : ℕ) → (1 ≤ width n) × (width n ≤ 10)
unfolding width
width_small n = width_from-range 9 1 n

pub length-decimal : (n : ℕ) → length (decimal n) ≡ width n
unfolding decimal
length-decimal n = length_digits (width n) n

pub signed-plus : (bits : ℕ) → bits < 2 ^ 31 → signed bits ≡ 43 ∷ decimal bits
unfolding signed choose
signed-plus bits h = simp (lt-ltb bits (2 ^ 31) h)

pub signed-minus : (bits : ℕ) → 2 ^ 31 ≤ bits → signed bits ≡ 45 ∷ decimal (2 ^ 32 - bits)
unfolding signed choose
signed-minus bits h = simp (le-ltb bits (2 ^ 31) h)

pub length-signed : (b : ℕ) → (2 ≤ length (signed b)) × (length (signed b) ≤ 11)
unfolding signed
length-signed b =
    choose-by (λ (s : List ℕ). (2 ≤ length s) × (length s ≤ 11)) (ltb b (2 ^ 31))
    (λ t. omega (arith, length-decimal b, width_small b))
    (λ t. omega (arith, length-decimal (2 ^ 32 - b), width_small (2 ^ 32 - b)))
