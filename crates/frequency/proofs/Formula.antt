-- Rounding by the formula gives the greatest whole part not above.
-- Assumes nothing.
use Prim.Native.Nat.{ℕ, ◌+◌, ◌*◌, ◌/◌, ◌≤◌, ◌<◌}
use native.Mathlib.Nat.{le_trans, le_antisymm, mul_comm, mul-le-mul_left}
use native.Mathlib.Nat.{le-div_iff_mul-le, div-lt_iff_lt-mul, div-lt_self, lt-mul-div-succ, div-mul-le_self, mul-div-le}
use native.Mathlib.Omega.{arith}
use mathlib.Core.Path.{◌≡◌, refl, ap, ◌∙◌}
use lib.Dec.{lit≤}
use Rattle.frequency.specs.Table.{WholePart, following}
use Rattle.frequency.specs.Rounding.{Greatest, round_of}

-- a greater divisor gives no greater quotient
pub div-le-div : (n : ℕ) {d e : ℕ} → 0 < d → d ≤ e → n / e ≤ n / d
div-le-div n {d} {e} h l =
    (le-div_iff_mul-le {k = d} {x = n / e} {y = n} h).1
    (le_trans (mul-le-mul_left (n / e) l) (div-mul-le_self n e))

-- the divisor of the formula: 20 to 96,000
divisor-least : (f : ℕ) → f ≤ 4800 → 20 ≤ 96000 / (f + 1) + 1
divisor-least f h =
    let q : 19 ≤ 96000 / (f + 1) = (le-div_iff_mul-le {k = f + 1} {x = 19} {y = 96000} (omega arith)).1 (omega arith) in
    omega arith

divisor-most : (f : ℕ) → 1 ≤ f → 96000 / (f + 1) + 1 ≤ 96000
divisor-most f h =
    let q : 96000 / (f + 1) < 96000 = div-lt_self {n = 96000} {k = f + 1} (lit≤ tt) (omega arith) in
    omega arith

pub round-below : (f : ℕ) → round_of f ≤ f
unfolding round_of
round-below f =
    let b : 96000 < (f + 1) * (96000 / (f + 1) + 1) = lt-mul-div-succ 96000 {b = f + 1} (omega arith) in
    let l : 96000 / (96000 / (f + 1) + 1) < f + 1 = (div-lt_iff_lt-mul {k = 96000 / (f + 1) + 1} {x = 96000} {y = f + 1} (omega arith)).1 b in
    omega arith

-- no whole part lies between the formula's and f
round-most : (f d : ℕ) → 20 ≤ d → 96000 / d ≤ f → 96000 / d ≤ round_of f
unfolding round_of
round-most f d h l =
    let a : 96000 < (f + 1) * d = (div-lt_iff_lt-mul {k = d} {x = 96000} {y = f + 1} (omega arith)).0 (omega arith) in
    let b : 96000 < d * (f + 1) = rw (mul_comm d (f + 1)) a in
    let q : 96000 / (f + 1) < d = (div-lt_iff_lt-mul {k = f + 1} {x = 96000} {y = d} (omega arith)).1 b in
    div-le-div 96000 {d = 96000 / (f + 1) + 1} {e = d} (omega arith) (omega arith)

-- 01: "is stored as the greatest table value not above it"
pub round-greatest : (f : ℕ) → 1 ≤ f → f ≤ 4800 → Greatest f (round_of f)
unfolding round_of
round-greatest f h1 h2 =
    record {
      one = record { divisor = 96000 / (f + 1) + 1; least = divisor-least f h2; most = divisor-most f h1; whole = refl };
      below = round-below f;
      greatest = λ w q l. rw q.whole (round-most f q.divisor q.least (rw q.whole at l));
    }

-- from a whole part to below the next one the formula gives the first
pub round-between : (x f : ℕ) → round_of x ≡ x → x ≤ f → f < following x → round_of f ≡ x
unfolding round_of following
round-between x f e l u =
    let d = 96000 / (x + 1) in
    let a : 96000 / (f + 1) ≤ d = div-le-div 96000 {d = x + 1} {e = f + 1} (omega arith) (omega arith) in
    let m : d * (f + 1) ≤ d * (96000 / d) = mul-le-mul_left d (omega arith) in
    let b : d ≤ 96000 / (f + 1) = (le-div_iff_mul-le {k = f + 1} {x = d} {y = 96000} (omega arith)).1 (le_trans m (mul-div-le 96000 d)) in
    ap (λ (n : ℕ). 96000 / (n + 1)) (le_antisymm a b) ∙ e

pub whole_part-low : (v : ℕ) → WholePart v → 1 ≤ v
whole_part-low v q = rw q.whole ((le-div_iff_mul-le {k = q.divisor} {x = 1} {y = 96000} (omega (arith, q.least))).1 (omega (arith, q.most)))

pub whole_part-high : (v : ℕ) → WholePart v → v ≤ 4800
whole_part-high v q = rw q.whole (div-le-div 96000 {d = 20} {e = q.divisor} (lit≤ tt) q.least)

-- rounding leaves a whole part as it is
pub round-whole_part : (v : ℕ) → WholePart v → round_of v ≡ v
round-whole_part v q =
    let g : Greatest v (round_of v) = round-greatest v (whole_part-low v q) (whole_part-high v q) in
    le_antisymm g.below (g.greatest v q (omega arith))
