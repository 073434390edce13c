-- Decimal text as numbers of 32 bits, within bounds. What does not fit is bad, never wrapped.
-- Assumes nothing.
use Rattle.std.specs.Prelude.{ℕ, ◌+◌, ◌-◌, ◌*◌, ◌%◌, ◌^◌, List, [], ◌∷◌, length, ltb, leb, eqb, Option, Some, None}
use Rattle.laws.specs.Tests.{choose, either}

-- the value of digits, after those whose value is n
unfoldable pub value_from : ℕ → List ℕ → Option ℕ
value_from n [] = choose (ltb n (2 ^ 32)) (Some n) None
value_from n (b ∷ bs) = choose (leb 48 b) (choose (leb b 57) (value_from (n * 10 + (b - 48)) bs) None) None

-- 01: "nnn has 1 to 10 digits, leading zeros allowed"
unfoldable pub number_of : List ℕ → Option ℕ
number_of s = choose (leb 1 (length s)) (choose (leb (length s) 10) (value_from 0 s) None) None

-- 01: "Letters shown as fields have exactly that many digits"
unfoldable pub fixed_of : ℕ → List ℕ → Option ℕ
fixed_of w s = choose (eqb (length s) w) (number_of s) None

-- a number from low to high
unfoldable pub within : ℕ → ℕ → Option ℕ → Option ℕ
within low high (Some v) = choose (leb low v) (choose (leb v high) (Some v) None) None
within low high None = None

-- minus a number, as 32 bits; 01: "minus zero is zero"
unfoldable pub negated : Option ℕ → Option ℕ
negated (Some v) = Some ((2 ^ 32 - v) % 2 ^ 32)
negated None = None

-- 01: "± is a sign that must stand": at most `below` under zero and `above` over it, as 32 bits in two's complement
unfoldable pub signed_of : ℕ → ℕ → List ℕ → Option ℕ
signed_of below above [] = None
signed_of below above (b ∷ bs) =
    choose (eqb b 43) (within 0 above (number_of bs))
    (choose (eqb b 45) (negated (within 0 below (number_of bs))) None)

-- 01, of SA: "sign optional"
unfoldable pub optional_of : ℕ → ℕ → List ℕ → Option ℕ
optional_of below above [] = None
optional_of below above (b ∷ bs) =
    choose (either (eqb b 43) (eqb b 45)) (signed_of below above (b ∷ bs)) (within 0 above (number_of (b ∷ bs)))
