-- Numbers as decimal text: at a width, in the shortest form, with a sign.
-- Assumes nothing.
use Rattle.std.specs.Prelude.{ℕ, zero, suc, ◌+◌, ◌-◌, ◌/◌, ◌%◌, ◌^◌, List, [], ◌∷◌, ◌≡◌, ltb}
use Rattle.laws.specs.Tests.{choose}
use Rattle.decimal.specs.declared.print.Digit.{Digit}

-- the digit of n at the power p, as a byte, and what is left of n
pub record Split (n p : ℕ) (d : Digit) : Type 0 where
  pub byte : d.byte ≡ 48 + n / p
  pub left : d.left ≡ n % p

-- 02: "by taking powers of ten away": the number m, counted so often, is taken away where it is within what is left
unfoldable pub taken_away : Digit → ℕ → ℕ → Digit
taken_away d m count = choose (ltb d.left m) d (record { byte = d.byte + count; left = d.left - m })

-- 01: "Letters shown as fields have exactly that many digits": the w digits of n (below 10 ^ w), highest first
unfoldable pub digits : ℕ → ℕ → List ℕ
digits zero n = []
digits (suc w) n = (48 + n / 10 ^ w) ∷ digits w (n % 10 ^ w)

-- the least width from w on, at most f more, that holds n
unfoldable pub width_from : ℕ → ℕ → ℕ → ℕ
width_from zero w n = w
width_from (suc f) w n = choose (ltb n (10 ^ w)) w (width_from f (suc w) n)

-- how many digits n (below 10 ^ 10) has
unfoldable pub width : ℕ → ℕ
width n = width_from 9 1 n

-- 01: "Answers print nnn without leading zeros"
unfoldable pub decimal : ℕ → List ℕ
decimal n = digits (width n) n

-- 01: "zero as `+0` where signed": a number of 32 bits in two's complement, with its sign
unfoldable pub signed : ℕ → List ℕ
signed bits = choose (ltb bits (2 ^ 31)) (43 ∷ decimal bits) (45 ∷ decimal (2 ^ 32 - bits))
