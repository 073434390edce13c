-- No comma, space or control byte is printed.
-- Assumes nothing.
use Prim.Native.Nat.{ℕ, zero, suc, ◌-◌, ◌%◌, ◌^◌, ◌<◌}
use native.Mathlib.Omega.{arith}
use mathlib.Core.Logic.{◌≢◌}
use mathlib.Core.List.{List, [], ◌∷◌}
use lib.ListN.{length, get_or}
use lib.Dec.{ltb}
use Rattle.laws.proofs.Tests.{choose-by}
use Rattle.decimal.specs.Printing.{digits, width, decimal, signed}

-- above 42, so no space and no control byte, and not 44, the comma; 43 and 45 are the signs
pub record PlainByte (b : ℕ) : Type 0 where
  pub above : 42 < b
  pub no_comma : b ≢ 44

-- each byte is plain
unfoldable pub Plain : List ℕ → Type 0
Plain [] = Unit {0}
Plain (b ∷ bs) = PlainByte b × Plain bs

pub plain_at : (s : List ℕ) → Plain s → (k : ℕ) → k < length s → PlainByte (get_or s k 0)
unfolding Plain
plain_at [] p k h = absurd (omega arith)
plain_at (b ∷ s) p zero h = p.0
plain_at (b ∷ s) p (suc k) h = plain_at s p.1 k (omega arith)

pub plain-digits : (w n : ℕ) → Plain (digits w n)
unfolding Plain digits
plain-digits zero n = tt
plain-digits (suc w) n = (record { above = omega arith; no_comma = λ e. omega arith }, plain-digits w (n % 10 ^ w))

pub plain-decimal : (n : ℕ) → Plain (decimal n)
unfolding decimal
plain-decimal n = plain-digits (width n) n

pub plain-signed : (bits : ℕ) → Plain (signed bits)
unfolding Plain signed
plain-signed bits =
    choose-by Plain (ltb bits (2 ^ 31))
    (λ t. (record { above = omega arith; no_comma = λ e. omega arith }, plain-decimal bits))
    (λ t. (record { above = omega arith; no_comma = λ e. omega arith }, plain-decimal (2 ^ 32 - bits)))
