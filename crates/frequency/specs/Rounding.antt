-- Rounding down to a step frequency.
-- Assumes nothing.
use Rattle.std.specs.Prelude.{ℕ, ◌+◌, ◌/◌, ◌≤◌, eqb, ltb, Result, Ok, Err}
use Rattle.laws.specs.Tests.{choose}
use Rattle.frequency.specs.declared.NoFrequency.{NoFrequency}
use Rattle.frequency.specs.Table.{WholePart}

-- 01: "the greatest table value not above it": v, for the value f
pub record Greatest (f v : ℕ) : Type 0 where
  pub one : WholePart v
  pub below : v ≤ f
  pub greatest : (w : ℕ) → WholePart w → w ≤ f → w ≤ v

-- the same as a formula
unfoldable pub round_of : ℕ → ℕ
round_of f = 96000 / (96000 / (f + 1) + 1)

-- 01: "Frequency rounding: 7"
abbrev pub number_of : NoFrequency → ℕ
number_of e = 7

-- the value, or the number of the refusal
abbrev pub rounded_as : Result ℕ NoFrequency → Result ℕ ℕ
rounded_as (Ok v) = Ok v
rounded_as (Err e) = Err (number_of e)

-- 01: "Frequency rounding: 7, value 0 or above 4800."
unfoldable pub rounded_of : ℕ → Result ℕ ℕ
rounded_of f = choose (eqb f 0) (Err 7) (choose (ltb 4800 f) (Err 7) (Ok (round_of f)))
