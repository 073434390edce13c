-- 02, Slip 2: what an instruction adds to the totals of a program.
-- Assumes nothing.
use Rattle.std.specs.Prelude.{ℕ, Bool, false, List, [], ◌∷◌, get_or, eqb, Option, Some, None}
use Rattle.laws.specs.Tests.{choose, either}
use Rattle.units.specs.Shift.{scaled_of}
use Rattle.units.specs.declared.Milliseconds.{Milliseconds}
use Rattle.units.specs.declared.NetSteps.{NetSteps}
use Rattle.units.specs.declared.Steps.{Steps}
use Rattle.instruction.specs.Codes.{code_of}
use Rattle.instruction.specs.Numbers.{numbers_with}
use Rattle.instruction.specs.Runs.{profile_of}
use Rattle.instruction.specs.declared.Instruction.{Instruction}
use Rattle.instruction.specs.declared.adding.Sums.{Sums}

-- "Codes 00, 01, 11, 21, 31, 57, 58, 60, 65 and 70 are allowed."
abbrev pub totalled_codes : List ℕ
totalled_codes = 0 ∷ 1 ∷ 11 ∷ 21 ∷ 31 ∷ 57 ∷ 58 ∷ 60 ∷ 65 ∷ 70 ∷ []

unfoldable pub is_one_of : List ℕ → ℕ → Bool
is_one_of [] k = false
is_one_of (x ∷ xs) k = either (eqb k x) (is_one_of xs k)

-- n×m: "(with multipliers, relative mode)"
unfoldable pub net_of : Steps → Bool → NetSteps
net_of n x = record { 0 = scaled_of n x }

abbrev pub waits : ℕ → Milliseconds
waits n = record { 0 = n }

-- "the delay milliseconds": nnn of a 65
unfoldable pub delay_of : Instruction → Milliseconds
delay_of i = waits (choose (eqb (code_of i) 65) (get_or (numbers_with i 0) 0 0) 0)

abbrev pub sums : NetSteps → Milliseconds → Sums
sums n d = record { steps = n; delay = d }

-- the steps and the milliseconds of a code that is allowed; every other is "another code"
unfoldable pub added_of : Instruction → Option Sums
added_of i =
    choose (is_one_of totalled_codes (code_of i)) (Some (sums (net_of (profile_of i).steps (profile_of i).x4) (delay_of i))) None
