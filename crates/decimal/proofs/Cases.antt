-- Computed examples, refusals included.
-- Assumes nothing.
use Prim.Native.Nat.{ℕ, ◌-◌, ◌^◌}
use Prim.Native.String.{String}
use mathlib.Core.Path.{◌≡◌, refl}
use mathlib.Core.List.{List, [], ◌∷◌, map}
use Rattle.laws.specs.Tests.{choose, either}
use Rattle.laws.specs.Text.{bytes}
use Rattle.decimal.specs.Printing.{digits, width_from, width, decimal, signed}
use Rattle.decimal.specs.Parsing.{value_from, number_of, fixed_of, within, negated, signed_of, optional_of}
use Rattle.std.specs.declared.option.Option.{Option}
use Rattle.std.specs.declared.option.Option.TheVariants.{Some, None}

-- each text, parsed
unfoldable parsed : (List ℕ → Option ℕ) → List String → List (Option ℕ)
parsed f texts = map (λ (s : String). f (bytes s)) texts

-- 01: "zero as `+0` where signed"
signed-cases :
    map signed (0 ∷ 7 ∷ 2147483647 ∷ 2147483648 ∷ 4294967295 ∷ [])
    ≡ map bytes ("+0" ∷ "+7" ∷ "+2147483647" ∷ "-2147483648" ∷ "-1" ∷ [])
unfolding bytes signed decimal digits width width_from choose
signed-cases = refl

-- 01: "nnn has 1 to 10 digits, leading zeros allowed"
number-cases :
    parsed number_of ("0" ∷ "4294967295" ∷ "4294967296" ∷ "9999999999" ∷ "0000000007" ∷ "00000000007" ∷ "" ∷ "1:" ∷ "/1" ∷ [])
    ≡ Some 0 ∷ Some 4294967295 ∷ None ∷ None ∷ Some 7 ∷ None ∷ None ∷ None ∷ None ∷ []
unfolding parsed bytes number_of value_from choose
number-cases = refl

-- 01: "Letters shown as fields have exactly that many digits"
fixed-cases : parsed (fixed_of 3) ("007" ∷ "07" ∷ "0007" ∷ "+07" ∷ []) ≡ Some 7 ∷ None ∷ None ∷ None ∷ []
unfolding parsed bytes fixed_of number_of value_from choose
fixed-cases = refl

-- 01: "± is a sign that must stand, and minus zero is zero"
signed-of-cases :
    parsed (signed_of (2 ^ 31) (2 ^ 31 - 1)) ("-0" ∷ "+007" ∷ "-2147483648" ∷ "-2147483649" ∷ "+2147483647" ∷ "+2147483648" ∷ "7" ∷ "+" ∷ [])
    ≡ Some 0 ∷ Some 7 ∷ Some (2 ^ 31) ∷ None ∷ Some (2 ^ 31 - 1) ∷ None ∷ None ∷ None ∷ []
unfolding parsed bytes signed_of negated within number_of value_from choose
signed-of-cases = refl

-- 01, of SA: "sign optional"
optional-cases :
    parsed (optional_of (2 ^ 31) (2 ^ 31 - 1)) ("7" ∷ "+7" ∷ "-7" ∷ "2147483648" ∷ "--7" ∷ "" ∷ [])
    ≡ Some 7 ∷ Some 7 ∷ Some (2 ^ 32 - 7) ∷ None ∷ None ∷ None ∷ []
unfolding parsed bytes optional_of signed_of negated within number_of value_from either choose
optional-cases = refl
