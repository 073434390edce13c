-- Strings of fields, taken and refused, computed.
-- Assumes nothing.
use Prim.Native.Nat.{ℕ, ◌-◌}
use Prim.Native.String.{String}
use mathlib.Core.Path.{◌≡◌, refl}
use mathlib.Core.Bool.{true}
use mathlib.Core.List.{List, [], ◌∷◌, ◌++◌, map}
use lib.ListN.{length, replicate}
use Rattle.laws.specs.Tests.{choose, both, either}
use Rattle.laws.specs.Text.{bytes}
use Rattle.decimal.specs.Printing.{digits, width_from, width, decimal, signed}
use Rattle.decimal.specs.Parsing.{value_from, number_of, fixed_of, within, negated, signed_of, optional_of}
use Rattle.std.specs.declared.option.Option.{Option}
use Rattle.std.specs.declared.option.Option.TheVariants.{None}
use Rattle.fields.specs.Reader.{field_length, field_at}
use Rattle.fields.specs.Names.{pair_of, listed, list_of, place_from}
use Rattle.fields.specs.Kinds.{next_of, sign_of, multiplier_digit, multiplier_of, name_of, parse_field, letters_of, print_field}
use Rattle.fields.specs.Rows.{parsed, fields_from, parse_fields, ended, parse_all, print_fields}
use Rattle.fields.specs.declared.names.Names.TheVariants.{Settable}
use Rattle.fields.specs.declared.kinds.Kind.{Kind}
use Rattle.fields.specs.declared.kinds.Kind.TheVariants.{Fixed, Next, Signed, Optional, Sign, Multiplier, Name}
use Rattle.fields.specs.declared.rows.Parsed.{Parsed}

-- what the cases unfold
computing : Unit {0}
unfolding choose both either bytes digits width_from width decimal signed value_from number_of fixed_of within negated signed_of
    optional_of field_length field_at pair_of listed list_of place_from next_of sign_of multiplier_digit multiplier_of name_of parse_field letters_of
    print_field fields_from parse_fields ended parse_all print_fields
computing = tt

-- 01: "01 `FF,RR,n,XX`", "02 `FF,RR,s,XX`", "58 `OO,V`", each with its DDD; and SA's "nnn, sign optional"
indexed : List Kind
indexed = Fixed 2 3 24 ∷ Fixed 2 10 42 ∷ Signed 8388607 8388607 ∷ Multiplier ∷ Next ∷ []

free : List Kind
free = Fixed 2 3 24 ∷ Fixed 2 10 42 ∷ Sign ∷ Multiplier ∷ Next ∷ []

output : List Kind
output = Name Settable ∷ Fixed 1 0 1 ∷ Next ∷ []

position : List Kind
position = Optional 2147483648 2147483647 ∷ []

taken : ℕ → List ℕ → Option Parsed
taken at vs = parsed at (vs ++ replicate (6 - length vs) 0)

-- a list of kinds, a string, and what it parses to
cases : List (List Kind × (String × Option Parsed))
cases =
    (indexed, (",03,10,+7,x1,000", taken 16 (3 ∷ 10 ∷ 7 ∷ 0 ∷ 0 ∷ [])))
    -- 01: "leading zeros allowed", "minus zero is zero", "also with X"
    ∷ (indexed, (",24,42,-0000000001,X4,100", taken 25 (24 ∷ 42 ∷ 4294967295 ∷ 1 ∷ 100 ∷ [])))
    ∷ (indexed, (",03,10,-0,x4,230", taken 16 (3 ∷ 10 ∷ 0 ∷ 1 ∷ 230 ∷ [])))
    -- a wrong field: below and above its range, too few digits, too many, another byte
    ∷ (indexed, (",02,10,+7,x1,000", None))
    ∷ (indexed, (",25,10,+7,x1,000", None))
    ∷ (indexed, (",3,10,+7,x1,000", None))
    ∷ (indexed, (",003,10,+7,x1,000", None))
    ∷ (indexed, (",0a,10,+7,x1,000", None))
    ∷ (indexed, (",03,10,+8388608,x1,000", None))
    ∷ (indexed, (",03,10,-8388608,x1,000", None))
    ∷ (indexed, (",03,10,+00000000007,x1,000", None))
    -- 01: "± is a sign that must stand"
    ∷ (indexed, (",03,10,7,x1,000", None))
    ∷ (indexed, (",03,10,+,x1,000", None))
    ∷ (indexed, (",03,10,+7,x2,000", None))
    -- a missing field, one too many, an empty one; no comma in front, two commas, a comma too many at the end
    ∷ (indexed, (",03,10,+7,x1", None))
    ∷ (indexed, (",03,10,+7,x1,000,000", None))
    ∷ (indexed, (",03,10,,x1,000", None))
    ∷ (indexed, ("03,10,+7,x1,000", None))
    ∷ (indexed, (",,03,10,+7,x1,000", None))
    ∷ (indexed, (",03,10,+7,x1,000,", None))
    ∷ (indexed, ("", None))
    -- 01: "DDD 000 (end) or 100 to 230"
    ∷ (indexed, (",03,10,+7,x1,099", None))
    ∷ (indexed, (",03,10,+7,x1,231", None))
    ∷ (indexed, (",03,10,+7,x1,001", None))
    -- 01: "s is + or -"
    ∷ (free, (",03,10,-,x1,000", taken 15 (3 ∷ 10 ∷ 1 ∷ 0 ∷ 0 ∷ [])))
    ∷ (free, (",03,10,+5,x1,000", None))
    -- a name, the last of its list, one in lower case, one of another list
    ∷ (output, (",F7,1,000", taken 9 (12 ∷ 1 ∷ 0 ∷ [])))
    ∷ (output, (",f7,1,000", None))
    ∷ (output, (",CU,1,000", None))
    ∷ (output, (",F7,2,000", None))
    -- 01: "sign optional", "32 bits signed"
    ∷ (position, (",5", taken 2 (5 ∷ [])))
    ∷ (position, (",-2147483648", taken 12 (2147483648 ∷ [])))
    ∷ (position, (",2147483648", None))
    ∷ []

cases-hold : map (λ c. parse_all c.0 (bytes c.1.0) 0) cases ≡ map (λ c. c.1.1) cases
unfolding computing cases indexed free output position taken
cases-hold = refl

-- 01: "printed x", "Answers print nnn without leading zeros"
prints : print_fields indexed (24 ∷ 42 ∷ 4294967295 ∷ 1 ∷ 100 ∷ []) ≡ bytes ",24,42,-1,x4,100"
unfolding computing indexed
prints = refl
