-- The text of a cell as WN sends it and as QM shows what was stored, computed; nothing is shown of a text that is wrong.
-- Assumes nothing.
use Prim.Native.Nat.{ℕ}
use Prim.Native.String.{String}
use mathlib.Core.Path.{◌≡◌, refl}
use mathlib.Core.List.{List, [], ◌∷◌, map}
use Rattle.laws.specs.Tests.{choose, both, either}
use Rattle.laws.specs.Text.{bytes}
use Rattle.decimal.specs.Printing.{digits, width_from, width, decimal, signed}
use Rattle.decimal.specs.Parsing.{value_from, number_of, fixed_of, within, negated, signed_of}
use Rattle.frequency.specs.Table.{following, rising, frequencies}
use Rattle.frequency.specs.Places.{hertz_of, not_above, place_of}
use Rattle.fields.specs.Reader.{field_length, field_at}
use Rattle.fields.specs.Names.{pair_of, listed, list_of, place_from}
use Rattle.fields.specs.Kinds.{next_of, sign_of, multiplier_digit, multiplier_of, name_of, parse_field, letters_of, print_field}
use Rattle.fields.specs.Rows.{fields_from, parse_fields, ended, parse_all, print_fields}
use Rattle.instruction.specs.declared.Cell.{Cell}
use Rattle.instruction.specs.Codes.{code_of}
use Rattle.format.specs.Formats.{fields_in, fields_of, known_in, known}
use Rattle.instruction.specs.Numbers.{travel_of, numbers_with, cam_of, cell_with, cell_of}
use Rattle.instruction.specs.Texts.{cell_text, sent_fields, sent_code, sent_cell}
use Rattle.std.specs.declared.option.Option.{Option}
use Rattle.std.specs.declared.option.Option.TheVariants.{Some, None}

-- what the cases unfold
computing : Unit {0}
unfolding choose both either bytes digits width_from width decimal signed value_from number_of fixed_of within negated signed_of following rising
    frequencies hertz_of not_above place_of field_length field_at pair_of listed list_of place_from next_of sign_of multiplier_digit multiplier_of name_of
    parse_field letters_of print_field fields_from parse_fields ended parse_all print_fields code_of fields_in fields_of known_in known travel_of
    numbers_with cam_of cell_with cell_of cell_text sent_fields sent_code sent_cell
computing = tt

-- what QM shows of what was stored
shown : Option Cell → List ℕ
shown (Some c) = cell_text c
shown None = []

-- what is sent, and what is shown
cases : List (String × String)
cases =
    (",01,03,10,+7,x1,000", ",01,03,10,+7,x1,000")
    -- 01: "leading zeros allowed", "minus zero is zero", "also with X, printed x"
    ∷ (",31,240,42,-0,X4,230", ",31,240,42,+0,x4,230")
    ∷ (",02,24,10,-,X1,100", ",02,24,10,-,x1,100")
    ∷ (",32,030,10,+,x4,000", ",32,030,10,+,x4,000")
    ∷ (",11,30,-8388607,x1,000", ",11,30,-8388607,x1,000")
    ∷ (",12,02,-,x4,000", ",12,02,-,x4,000")
    ∷ (",03,03,42,-,30,101", ",03,03,42,-,30,101")
    ∷ (",05,24,10,-,0008388607,x4,100", ",05,24,10,-,8388607,x4,100")
    -- 01: "FFFF 0001 to 4800 is stored as the greatest table value not above it", "* 319→318", "* 2200→2181"
    ∷ (",21,2200,+1,x1,000", ",21,2181,+1,x1,000")
    ∷ (",22,0319,+,x1,000", ",22,0318,+,x1,000")
    ∷ (",22,0000,+,x1,000", "")
    ∷ (",22,4801,+,x1,000", "")
    -- 01, of the 57: "stored +0 for V=0"
    ∷ (",57,1,-2147483648,000", ",57,1,-2147483648,000")
    ∷ (",57,0,-5,000", ",57,0,+0,000")
    ∷ (",58,F7,1,000", ",58,F7,1,000")
    ∷ (",60,100", ",60,100")
    ∷ (",61,65535,000", ",61,65535,000")
    ∷ (",61,0,000", "")
    ∷ (",62,230,000", ",62,230,000")
    ∷ (",62,000,000", "")
    ∷ (",63,PX,0,100,230", ",63,PX,0,100,230")
    -- 02: "Code 65 takes 0 to 8,388,607 milliseconds, and loop counts stay at 65,535"
    ∷ (",65,0,000", ",65,0,000")
    ∷ (",65,65535,000", ",65,65535,000")
    ∷ (",65,65536,000", ",65,65536,000")
    ∷ (",65,8388607,000", ",65,8388607,000")
    ∷ (",65,08388607,230", ",65,8388607,230")
    ∷ (",65,8388608,000", "")
    ∷ (",65,4294967296,000", "")
    ∷ (",61,65536,000", "")
    ∷ (",70,1,000", ",70,1,000")
    ∷ (",00,000", ",00,000")
    -- 01: "Code 69 has no DDD, and its string ends after the 69"
    ∷ (",69", ",69")
    ∷ (",69,", "")
    ∷ (",69,000", "")
    -- no such code, a code of one digit, of three, none; no DDD, a field too many, a field of another code
    ∷ (",04,000", "")
    ∷ (",0,000", "")
    ∷ (",060,000", "")
    ∷ ("", "")
    ∷ (",60", "")
    ∷ (",60,000,000", "")
    ∷ (",02,24,10,+7,x1,000", "")
    ∷ []

cases-hold : map (λ (c : String × String). shown (sent_cell (bytes c.0) 0)) cases ≡ map (λ (c : String × String). bytes c.1) cases
unfolding computing shown cases
cases-hold = refl
