-- Cells as WN sends them and as bytes, computed both ways; bytes of no cell, refused.
-- Assumes nothing.
use Prim.Native.Nat.{ℕ}
use Prim.Native.String.{String}
use mathlib.Core.Path.{◌≡◌, refl}
use mathlib.Core.Bool.{Bool, true, false}
use mathlib.Core.List.{List, [], ◌∷◌, ◌++◌, map}
use lib.ListN.{length}
use Rattle.laws.specs.Tests.{choose, both, either}
use Rattle.laws.specs.Tables.{every}
use Rattle.laws.specs.Text.{bytes}
use Rattle.decimal.specs.Printing.{digits, width_from, width, decimal, signed}
use Rattle.decimal.specs.Parsing.{value_from, number_of, fixed_of, within, negated, signed_of}
use Rattle.frequency.specs.Table.{following, rising, frequencies}
use Rattle.frequency.specs.Places.{hertz_of, not_above, place_of}
use Rattle.fields.specs.Reader.{field_length, field_at}
use Rattle.fields.specs.Names.{pair_of, listed, list_of, place_from}
use Rattle.fields.specs.Kinds.{is_signed, next_of, sign_of, multiplier_digit, multiplier_of, name_of, parse_field, letters_of, print_field, valid_signed, valid}
use Rattle.fields.specs.Rows.{fields_from, parse_fields, ended, parse_all, print_fields}
use Rattle.varint.specs.Groups.{groups_from, groups, behind, read_from, bounded, number_at}
use Rattle.varint.specs.Signs.{folded, unfolded}
use Rattle.format.specs.Formats.{fields_in, fields_of, known_in, known, codes}
use Rattle.instruction.specs.Codes.{code_of}
use Rattle.instruction.specs.Numbers.{travel_of, numbers_with, cam_of, cell_with, cell_of, same_numbers}
use Rattle.instruction.specs.declared.Cell.{Cell}
use Rattle.instruction.specs.Texts.{cell_text, sent_fields, sent_code, sent_cell}
use Rattle.packed.specs.Rows.{number_for, value_for, row_bytes, row_from, read_row}
use Rattle.packed.specs.Cells.{cell_bytes, cell_by, cell_after, cell_in}
use Rattle.packed.specs.declared.cells.ReadCell.{ReadCell}
use Rattle.std.specs.Prelude.{Option, Some, None}

-- what the cases unfold
computing : Unit {0}
unfolding choose both either every bytes digits width_from width decimal signed value_from number_of fixed_of within negated signed_of following rising
    frequencies hertz_of not_above place_of field_length field_at pair_of listed list_of place_from next_of sign_of multiplier_digit multiplier_of name_of
    parse_field letters_of print_field valid_signed valid fields_from parse_fields ended parse_all print_fields groups_from groups behind read_from bounded
    number_at folded unfolded fields_in fields_of known_in known code_of travel_of numbers_with cam_of cell_with cell_of same_numbers cell_text sent_fields
    sent_code sent_cell is_signed number_for value_for row_bytes row_from read_row cell_bytes cell_by cell_after cell_in
computing = tt

-- a cell's text, and its bytes
cases : List (String × List ℕ)
cases =
    -- 2181 Hz is 85 11 in hexadecimal: the frequency, not its place in the table; -1 step is 1, x4 is 1, 230 is e6 01
    (",21,2181,-1,x4,230", 21 ∷ 133 ∷ 17 ∷ 1 ∷ 1 ∷ 230 ∷ 1 ∷ [])
    ∷ (",22,0318,+,x1,000", 22 ∷ 190 ∷ 2 ∷ 0 ∷ 0 ∷ 0 ∷ [])
    ∷ (",02,24,10,-,x4,100", 2 ∷ 24 ∷ 10 ∷ 1 ∷ 1 ∷ 100 ∷ [])
    ∷ (",11,30,-8388607,x1,000", 11 ∷ 30 ∷ 253 ∷ 255 ∷ 255 ∷ 7 ∷ 0 ∷ 0 ∷ [])
    -- the steps of a 05 have no sign of their own
    ∷ (",05,24,10,-,8388607,x4,100", 5 ∷ 24 ∷ 10 ∷ 1 ∷ 255 ∷ 255 ∷ 255 ∷ 3 ∷ 1 ∷ 100 ∷ [])
    ∷ (",57,1,-1,000", 57 ∷ 1 ∷ 1 ∷ 0 ∷ [])
    ∷ (",57,1,-2147483648,000", 57 ∷ 1 ∷ 255 ∷ 255 ∷ 255 ∷ 255 ∷ 15 ∷ 0 ∷ [])
    ∷ (",57,0,+0,000", 57 ∷ 0 ∷ 0 ∷ 0 ∷ [])
    -- names by their places: FC is 4 of those that 58 sets, F7 is 15 of those that 63 tests
    ∷ (",58,FC,1,000", 58 ∷ 4 ∷ 1 ∷ 0 ∷ [])
    ∷ (",63,F7,0,230,100", 63 ∷ 15 ∷ 0 ∷ 230 ∷ 1 ∷ 100 ∷ [])
    ∷ (",61,65535,000", 61 ∷ 255 ∷ 255 ∷ 3 ∷ 0 ∷ [])
    -- 02, of longer waits: "small numbers keep their groups"
    ∷ (",65,65535,000", 65 ∷ 255 ∷ 255 ∷ 3 ∷ 0 ∷ [])
    ∷ (",65,65536,000", 65 ∷ 128 ∷ 128 ∷ 4 ∷ 0 ∷ [])
    ∷ (",65,8388607,000", 65 ∷ 255 ∷ 255 ∷ 255 ∷ 3 ∷ 0 ∷ [])
    ∷ (",60,100", 60 ∷ 100 ∷ [])
    ∷ (",00,000", 0 ∷ 0 ∷ [])
    -- 01: "Code 69 has no DDD": its code alone
    ∷ (",69", 69 ∷ [])
    ∷ []

written : Option Cell → List ℕ
written (Some c) = cell_bytes c
written None = []

cases-written : map (λ (c : String × List ℕ). written (sent_cell (bytes c.0) 0)) cases ≡ map (λ (c : String × List ℕ). c.1) cases
unfolding computing written cases
cases-written = refl

-- the place after a cell, and its text
shown : Option ReadCell → List ℕ
shown (Some r) = r.next ∷ cell_text r.cell
shown None = []

cases-read :
    map (λ (c : String × List ℕ). shown (cell_in codes (c.1 ++ 7 ∷ []) 0)) cases
    ≡ map (λ (c : String × List ℕ). length c.1 ∷ bytes c.0) cases
unfolding computing shown cases
cases-read = refl

refused : List (List ℕ)
refused =
    -- 319 Hz, which is not in the table, 0 Hz and 4801 Hz
    (22 ∷ 191 ∷ 2 ∷ 0 ∷ 0 ∷ 0 ∷ [])
    ∷ (22 ∷ 0 ∷ 0 ∷ 0 ∷ 0 ∷ [])
    ∷ (22 ∷ 193 ∷ 37 ∷ 0 ∷ 0 ∷ 0 ∷ [])
    -- a 57 with V 0 and +1; a position of more than 32 bits
    ∷ (57 ∷ 0 ∷ 2 ∷ 0 ∷ [])
    ∷ (57 ∷ 1 ∷ 255 ∷ 255 ∷ 255 ∷ 255 ∷ 16 ∷ 0 ∷ [])
    -- a loop count of 65,536
    ∷ (61 ∷ 128 ∷ 128 ∷ 4 ∷ 0 ∷ [])
    -- DDD 256, which no cell holds
    ∷ (60 ∷ 128 ∷ 2 ∷ [])
    -- no such code
    ∷ (4 ∷ 0 ∷ [])
    ∷ (71 ∷ 0 ∷ [])
    -- longer forms, of a code and of DDD
    ∷ (188 ∷ 0 ∷ 100 ∷ [])
    ∷ (60 ∷ 128 ∷ 0 ∷ [])
    -- cut off
    ∷ []
    ∷ (60 ∷ [])
    ∷ (21 ∷ 133 ∷ [])
    ∷ []

is_wrong : Option ReadCell → Bool
is_wrong (Some r) = false
is_wrong None = true

cases-refused : every (λ (s : List ℕ). is_wrong (cell_in codes s 0)) refused ≡ true
unfolding computing is_wrong refused
cases-refused = refl
