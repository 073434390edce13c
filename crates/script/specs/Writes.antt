-- docs/SCRIPTS.md, "K: raw writes", and its entry on the numbers of a K line: the words of such a line as a call.
-- Assumes nothing.
use Rattle.std.specs.Prelude.{ℕ, ◌-◌, Bool, true, false, List, [], ◌∷◌, map, length, take, drop, ◌==◌, nat_le, nat_lt, slice_index, slice_index_or, slice_set, Option, Some, None, is_some, unwrap_or, Result, Ok, Err}
use Rattle.std.proofs.lemmas.List.Edits.{sets}
use Rattle.laws.specs.Tests.{choose, both, either}
use Rattle.laws.specs.Text.{bytes}
use Rattle.fields.specs.Kinds.{parse_field}
use Rattle.fields.specs.declared.kinds.Kind.TheVariants.{Name}
use Rattle.fields.specs.declared.names.Names.TheVariants.{Outputs}
use Rattle.format.specs.Formats.{known, fields_of}
use Rattle.script.specs.Words.{words_of, same_bytes, place_of}
use Rattle.script.specs.Numbers.{unsigned_of, positive, integer_of}
use Rattle.script.specs.declared.call.Call.{Call}
use Rattle.script.specs.declared.call.Call.TheVariants.{Writes}
use Rattle.script.specs.declared.call.Write.TheVariants.{Field, Output, Cell}
use Rattle.script.specs.declared.call.Complaint.{Complaint}
use Rattle.script.specs.declared.call.Complaint.TheVariants.{MissingOrExtraWord, NotANumber, UnknownName}

-- ---- a field: "one integer each"

unfoldable pub field_names : List (List ℕ)
field_names =
    words_of
    (bytes "ad in rs es cm pos inp camset campos errcode errcell reccell recrest recloop cell phase rest loop mark")

-- "signed for pos, campos, recrest, rest"
unfoldable pub signed_places : List ℕ
signed_places = map (λ (name : List ℕ). place_of name field_names) (words_of (bytes "pos campos recrest rest"))

unfoldable pub one_of : List ℕ → ℕ → Bool
one_of [] n = false
one_of (k ∷ ks) n = either (n == k) (one_of ks n)

-- whether the integer of the field at a place has a sign
unfoldable pub is_signed : ℕ → Bool
is_signed place = one_of signed_places place

unfoldable pub with_value : ℕ → Option ℕ → Result Call Complaint
with_value place (Some v) = Ok (Writes (Field place v))
with_value place None = Err NotANumber

unfoldable pub field_of : List (List ℕ) → ℕ → Result Call Complaint
field_of words place =
    choose (length words == 3)
    (with_value place (choose (is_signed place) (integer_of (slice_index_or words 2 [])) (positive (unsigned_of (slice_index_or words 2 [])))))
    (Err MissingOrExtraWord)

-- ---- an output: "`out NAME v`"

unfoldable pub with_output : ℕ → Option ℕ → Result Call Complaint
with_output place (Some v) = Ok (Writes (Output place v))
with_output place None = Err NotANumber

-- "14 bits: O0 to O3, F0 to F7, FC, CU": the list of names goes on with two that are no output of the record
unfoldable pub named_output : Option ℕ → Option ℕ → Result Call Complaint
named_output (Some place) value = choose (nat_lt place 14) (with_output place value) (Err UnknownName)
named_output None value = Err UnknownName

unfoldable pub output_of : List (List ℕ) → Result Call Complaint
output_of words =
    choose (length words == 4)
    (named_output (parse_field (Name Outputs) (slice_index_or words 2 [])) (unsigned_of (slice_index_or words 3 [])))
    (Err MissingOrExtraWord)

-- ---- a cell: "`cNNN code p.. next`: cell NNN"

unfoldable pub value_or0 : Option ℕ → ℕ
value_or0 n = unwrap_or n 0

-- the address in a name, 0 where it is none
unfoldable pub address_of : List ℕ → ℕ
address_of name = choose (length name == 4) (choose (slice_index name 0 == 99) (value_or0 (unsigned_of (drop 1 name))) 0) 0

-- "a cell outside 100 to 230" is none
unfoldable pub is_cell : ℕ → Bool
is_cell address = both (nat_le 100 address) (nat_le address 230)

unfoldable pub is_integer : Option ℕ → Bool
is_integer n = is_some n

unfoldable pub integer_before : Option ℕ → List ℕ → List ℕ
integer_before (Some v) vs = v ∷ vs
integer_before None vs = []

unfoldable pub are_integers : List (List ℕ) → Bool
are_integers [] = true
are_integers (w ∷ ws) = both (is_integer (integer_of w)) (are_integers ws)

-- the integers of words, up to the first that is none
unfoldable pub integers_of : List (List ℕ) → List ℕ
integers_of [] = []
integers_of (w ∷ ws) = integer_before (integer_of w) (integers_of ws)

-- the code is the first integer
unfoldable pub code_of : Option ℕ → ℕ
code_of n = unwrap_or n 0

-- how many numbers follow a code: its fields, and "a 69 has next 0"
unfoldable pub field_count : ℕ → ℕ
field_count code = choose (length (fields_of code) == 0) 1 (length (fields_of code))

-- "a known code with too few or too many numbers" is malformed; one that there is not takes any
unfoldable pub takes_count : ℕ → ℕ → Bool
takes_count code count = choose (known code) (count == field_count code) true

unfoldable pub cell_of : List (List ℕ) → ℕ → Result Call Complaint
cell_of words place =
    choose (nat_lt (length words) 4) (Err MissingOrExtraWord)
    (choose (are_integers (drop 2 words))
    (choose (takes_count (code_of (integer_of (slice_index_or words 2 []))) (length words - 3)) (Ok (Writes (Cell place))) (Err MissingOrExtraWord))
    (Err NotANumber))

-- the numbers after the integers of words are put into them: the first seven, up to the first word that is none
unfoldable pub filled : List (List ℕ) → List ℕ → List ℕ
filled words numbers = sets numbers 0 (take 7 (integers_of words))

-- the same of one integer, at a place
unfoldable pub integer_put : Option ℕ → ℕ → List ℕ → List ℕ
integer_put (Some v) i numbers = choose (nat_lt i 7) (slice_set numbers i v) numbers
integer_put None i numbers = numbers

-- the numbers after a cell's line: as they were where it has no code with a number
unfoldable pub cell_numbers : List (List ℕ) → List ℕ → List ℕ
cell_numbers words numbers = choose (nat_lt (length words) 4) numbers (filled (drop 2 words) numbers)

-- ---- a line

abbrev pub name_of : List (List ℕ) → List ℕ
name_of words = slice_index_or words 1 []

unfoldable pub named_field : List (List ℕ) → ℕ → Result Call Complaint
named_field words place = choose (nat_lt place (length field_names)) (field_of words place) (Err UnknownName)

unfoldable pub write_of : List (List ℕ) → Result Call Complaint
write_of words =
    choose (same_bytes (name_of words) (bytes "out")) (output_of words)
    (choose (is_cell (address_of (name_of words))) (cell_of words (address_of (name_of words) - 100))
    (named_field words (place_of (name_of words) field_names)))

-- the numbers after it: only a cell's line changes them
unfoldable pub numbers_of : List (List ℕ) → List ℕ → List ℕ
numbers_of words numbers = choose (is_cell (address_of (name_of words))) (cell_numbers words numbers) numbers
