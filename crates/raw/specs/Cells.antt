-- docs/SCRIPTS.md: "cell NNN, parameters in the order of QM as integers (s: 1 or -1; XX: 1 or 4; OO and II: the place in
-- 01's list for 58 and 63; a 69 has next 0)".
-- The kinds of a code's parameters are those of its format.
-- Assumes nothing.
use Rattle.std.specs.Prelude.{ℕ, Bool, List, eqb, leb, get_or, Option, Some, None}
use Rattle.laws.specs.Tests.{choose, both, either}
use Rattle.fields.specs.declared.kinds.Kind.{Kind}
use Rattle.fields.specs.declared.kinds.Kind.TheVariants.{Fixed, Next, Count, Signed, Optional, Sign, Multiplier, Name}
use Rattle.format.specs.Formats.{format_of}
use Rattle.frequency.specs.Places.{hertz_of, place_of}
use Rattle.instruction.specs.Numbers.{six, is_one, with_next, cell_of}
use Rattle.instruction.specs.declared.Cell.{Cell}
use Rattle.instruction.specs.declared.Instruction.TheVariants.{CamSetting, Recovery}
use Rattle.raw.specs.Integers.{fits_byte, fits_word, fits_long, fits_signed, long_of}

-- a frequency of 21 or 22 is held as its place in the table, so one that is not there cannot be
unfoldable pub fits_hertz : ℕ → Bool
fits_hertz v = eqb (hertz_of (place_of (long_of v))) v

-- digits: a bit, a frequency of the table, or a byte
unfoldable pub fits_fixed : ℕ → ℕ → Bool
fits_fixed width v = choose (eqb width 1) (leb v 1) (choose (eqb width 4) (fits_hertz v) (fits_byte v))

-- nnn: a 05 holds its steps with a sign, a 61 its count in 16 bits, a 65 its delay in 32
unfoldable pub fits_count : ℕ → ℕ → Bool
fits_count code v = choose (eqb code 5) (fits_signed v) (choose (eqb code 61) (fits_word v) (fits_long v))

-- which integers a cell of a code can hold as a parameter of a kind
unfoldable pub fits_kind : ℕ → Kind → ℕ → Bool
fits_kind code (Fixed width low high) v = fits_fixed width v
fits_kind code Next v = fits_byte v
fits_kind code (Count low high) v = fits_count code v
fits_kind code (Signed below above) v = fits_signed v
fits_kind code (Optional below above) v = fits_signed v
fits_kind code Sign v = either (eqb v 1) (eqb v 18446744073709551615)
fits_kind code Multiplier v = either (eqb v 1) (eqb v 4)
fits_kind code (Name names) v = fits_byte v

-- the place of the second of two values, of which the first is 1
unfoldable pub second_of : ℕ → ℕ
second_of v = choose (eqb v 1) 0 1

-- the number of a parameter among those that make a cell: s and XX as 0 or 1, the others in 32 bits
unfoldable pub number_as : Kind → ℕ → ℕ
number_as (Fixed width low high) v = long_of v
number_as Next v = long_of v
number_as (Count low high) v = long_of v
number_as (Signed below above) v = long_of v
number_as (Optional below above) v = long_of v
number_as Sign v = second_of v
number_as Multiplier v = second_of v
number_as (Name names) v = long_of v

-- the cell of numbers that fit, also in a form that is never stored: a 57 with a position for V=0, and a 69 with a next
unfoldable pub cell_holding : ℕ → List ℕ → Cell
cell_holding code vs =
    choose (eqb code 57) (with_next (CamSetting (is_one (get_or vs 0 0)) (record { 0 = get_or vs 1 0 })) (get_or vs 2 0))
    (choose (eqb code 69) (with_next Recovery (get_or vs 0 0)) (cell_of (long_of code) vs))

-- the kind at a place of a row: behind the code's own fields each is Next
unfoldable pub kind_at : List Kind → ℕ → Kind
kind_at ks i = get_or ks i Next

-- the six numbers of a row: the integers behind the code's own fields are 0; of a 69 the first is its next
unfoldable pub numbers_in : List Kind → List ℕ → List ℕ
numbers_in ks n =
    six (number_as (kind_at ks 0) (get_or n 1 0)) (number_as (kind_at ks 1) (get_or n 2 0)) (number_as (kind_at ks 2) (get_or n 3 0))
    (number_as (kind_at ks 3) (get_or n 4 0)) (number_as (kind_at ks 4) (get_or n 5 0)) (number_as (kind_at ks 5) (get_or n 6 0))

unfoldable pub fits_row : List Kind → List ℕ → Bool
fits_row ks n =
    both
    (both
    (both
    (both
    (both (fits_kind (get_or n 0 0) (kind_at ks 0) (get_or n 1 0)) (fits_kind (get_or n 0 0) (kind_at ks 1) (get_or n 2 0)))
    (fits_kind (get_or n 0 0) (kind_at ks 2) (get_or n 3 0)))
    (fits_kind (get_or n 0 0) (kind_at ks 3) (get_or n 4 0)))
    (fits_kind (get_or n 0 0) (kind_at ks 4) (get_or n 5 0)))
    (fits_kind (get_or n 0 0) (kind_at ks 5) (get_or n 6 0))

-- the cell of seven integers, a code, its parameters and its next, where a record can hold it
abbrev pub made_with : List ℕ → Option (List Kind) → Option Cell
made_with n (Some ks) =
    choose (both (fits_byte (get_or n 0 0)) (fits_row ks n)) (Some (cell_holding (get_or n 0 0) (numbers_in ks n))) None
made_with n None = None

unfoldable pub made_of : List ℕ → Option Cell
made_of n = made_with n (format_of (long_of (get_or n 0 0)))
