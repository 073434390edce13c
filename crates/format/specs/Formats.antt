-- The fields of each code, as 01, "Instructions", lists them, with DDD last.
-- Assumes nothing.
use Rattle.std.specs.Prelude.{ℕ, suc, Bool, false, List, [], ◌∷◌, eqb, length, Option, Some, None}
use Rattle.laws.specs.Tests.{choose, either}
use Rattle.units.specs.Limits.{step_limit, delay_limit, delay_limit_before, loop_limit}
use Rattle.fields.specs.Kinds.{is_signed}
use Rattle.fields.specs.declared.kinds.Kind.{Kind}
use Rattle.fields.specs.declared.kinds.Kind.TheVariants.{Fixed, Next, Count, Signed, Sign, Multiplier, Name}
use Rattle.fields.specs.declared.names.Names.TheVariants.{Settable, Conditions}

-- 01: "FF in the ramp codes is 03 to 24 thousand Hz, in 11, 12 and LL 02 to 30 hundred Hz; FFF 030 to 240 hundred Hz; RR 10 to 42"
abbrev pub thousands : Kind
thousands = Fixed 2 3 24

abbrev pub hundreds : Kind
hundreds = Fixed 2 2 30

abbrev pub fine : Kind
fine = Fixed 3 30 240

abbrev pub ramp : Kind
ramp = Fixed 2 10 42

-- 01: "FFFF 0001 to 4800 is stored as the greatest table value not above it"
abbrev pub hertz : Kind
hertz = Fixed 4 1 4800

-- 01: "n is ±nnn within 8,388,607 each way"
abbrev pub steps : Kind
steps = Signed step_limit step_limit

-- 01, of the 05: "nnn", "0 to 8,388,607"
abbrev pub count : Kind
count = Count 0 step_limit

-- 01: "61 nnn (1 to 65,535)". 02: "loop counts stay at 65,535"
abbrev pub loops : Kind
loops = Count 1 loop_limit

-- 02: "Code 65 takes 0 to 8,388,607 milliseconds"
abbrev pub delay : Kind
delay = Count 0 delay_limit

-- 01: "65 nnn (0 to 65,535)", as it was before
abbrev pub delay_before : Kind
delay_before = Count 0 delay_limit_before

-- 01, of the 57: "±nnn", "32 bits signed"
abbrev pub position : Kind
position = Signed 2147483648 2147483647

-- 01: "EEE (100 to 230)"; BBB has the same range
abbrev pub cell : Kind
cell = Fixed 3 100 230

-- 01: "V and S are 0 or 1"
abbrev pub bit : Kind
bit = Fixed 1 0 1

-- a code and the kinds of its fields
pub record Entry : Type 0 where
  pub code : ℕ
  pub fields : List Kind

abbrev pub entry : ℕ → List Kind → Entry
entry c ks = record { code = c; fields = ks }

-- 01: "01 `FF,RR,n,XX`; 31 `FFF,RR,n,XX`; .." to "Code 69 has no DDD, and its string ends after the 69", with the nnn of a 65
abbrev pub formats_with : Kind → List Entry
formats_with nnn =
    entry 1 (thousands ∷ ramp ∷ steps ∷ Multiplier ∷ Next ∷ []) ∷
    entry 31 (fine ∷ ramp ∷ steps ∷ Multiplier ∷ Next ∷ []) ∷
    entry 2 (thousands ∷ ramp ∷ Sign ∷ Multiplier ∷ Next ∷ []) ∷
    entry 32 (fine ∷ ramp ∷ Sign ∷ Multiplier ∷ Next ∷ []) ∷
    entry 11 (hundreds ∷ steps ∷ Multiplier ∷ Next ∷ []) ∷
    entry 21 (hertz ∷ steps ∷ Multiplier ∷ Next ∷ []) ∷
    entry 12 (hundreds ∷ Sign ∷ Multiplier ∷ Next ∷ []) ∷
    entry 22 (hertz ∷ Sign ∷ Multiplier ∷ Next ∷ []) ∷
    entry 3 (thousands ∷ ramp ∷ Sign ∷ hundreds ∷ Next ∷ []) ∷
    entry 5 (thousands ∷ ramp ∷ Sign ∷ count ∷ Multiplier ∷ Next ∷ []) ∷
    entry 57 (bit ∷ position ∷ Next ∷ []) ∷
    entry 58 (Name Settable ∷ bit ∷ Next ∷ []) ∷
    entry 60 (Next ∷ []) ∷
    entry 61 (loops ∷ Next ∷ []) ∷
    entry 62 (cell ∷ Next ∷ []) ∷
    entry 63 (Name Conditions ∷ bit ∷ cell ∷ Next ∷ []) ∷
    entry 65 (nnn ∷ Next ∷ []) ∷
    entry 70 (bit ∷ Next ∷ []) ∷
    entry 0 (Next ∷ []) ∷
    entry 69 [] ∷
    []

abbrev pub formats : List Entry
formats = formats_with delay

-- the table as it was before
abbrev pub formats_before : List Entry
formats_before = formats_with delay_before

unfoldable pub fields_in : List Entry → ℕ → List Kind
fields_in [] code = []
fields_in (e ∷ es) code = choose (eqb code e.code) e.fields (fields_in es code)

-- the kinds of a code's fields
unfoldable pub fields_of : ℕ → List Kind
fields_of code = fields_in formats code

unfoldable pub known_in : List Entry → ℕ → Bool
known_in [] code = false
known_in (e ∷ es) code = either (eqb code e.code) (known_in es code)

-- whether there is such a code
unfoldable pub known : ℕ → Bool
known code = known_in formats code

-- what one goes by who reads cells: which codes there are, and the fields of each
pub record Codes : Type 0 where
  pub known : ℕ → Bool
  pub fields : ℕ → List Kind

abbrev pub codes : Codes
codes = record { known = known; fields = fields_of }

abbrev pub codes_before : Codes
codes_before = record { known = known_in formats_before; fields = fields_in formats_before }

-- ---- the outline of a row, by which the code of an image goes

-- how many fields a code has; 7 where there is no such code
unfoldable pub field_count : ℕ → ℕ
field_count code = choose (known code) (length (fields_of code)) 7

-- the place of the first field with a sign, counted from i; 6 where there is none
unfoldable pub signed_from : ℕ → List Kind → ℕ
signed_from i [] = 6
signed_from i (k ∷ ks) = choose (is_signed k) i (signed_from (suc i) ks)

unfoldable pub signed_place : List Kind → ℕ
signed_place ks = signed_from 0 ks

-- the format of a code: the kinds of its fields, where there is such a code
unfoldable pub format_of : ℕ → Option (List Kind)
format_of code = choose (known code) (Some (fields_of code)) None
