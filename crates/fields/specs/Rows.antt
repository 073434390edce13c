-- All fields of a string, by a list of kinds: parsed, printed, admitted.
-- Assumes nothing.
use Rattle.std.specs.Prelude.{ℕ, suc, ◌+◌, ◌-◌, ◌≤◌, ◌≡◌, List, [], ◌∷◌, ◌++◌, Bool, true, false, length, take, drop, set, replicate, ltb, Option, Some, None}
use Rattle.laws.specs.Tests.{choose, both}
use Rattle.laws.specs.Tables.{every}
use Rattle.fields.specs.Reader.{field_at}
use Rattle.fields.specs.Kinds.{parse_field, print_field, good, valid, most}
use Rattle.fields.specs.declared.reader.Extent.{Extent}
use Rattle.fields.specs.declared.kinds.Kind.{Kind}
use Rattle.fields.specs.declared.rows.Parsed.{Parsed}

abbrev pub on_field : Option Extent → (ℕ → ℕ → Option Parsed) → Option Parsed
on_field (Some e) f = f e.start e.end
on_field None f = None

abbrev pub on_value : Option ℕ → (ℕ → Option Parsed) → Option Parsed
on_value (Some v) f = f v
on_value None f = None

-- the bytes from start to end
abbrev pub part : List ℕ → ℕ → ℕ → List ℕ
part s start end = take (end - start) (drop start s)

-- a place, and the values before it
abbrev pub parsed : ℕ → List ℕ → Option Parsed
parsed at vs = Some (record { at = at; values = vs })

-- 01: "takes one field after another": one after another from a place, each to its end, their values stored from place i on;
-- after a wrong or missing field no further one, and nothing is stored
unfoldable pub fields_from : List Kind → List ℕ → ℕ → ℕ → List ℕ → Option Parsed
fields_from [] s at i vs = parsed at vs
fields_from (k ∷ ks) s at i vs =
    on_field (field_at s at) (λ start end.
    on_value (parse_field k (part s start end)) (λ v.
    fields_from ks s end (suc i) (set vs i v)))

-- the fields of a row, each after a comma
unfoldable pub parse_fields : List Kind → List ℕ → ℕ → Option Parsed
parse_fields ks s from = fields_from ks s from 0 (replicate 6 0)

-- the same, where nothing may follow
unfoldable pub ended : List ℕ → Option Parsed → Option Parsed
ended s (Some p) = choose (ltb p.at (length s)) None (Some p)
ended s None = None

unfoldable pub parse_all : List Kind → List ℕ → ℕ → Option Parsed
parse_all ks s from = ended s (parse_fields ks s from)

unfoldable pub print_fields : List Kind → List ℕ → List ℕ
print_fields [] vs = []
print_fields (k ∷ ks) [] = []
print_fields (k ∷ ks) (v ∷ vs) = 44 ∷ (print_field k v ++ print_fields ks vs)

unfoldable pub all_good : List Kind → Bool
all_good ks = every good ks

unfoldable pub all_valid : List Kind → List ℕ → Bool
all_valid [] vs = true
all_valid (k ∷ ks) [] = false
all_valid (k ∷ ks) (v ∷ vs) = both (valid k v) (all_valid ks vs)

-- the most bytes that the fields of a row take, with their commas
unfoldable pub most_all : List Kind → ℕ
most_all [] = 0
most_all (k ∷ ks) = 1 + most k + most_all ks

-- what printing a row into a buffer asks: at most six kinds, each good, values that they admit, and room from the place on
pub record PrintableRow (ks : List Kind) (vs : List ℕ) (from : ℕ) (buf : List ℕ) : Type 0 where
  pub few : length ks ≤ 6
  pub kinds_good : all_good ks ≡ true
  pub values_valid : all_valid ks vs ≡ true
  pub room : from + length (print_fields ks vs) ≤ length buf
