-- All numbers of a row, by a list of kinds: as bytes, and read from bytes.
-- Assumes nothing.
use Rattle.std.specs.Prelude.{ℕ, suc, List, [], ◌∷◌, ◌++◌, set, replicate, Option, Some, None}
use Rattle.laws.specs.Tests.{choose}
use Rattle.fields.specs.Kinds.{is_signed}
use Rattle.fields.specs.declared.kinds.Kind.{Kind}
use Rattle.varint.specs.Groups.{groups, number_at}
use Rattle.varint.specs.Signs.{folded, unfolded}
use Rattle.varint.specs.declared.groups.Reading.{Reading}
use Rattle.packed.specs.declared.rows.Row.{Row}

-- 02: "signed n as 2n or −2n−1"; "names, letters and s stand as their place in the list that 01 gives with their field or preset, counted from 0":
-- that place is already the value of such a field. The number that stands for a value, and the value for which a number stands
unfoldable pub number_for : Kind → ℕ → ℕ
number_for k v = choose (is_signed k) (folded v) v

unfoldable pub value_for : Kind → ℕ → ℕ
value_for k n = choose (is_signed k) (unfolded n) n

-- 02: "each number in groups of seven bits", one after the other
unfoldable pub row_bytes : List Kind → List ℕ → List ℕ
row_bytes [] vs = []
row_bytes (k ∷ ks) [] = []
row_bytes (k ∷ ks) (v ∷ vs) = groups (number_for k v) ++ row_bytes ks vs

-- the values of a row and the place after it
abbrev pub row : List ℕ → ℕ → Option Row
row vs next = Some (record { values = vs; next = next })

abbrev pub on_reading : Option Reading → (ℕ → ℕ → Option Row) → Option Row
on_reading (Some r) f = f r.value r.next
on_reading None f = None

-- one number after another from a place, their values stored from place i on
unfoldable pub row_from : List Kind → List ℕ → ℕ → ℕ → List ℕ → Option Row
row_from [] s at i vs = row vs at
row_from (k ∷ ks) s at i vs =
    on_reading (number_at s at) (λ n next. row_from ks s next (suc i) (set vs i (value_for k n)))

unfoldable pub read_row : List Kind → List ℕ → ℕ → Option Row
read_row ks s from = row_from ks s from 0 (replicate 6 0)
