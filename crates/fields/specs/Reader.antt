-- 01: "Fields are parted by one comma; the line reader takes one field after another from the string."
-- Assumes nothing.
use Rattle.std.specs.Prelude.{ℕ, suc, ◌+◌, ◌≡◌, List, [], ◌∷◌, length, get_or, drop, ltb, eqb, Option, Some, None}
use Rattle.laws.specs.Tests.{choose}
use Rattle.fields.specs.declared.reader.Extent.{Extent}

-- how many bytes stand before the next comma, or the end
unfoldable pub field_length : List ℕ → ℕ
field_length [] = 0
field_length (b ∷ bs) = choose (eqb b 44) 0 (suc (field_length bs))

-- a field from start to end
abbrev pub field : ℕ → ℕ → Option Extent
field start end = Some (record { start = start; end = end })

-- the field after the comma at a place
unfoldable pub field_at : List ℕ → ℕ → Option Extent
field_at s at =
    choose (ltb at (length s))
    (choose (eqb (get_or s at 0) 44) (field (at + 1) (at + 1 + field_length (drop (at + 1) s))) None) None

-- what may follow a field: nothing, or a comma
unfoldable pub Ends : List ℕ → Type 0
Ends [] = Unit {0}
Ends (b ∷ bs) = b ≡ 44
