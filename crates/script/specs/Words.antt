-- Text in parts: "words parted by one space".
-- Assumes nothing.
use Rattle.std.specs.Prelude.{ℕ, ◌+◌, Bool, true, false, List, [], ◌∷◌, length, drop, ◌==◌, nat_lt, slice_index_or}
use Rattle.laws.specs.Tests.{choose, both}
use Rattle.scan.specs.Bytes.{index_after, index_of}

-- the first place from `from` on where b stands, or the end
unfoldable pub place_from : ℕ → ℕ → List ℕ → ℕ
place_from b from s = choose (nat_lt from (length s)) (from + index_of b (drop from s)) (length s)

-- a byte at the front of the first part
unfoldable pub in_first : ℕ → List (List ℕ) → List (List ℕ)
in_first b [] = (b ∷ []) ∷ []
in_first b (p ∷ ps) = (b ∷ p) ∷ ps

-- the parts from a byte on, given those behind it: a separator ends an empty one, any other byte goes to the first
unfoldable pub parts_from : Bool → ℕ → List (List ℕ) → List (List ℕ)
parts_from true b ps = [] ∷ ps
parts_from false b ps = in_first b ps

-- the parts of a text: each separator ends one, so that two in a row have an empty part between them
unfoldable pub parts_of : ℕ → List ℕ → List (List ℕ)
parts_of separator [] = [] ∷ []
parts_of separator (b ∷ bs) = parts_from (b == separator) b (parts_of separator bs)

-- a part, counted from 0; nothing where there is none
unfoldable pub part_at : ℕ → ℕ → List ℕ → List ℕ
part_at separator k text = slice_index_or (parts_of separator text) k []

-- the words of a line
abbrev pub words_of : List ℕ → List (List ℕ)
words_of line = parts_of 32 line

unfoldable pub same_bytes : List ℕ → List ℕ → Bool
same_bytes [] [] = true
same_bytes [] (b ∷ t) = false
same_bytes (a ∷ s) [] = false
same_bytes (a ∷ s) (b ∷ t) = both (a == b) (same_bytes s t)

-- the place of a name in a list, or how many names there are
unfoldable pub place_of : List ℕ → List (List ℕ) → ℕ
place_of name [] = 0
place_of name (n ∷ ns) = index_after (same_bytes n name) (place_of name ns)
