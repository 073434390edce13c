-- Bytes as text: "33 to 126 except the backslash as they are, others as `\xNN`"; or all of them "in lower-case hex".
-- Assumes nothing.
use Rattle.std.specs.Prelude.{ℕ, ◌+◌, ◌/◌, ◌%◌, Bool, not, List, [], ◌∷◌, ◌++◌, ◌==◌, nat_le, nat_lt}
use Rattle.laws.specs.Tests.{choose, both}

unfoldable pub is_plain : ℕ → Bool
is_plain b = both (nat_le 33 b) (both (nat_le b 126) (not (b == 92)))

-- a digit below 16, in lower case
unfoldable pub digit : ℕ → ℕ
digit d = choose (nat_lt d 10) (48 + d) (87 + d)

unfoldable pub shown_byte : ℕ → List ℕ
shown_byte b = choose (is_plain b) (b ∷ []) (92 ∷ 120 ∷ digit (b / 16) ∷ digit (b % 16) ∷ [])

unfoldable pub shown : List ℕ → List ℕ
shown [] = []
shown (b ∷ bs) = shown_byte b ++ shown bs

-- a byte as two digits, the higher first
unfoldable pub pair_text : ℕ → List ℕ
pair_text b = digit (b / 16) ∷ digit (b % 16) ∷ []

unfoldable pub hex_text : List ℕ → List ℕ
hex_text [] = []
hex_text (b ∷ bs) = pair_text b ++ hex_text bs
