-- The bytes of a string or an image: "its bytes in lower-case hex (`-` for none)".
-- Assumes nothing.
use Rattle.std.specs.Prelude.{ℕ, ◌+◌, ◌-◌, ◌*◌, ◌/◌, Bool, true, false, List, [], ◌∷◌, length, ◌==◌, nat_le, Option, Some, None, is_some}
use Rattle.std.proofs.lemmas.List.Edits.{sets}
use Rattle.laws.specs.Tests.{choose, both}
use Rattle.laws.specs.Text.{bytes}
use Rattle.script.specs.Words.{same_bytes}

-- the value of a digit, 0 to 9 or a to f
unfoldable pub nibble_of : ℕ → Option ℕ
nibble_of b = choose (both (nat_le 48 b) (nat_le b 57)) (Some (b - 48)) (choose (both (nat_le 97 b) (nat_le b 102)) (Some (b - 97 + 10)) None)

-- two digits as a byte, by their values; none where one is none
unfoldable pub pair_of : Option ℕ → Option ℕ → Option ℕ
pair_of None low = None
pair_of (Some high) None = None
pair_of (Some high) (Some low) = Some (high * 16 + low)

-- a byte before others; none where it is no byte
unfoldable pub byte_before : Option ℕ → List ℕ → List ℕ
byte_before (Some b) bs = b ∷ bs
byte_before None bs = []

-- the bytes of a word, two digits each, up to the first two that are no byte
unfoldable pub bytes_of : List ℕ → List ℕ
bytes_of [] = []
bytes_of (high ∷ []) = []
bytes_of (high ∷ low ∷ s) = byte_before (pair_of (nibble_of high) (nibble_of low)) (bytes_of s)

-- each two digits are a byte
unfoldable pub is_hex : List ℕ → Bool
is_hex [] = true
is_hex (high ∷ []) = false
is_hex (high ∷ low ∷ s) = both (is_some (pair_of (nibble_of high) (nibble_of low))) (is_hex s)

unfoldable pub is_none : List ℕ → Bool
is_none word = same_bytes word (bytes "-")

-- "A string has at most 256 bytes, an image at most 2048": 1 to so many times two digits
unfoldable pub is_sized : ℕ → List ℕ → Bool
is_sized most word = both (nat_le 1 (length word / 2)) (both (nat_le (length word / 2) most) (length word / 2 * 2 == length word))

-- how many bytes a word says
unfoldable pub decoded_of : ℕ → List ℕ → Option ℕ
decoded_of most word =
    choose (is_none word) (Some 0)
    (choose (both (is_sized most word) (is_hex word)) (Some (length word / 2)) None)

-- the text after a word is read into it: its bytes at the front, and behind them what was there.
-- A word of a wrong size leaves it alone; one with a wrong digit leaves the bytes before that
unfoldable pub text_of : ℕ → List ℕ → List ℕ → List ℕ
text_of most word text = choose (is_none word) text (choose (is_sized most word) (sets text 0 (bytes_of word)) text)
