-- Bytes put behind each other in a buffer, cut at its length.
-- Assumes nothing.
use Rattle.std.specs.Prelude.{ℕ, ◌≡◌, Bool, true, false, List, [], ◌∷◌, ◌++◌, length, take, drop}

-- the first n bytes of a line, then a piece, cut at the line's length
unfoldable pub gathered : List ℕ → ℕ → List ℕ → List ℕ
gathered l n p = take (length l) (take n l ++ p)

-- the line l' has the gathered bytes at its front, r of them, and its further bytes as they were
pub record Gathered (l : List ℕ) (n : ℕ) (p l' : List ℕ) (r : ℕ) : Type 0 where
  pub next : r ≡ length (gathered l n p)
  pub now : l' ≡ gathered l n p ++ drop (length (gathered l n p)) l

-- a bit as a digit
unfoldable pub bit_text : Bool → List ℕ
bit_text true = 49 ∷ []
bit_text false = 48 ∷ []
