-- Little-endian numbers: where they stand among bytes, and as bytes.
-- Assumes nothing.
use Rattle.std.specs.Prelude.{ℕ, ◌+◌, ◌*◌, ◌/◌, ◌%◌, List, [], ◌∷◌, get_or}

-- two bytes from a place on, the lower first; what is missing counts as 0
unfoldable pub pair_at : List ℕ → ℕ → ℕ
pair_at l k = get_or l k 0 + 256 * get_or l (k + 1) 0

-- four bytes, the lowest first
unfoldable pub number_at : List ℕ → ℕ → ℕ
number_at l k = pair_at l k + 65536 * pair_at l (k + 2)

-- a number of 16 and one of 32 bits as bytes
unfoldable pub pair_bytes : ℕ → List ℕ
pair_bytes n = n % 256 ∷ (n / 256) % 256 ∷ []

unfoldable pub number_bytes : ℕ → List ℕ
number_bytes n = n % 256 ∷ (n / 256) % 256 ∷ (n / 65536) % 256 ∷ (n / 16777216) % 256 ∷ []
