-- Net steps as text: the sign, which always stands, and the number's digits, also beyond 32 bits.
-- Assumes nothing.
use Rattle.std.specs.Prelude.{ℕ, List, [], ◌∷◌, ◌++◌, ℤ, pos, negsuc, unsigned_abs}
use Rattle.decimal.specs.Printing.{digits, width_from}

unfoldable pub sign_text : ℤ → List ℕ
sign_text (pos n) = 43 ∷ []
sign_text (negsuc n) = 45 ∷ []

-- a number of up to 20 digits, without leading zeros
unfoldable pub wide_text : ℕ → List ℕ
wide_text n = digits (width_from 19 1 n) n

unfoldable pub net_text : ℤ → List ℕ
net_text z = sign_text z ++ wide_text (unsigned_abs z)
