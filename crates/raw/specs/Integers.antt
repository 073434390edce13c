-- Integers as 64 bits in two's complement: which of them narrower places hold, and what those keep of one.
-- Assumes nothing.
use Rattle.std.specs.Prelude.{ℕ, ◌+◌, ◌%◌, Bool, ltb, leb}
use Rattle.laws.specs.Tests.{choose, either}

-- 8, 16 and 32 bits without a sign: an integer from 0 on
abbrev pub fits_byte : ℕ → Bool
fits_byte v = ltb v 256

abbrev pub fits_word : ℕ → Bool
fits_word v = ltb v 65536

abbrev pub fits_long : ℕ → Bool
fits_long v = ltb v 4294967296

-- 32 bits with a sign: below 2³¹, or from 2⁶⁴ − 2³¹ on, which is −2³¹
unfoldable pub fits_signed : ℕ → Bool
fits_signed v = either (ltb v 2147483648) (leb 18446744071562067968 v)

-- what 32 bits keep of an integer; 8 and 16 bits keep `byte_of` and `word_of`
abbrev pub long_of : ℕ → ℕ
long_of v = v % 4294967296

-- the integer that 32 bits with a sign stand for
unfoldable pub extended : ℕ → ℕ
extended b = choose (ltb b 2147483648) b (b + 18446744069414584320)
