-- "The weighted sum of b is the sum of (i + 1) × b[i], modulo 1000003." The count is kept in 32 bits.
-- Assumes nothing.
use Rattle.std.specs.Prelude.{ℕ, ◌+◌, ◌*◌, ◌%◌, ◌^◌, List}
use Rattle.std.specs.List.{fold}
use Rattle.observed.specs.declared.sums.Sum.{Sum}

-- of no bytes
unfoldable pub none : Sum
none = record { count = 0; sum = 0 }

-- a byte adds itself times its place, counted from 1 on
unfoldable pub counted : Sum → ℕ
counted s = (s.count + 1) % 2 ^ 32

unfoldable pub with_byte : Sum → ℕ → Sum
with_byte s b = record { count = counted s; sum = (s.sum + counted s % 1000003 * b) % 1000003 }

unfoldable pub with_all : Sum → List ℕ → Sum
with_all s bs = fold with_byte s bs
