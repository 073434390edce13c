-- 02: "signed n as 2n or −2n−1". A signed number is held as 32 bits in two's complement.
-- Assumes nothing.
use Rattle.std.specs.Prelude.{ℕ, ◌-◌, ◌*◌, ◌/◌, ◌%◌, ◌^◌, ltb, eqb}
use Rattle.laws.specs.Tests.{choose}

unfoldable pub folded : ℕ → ℕ
folded bits = choose (ltb bits (2 ^ 31)) (2 * bits) (2 * (2 ^ 32 - bits) - 1)

unfoldable pub unfolded : ℕ → ℕ
unfolded n = choose (eqb (n % 2) 0) (n / 2) (2 ^ 32 - 1 - n / 2)
