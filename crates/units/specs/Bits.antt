-- Steps and their 32 bits in two's complement.
-- Assumes nothing.
use Rattle.std.specs.Prelude.{ℕ}
use Rattle.std.specs.Int.{w32}
use Rattle.std.proofs.Common.{to_z, of_z}
use Rattle.units.specs.declared.Steps.{Steps}

-- the steps that the bits stand for
abbrev pub steps_of : ℕ → Steps
steps_of bits = record { 0 = to_z w32 bits }

-- the bits that stand for the steps
abbrev pub bits_of : Steps → ℕ
bits_of n = of_z w32 n.0
