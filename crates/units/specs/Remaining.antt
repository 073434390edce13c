-- The steps that remain of a run: none, along which direction, and what remains after one more step.
-- Assumes nothing.
use Rattle.std.specs.Prelude.{Bool, pos, ◌+ℤ◌, ◌-ℤ◌, ◌==◌, int_lt, unsigned_abs}
use Rattle.laws.specs.Tests.{choose}
use Rattle.units.specs.declared.Steps.{Steps}

-- none remain
unfoldable pub is_zero_of : Steps → Bool
is_zero_of n = unsigned_abs n.0 == 0

-- they lead back
unfoldable pub is_negative_of : Steps → Bool
is_negative_of n = int_lt n.0 (pos 0)

-- 01: "A rest of steps has the sign of its direction and loses one at each step". Zero stays zero.
unfoldable pub nearer_of : Steps → Steps
nearer_of n = record { 0 = choose (is_negative_of n) (n.0 +ℤ pos 1) (choose (is_zero_of n) n.0 (n.0 -ℤ pos 1)) }
