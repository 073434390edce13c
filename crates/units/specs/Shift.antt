-- The shift of an indexed run, and when it is too long.
-- Assumes nothing.
use Rattle.std.specs.Prelude.{◌≤◌, Bool, ℤ, pos, ◌-ℤ◌, ◌*ℤ◌, neg_ℤ, int_lt, unsigned_abs}
use Rattle.laws.specs.Tests.{choose, either}
use Rattle.units.specs.Limits.{step_limit, remaining_limit}
use Rattle.units.specs.declared.Steps.{Steps}
use Rattle.units.specs.declared.position.Position.{Position}
use Rattle.units.specs.Position.{number_of}

-- 01: "m is 4 for x4, else 1"
unfoldable pub multiplier_of : Bool → ℤ
multiplier_of x4 = choose x4 (pos 4) (pos 1)

-- n×m
unfoldable pub scaled_of : Steps → Bool → ℤ
scaled_of n x4 = n.0 *ℤ multiplier_of x4

-- 01: "Indexed: shift = n×m". 02: "In absolute mode n is the target itself for x1 and x4", in place of 01's "n×m less position"
unfoldable pub shift_of : Steps → Bool → Bool → Position → ℤ
shift_of n x4 absolute p = choose absolute (n.0 -ℤ number_of p) (scaled_of n x4)

-- 02: "A shift beyond 8,388,607 either way", in place of 01's "beyond 8,388,607×m"
unfoldable pub is_beyond_of : ℤ → Bool
is_beyond_of shift = either (int_lt (pos step_limit) shift) (int_lt shift (neg_ℤ (pos step_limit)))

-- 01: "a rest is within 33,554,428 either way"
pub record Within (z : ℤ) : Type 0 where
  pub within : unsigned_abs z ≤ remaining_limit
