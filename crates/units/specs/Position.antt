-- The position: the number that its bits stand for, and one step on or back.
-- Assumes nothing.
use Rattle.std.specs.Prelude.{Bool, ℤ, pos, negsuc, ◌+ℤ◌, ◌-ℤ◌, int_lt}
use Rattle.std.specs.Int.{w32}
use Rattle.std.proofs.Common.{to_z, of_z}
use Rattle.laws.specs.Tests.{choose}
use Rattle.units.specs.declared.position.Position.{Position}

-- +2,147,483,647
abbrev pub last : ℤ
last = pos 2147483647

-- −2,147,483,648
abbrev pub first : ℤ
first = negsuc 2147483647

-- 01: "past +2,147,483,647 comes −2,147,483,648, and back"
unfoldable pub wrapped : ℤ → ℤ
wrapped z = choose (int_lt last z) first (choose (int_lt z first) last z)

-- 01: "A step moves the position by one"
unfoldable pub moved : ℤ → Bool → ℤ
moved z forward = wrapped (choose forward (z +ℤ pos 1) (z -ℤ pos 1))

-- 01: "position, 32 bits signed". The number that the bits stand for, and back.
abbrev pub number_of : Position → ℤ
number_of p = to_z w32 p.0

abbrev pub position_of : ℤ → Position
position_of z = record { 0 = of_z w32 z }

unfoldable pub stepped_of : Position → Bool → Position
stepped_of p forward = position_of (moved (number_of p) forward)
