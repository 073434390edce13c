-- The steps of a 05 after its stop are within the limit of x4, either way.
-- Assumes nothing.
use mathlib.Core.Path.{◌≡◌}
use mathlib.Core.Bool.{Bool, true}
use lib.Dec.{lit<, lit≤}
use lib.IntN.{ℤ, neg_ℤ}
use mir.Syntax.{w64}
use mir.Val.{SFits}
use borrow.Author.Tests.{leb-true}
use Rattle.laws.proofs.Tests.{choose-by}
use Rattle.units.specs.Remaining.{is_zero_of}
use Rattle.units.specs.Shift.{Within}
use Rattle.units.specs.declared.Steps.{Steps}
use Rattle.instruction.specs.Soundness.{steps_within}
use Rattle.units.proofs.Integers.{nat_abs-neg, sfits-nat_abs}
use Rattle.units.proofs.Limits.{within-scaled}
use Rattle.machine.specs.Stopping.{braking_count}

pub within-braking : (n : Steps) (x4 : Bool) → steps_within n ≡ true → Within (braking_count n x4)
unfolding braking_count steps_within
within-braking n x4 w =
    choose-by Within (is_zero_of n) (λ e. record { within = lit≤ tt }) (λ e. within-scaled n x4 (leb-true _ 8388607 w))

pub within-neg : {z : ℤ} → Within z → Within (neg_ℤ z)
within-neg {z} w = record { within = rw (nat_abs-neg z) w.within }

pub sfits-long : {z : ℤ} → Within z → SFits w64 z
sfits-long {z} w = sfits-nat_abs w64 z 33554428 w.within (lit< tt)
