-- Single numbers, in the plain comparisons that the code makes.
-- Assumes nothing.
use Prim.Native.Nat.{ℕ}
use native.Mathlib.Omega.{arith}
use mathlib.Core.Path.{◌≡◌}
use mathlib.Core.Bool.{Bool}
use mir.Syntax.{w16, w32}
use mir.Val.{Fits}
use borrow.Author.Tests.{lt-ltb, le-leb}
use Rattle.laws.specs.Tests.{both}
use Rattle.units.specs.Limits.{loop_limit}
use Rattle.units.specs.declared.position.Position.{Position}
use Rattle.machine.specs.Soundness.{position_sound, loop_count_sound}

-- 01: "a loop count is at most 65,535", as each one of 16 bits is
pub loops_pass : {n : ℕ} (x : Bool) → Fits w16 n → both (loop_count_sound n) x ≡ x
unfolding both loop_count_sound
loops_pass {n} x f = rw (le-leb n loop_limit (omega (arith, f.fits)))

-- 01: "position, 32 bits signed", as each one of 32 bits is
pub position-pass : (p : Position) (x : Bool) → Fits w32 p.0 → both (position_sound p) x ≡ x
unfolding both position_sound
position-pass p x f = rw (lt-ltb p.0 _ f.fits)
