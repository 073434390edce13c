-- What a step changes that only moves: position and rest.
-- Assumes nothing.
use Rattle.std.specs.Prelude.{Bool, false, eqb}
use Rattle.laws.specs.Tests.{both}
use Rattle.units.specs.Remaining.{is_zero_of, nearer_of}
use Rattle.units.specs.declared.position.Position.{Position}
use Rattle.machine.specs.Record.{with_position}
use Rattle.machine.specs.Starting.{in_phase}
use Rattle.machine.specs.declared.Cam.{Cam}
use Rattle.machine.specs.declared.Remaining.{Remaining}
use Rattle.machine.specs.declared.Remaining.TheVariants.{Nothing, Counted, Timed}
use Rattle.machine.specs.declared.State.{State}

-- 01: "If the cam is set and the new position equals its own"
unfoldable pub meets : Cam → Position → Bool
meets cam p = both cam.set (eqb p.0 cam.position.0)

-- "Indexed rest falls to 0"
unfoldable pub is_last : Remaining → Bool
is_last (Counted n) = is_zero_of (nearer_of n)
is_last Nothing = false
is_last (Timed n) = false

-- 01: "A rest of steps .. loses one at each step"
unfoldable pub lessened : Remaining → Remaining
lessened (Counted n) = Counted (nearer_of n)
lessened Nothing = Nothing
lessened (Timed n) = Timed n

unfoldable pub placed : State → Position → Remaining → State
placed s p r = in_phase (with_position s p) s.running.phase r
