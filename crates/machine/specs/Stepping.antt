-- 01, "Carrying out": a step reported by the board.
-- Assumes nothing.
use Rattle.std.specs.Prelude.{Bool, false, not, List, eqb}
use Rattle.laws.specs.Tests.{choose, both}
use Rattle.units.specs.Position.{stepped_of}
use Rattle.units.specs.Remaining.{is_zero_of, is_negative_of, nearer_of}
use Rattle.units.specs.declared.CellAddress.{CellAddress}
use Rattle.instruction.specs.Runs.{profile_of}
use Rattle.instruction.specs.declared.Cell.{Cell}
use Rattle.instruction.specs.declared.run.Motion.{Motion}
use Rattle.instruction.specs.declared.run.Motion.TheVariants.{NoRun, IndexedRun, FreeRun, SearchRun, DelayedStopRun}
use Rattle.instruction.specs.declared.run.Profile.{Profile}
use Rattle.machine.specs.Record.{no_cam, with_position, with_cam, with_output, output_at, out_o3}
use Rattle.machine.specs.Starting.{advanced, in_phase}
use Rattle.machine.specs.Milliseconds.{present}
use Rattle.machine.specs.Stopping.{abandoned}
use Rattle.machine.specs.declared.Remaining.{Remaining}
use Rattle.machine.specs.declared.Remaining.TheVariants.{Nothing, Counted, Timed}
use Rattle.machine.specs.declared.Phase.{Phase}
use Rattle.machine.specs.declared.Phase.TheVariants.{Waiting, Delay, Run, Braking, Slowing, EmergencySlowing, BackOff}
use Rattle.machine.specs.declared.State.{State}

-- 01: "A rest of steps has the sign of its direction"
abbrev pub remaining_backward : Remaining → Bool
remaining_backward (Counted n) = is_negative_of n
remaining_backward Nothing = false
remaining_backward (Timed n) = false

abbrev pub motion_backward : Motion → Profile → Remaining → Bool
motion_backward IndexedRun p r = remaining_backward r
motion_backward NoRun p r = p.backward
motion_backward FreeRun p r = p.backward
motion_backward SearchRun p r = p.backward
motion_backward DelayedStopRun p r = p.backward

-- the direction of a run: an indexed run goes by its rest, "at LL against s" in back, every other along s
unfoldable pub backward_in : Phase → Profile → Remaining → Bool
backward_in BackOff p r = not p.backward
backward_in Waiting p r = motion_backward p.motion p r
backward_in Delay p r = motion_backward p.motion p r
backward_in Run p r = motion_backward p.motion p r
backward_in Braking p r = motion_backward p.motion p r
backward_in Slowing p r = motion_backward p.motion p r
backward_in EmergencySlowing p r = motion_backward p.motion p r

-- the same of a drive, given its present cell
unfoldable pub runs_backward : State → Cell → Bool
runs_backward s c = backward_in s.running.phase (profile_of c.instruction) s.running.remaining

-- 01: "If the cam is set and the new position equals its own, O3 is complemented and the cam unset (position 0)"
unfoldable pub cam_tested : State → State
cam_tested s =
    choose (both s.cam.set (eqb s.position.0 s.cam.position.0))
    (with_cam (with_output s out_o3 (not (output_at s out_o3))) no_cam) s

-- 01: "A step moves the position by one"
unfoldable pub moved_by : Bool → State → State
moved_by backward s = cam_tested (with_position s (stepped_of s.position (not backward)))

-- 01: "if a rest reaches 0 meanwhile, the drive is idle with that step and the record empty"; else "Indexed rest falls to 0: next cell"
unfoldable pub arrived_in : Phase → State → CellAddress → State
arrived_in EmergencySlowing s next = abandoned s
arrived_in Waiting s next = advanced s next
arrived_in Delay s next = advanced s next
arrived_in Run s next = advanced s next
arrived_in Braking s next = advanced s next
arrived_in Slowing s next = advanced s next
arrived_in BackOff s next = advanced s next

-- 01: "A rest of steps .. loses one at each step"
unfoldable pub counted : Remaining → State → CellAddress → State
counted (Counted n) s next =
    choose (is_zero_of (nearer_of n)) (arrived_in s.running.phase s next)
    (in_phase s s.running.phase (Counted (nearer_of n)))
counted Nothing s next = s
counted (Timed n) s next = s

-- a step, given the present cell
unfoldable pub step_at : State → Cell → State
step_at s c = counted s.running.remaining (moved_by (runs_backward s c) s) c.next

unfoldable pub step : List Cell → State → State
step cells s = step_at s (present cells s)
