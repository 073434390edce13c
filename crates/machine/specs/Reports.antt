-- 01, "Carrying out": at-speed and halted, reported by the board.
-- Assumes nothing.
use Rattle.std.specs.Prelude.{Bool, true, false, not, List, eqb}
use Rattle.laws.specs.Tests.{choose}
use Rattle.units.specs.declared.CellAddress.{CellAddress}
use Rattle.instruction.specs.Runs.{profile_of}
use Rattle.instruction.specs.declared.Cell.{Cell}
use Rattle.instruction.specs.declared.run.Motion.{Motion}
use Rattle.instruction.specs.declared.run.Motion.TheVariants.{NoRun, IndexedRun, FreeRun, SearchRun, DelayedStopRun}
use Rattle.instruction.specs.declared.run.Profile.{Profile}
use Rattle.machine.specs.Record.{with_running, input_at, in_px}
use Rattle.machine.specs.Starting.{advanced, entered}
use Rattle.machine.specs.Milliseconds.{present}
use Rattle.machine.specs.Stopping.{interrupted, abandoned}
use Rattle.machine.specs.declared.Remaining.TheVariants.{Nothing}
use Rattle.machine.specs.declared.Phase.{Phase}
use Rattle.machine.specs.declared.Phase.TheVariants.{Waiting, Delay, Run, Braking, Slowing, EmergencySlowing, BackOff}
use Rattle.machine.specs.declared.State.{State}

abbrev pub runs_or_brakes : Phase → Bool
runs_or_brakes Run = true
runs_or_brakes Braking = true
runs_or_brakes Waiting = false
runs_or_brakes Delay = false
runs_or_brakes Slowing = false
runs_or_brakes EmergencySlowing = false
runs_or_brakes BackOff = false

-- 01: "6, at-speed outside the run or braking of a ramp run"
unfoldable pub takes_at_speed_in : Phase → Profile → Bool
takes_at_speed_in phase p = choose (runs_or_brakes phase) (not (eqb p.ramp 0)) false

-- the same of a drive, given its present cell
unfoldable pub takes_at_speed_at : State → Cell → Bool
takes_at_speed_at s c = takes_at_speed_in s.running.phase (profile_of c.instruction)

unfoldable pub takes_at_speed : List Cell → State → Bool
takes_at_speed cells s = takes_at_speed_at s (present cells s)

-- 01: "At-speed sets the mark"
abbrev pub at_speed : State → State
at_speed s =
    with_running s
    (record {
      cell = s.running.cell;
      phase = s.running.phase;
      remaining = s.running.remaining;
      loops = s.running.loops;
      at_speed = true;
    })

abbrev pub slows : Phase → Bool
slows Slowing = true
slows EmergencySlowing = true
slows Waiting = false
slows Delay = false
slows Run = false
slows Braking = false
slows BackOff = false

-- 01: "halted outside both slowings"
abbrev pub takes_halted : State → Bool
takes_halted s = slows s.running.phase

-- 01: "02, 32 slow until halted, then pass on"; 03 then goes back "until PX is off", which is "looked at when a phase begins"
unfoldable pub halted_slowing : Motion → State → CellAddress → State
halted_slowing SearchRun s next = choose (input_at s in_px) (entered s BackOff Nothing) (advanced s next)
halted_slowing NoRun s next = advanced s next
halted_slowing IndexedRun s next = advanced s next
halted_slowing FreeRun s next = advanced s next
halted_slowing DelayedStopRun s next = advanced s next

-- 01: "the record is cell, rest .., loop count; after a 05 under way it is empty"
unfoldable pub halted_emergency : Motion → State → State
halted_emergency DelayedStopRun s = abandoned s
halted_emergency NoRun s = interrupted s
halted_emergency IndexedRun s = interrupted s
halted_emergency FreeRun s = interrupted s
halted_emergency SearchRun s = interrupted s

unfoldable pub halted_in : Phase → Motion → State → CellAddress → State
halted_in Slowing m s next = halted_slowing m s next
halted_in EmergencySlowing m s next = halted_emergency m s
halted_in Waiting m s next = s
halted_in Delay m s next = s
halted_in Run m s next = s
halted_in Braking m s next = s
halted_in BackOff m s next = s

-- halted, given the present cell
unfoldable pub halted_at : State → Cell → State
halted_at s c = halted_in s.running.phase (profile_of c.instruction).motion s c.next

unfoldable pub halted : List Cell → State → State
halted cells s = halted_at s (present cells s)
