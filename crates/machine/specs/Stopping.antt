-- 01, "Carrying out": the free run stop, the emergency stop, and PX.
-- Assumes nothing.
use Rattle.std.specs.Prelude.{Bool, List, eqb, ℤ, pos, neg_ℤ}
use Rattle.laws.specs.Tests.{choose}
use Rattle.units.specs.Shift.{scaled_of}
use Rattle.units.specs.Remaining.{is_zero_of}
use Rattle.units.specs.declared.CellAddress.{CellAddress}
use Rattle.units.specs.declared.Steps.{Steps}
use Rattle.instruction.specs.Runs.{profile_of}
use Rattle.instruction.specs.declared.Cell.{Cell}
use Rattle.instruction.specs.declared.run.Motion.{Motion}
use Rattle.instruction.specs.declared.run.Motion.TheVariants.{NoRun, IndexedRun, FreeRun, SearchRun, DelayedStopRun}
use Rattle.instruction.specs.declared.run.Profile.{Profile}
use Rattle.machine.specs.Record.{nothing_suspended, with_suspended, stopped, idle}
use Rattle.machine.specs.Starting.{advanced, in_phase}
use Rattle.machine.specs.Taking.{is_recovery}
use Rattle.machine.specs.Milliseconds.{present}
use Rattle.machine.specs.declared.Remaining.TheVariants.{Nothing, Counted}
use Rattle.machine.specs.declared.Suspended.{Suspended}
use Rattle.machine.specs.declared.Phase.{Phase}
use Rattle.machine.specs.declared.Phase.TheVariants.{Waiting, Delay, Run, Braking, Slowing, EmergencySlowing, BackOff}
use Rattle.machine.specs.declared.Running.{Running}
use Rattle.machine.specs.declared.State.{State}

-- ---- free run stop

-- 01, of 05: "nnn×m steps along s, or 1 if nnn is 0"
unfoldable pub braking_count : Steps → Bool → ℤ
braking_count n x4 = choose (is_zero_of n) (pos 1) (scaled_of n x4)

unfoldable pub braking_steps : Profile → Steps
braking_steps p =
    record {
      0 = choose p.backward (neg_ℤ (braking_count p.steps p.x4)) (braking_count p.steps p.x4);
    }

-- 01: "12, 22 pass on; 02, 32 slow until halted, then pass on; 05, only after at-speed, goes on nnn×m steps along s"; 01, 31, 11, 21 and 03 take no notice
unfoldable pub free_run_stop_of : Motion → State → Profile → CellAddress → State
free_run_stop_of FreeRun s p next = choose (eqb p.ramp 0) (advanced s next) (in_phase s Slowing Nothing)
free_run_stop_of DelayedStopRun s p next = choose s.running.at_speed (in_phase s Braking (Counted (braking_steps p))) s
free_run_stop_of NoRun s p next = s
free_run_stop_of IndexedRun s p next = s
free_run_stop_of SearchRun s p next = s

-- 01: "a second one is ignored": only a run in its first phase is stopped
unfoldable pub free_run_stop_in : Phase → State → Profile → CellAddress → State
free_run_stop_in Run s p next = free_run_stop_of p.motion s p next
free_run_stop_in Waiting s p next = s
free_run_stop_in Delay s p next = s
free_run_stop_in Braking s p next = s
free_run_stop_in Slowing s p next = s
free_run_stop_in EmergencySlowing s p next = s
free_run_stop_in BackOff s p next = s

-- the same, given the present cell
unfoldable pub free_run_stop_at : State → Cell → State
free_run_stop_at s c = free_run_stop_in s.running.phase s (profile_of c.instruction) c.next

unfoldable pub free_run_stop : List Cell → State → State
free_run_stop cells s = free_run_stop_at s (present cells s)

-- ---- PX

-- 01, of 03: "fast along s until PX is on, slow down until halted"
unfoldable pub px_in_run : Motion → Bool → State → State
px_in_run SearchRun px s = choose px (in_phase s Slowing Nothing) s
px_in_run NoRun px s = s
px_in_run IndexedRun px s = s
px_in_run FreeRun px s = s
px_in_run DelayedStopRun px s = s

-- 01, of 03: "then at LL against s until PX is off, then pass on"
unfoldable pub px_seen_in : Phase → Bool → State → Profile → CellAddress → State
px_seen_in Run px s p next = px_in_run p.motion px s
px_seen_in BackOff px s p next = choose px s (advanced s next)
px_seen_in Waiting px s p next = s
px_seen_in Delay px s p next = s
px_seen_in Braking px s p next = s
px_seen_in Slowing px s p next = s
px_seen_in EmergencySlowing px s p next = s

-- 01: "PX is looked at when a phase begins and at each inputs word": here at an inputs word, given the present cell
unfoldable pub px_seen_at : Bool → State → Cell → State
px_seen_at px s c = px_seen_in s.running.phase px s (profile_of c.instruction) c.next

unfoldable pub px_seen : Bool → List Cell → State → State
px_seen px cells s = px_seen_at px s (present cells s)

-- ---- emergency stop

-- 01: "the record is cell, rest .., loop count"
abbrev pub suspended_of : Running → Suspended
suspended_of r = record { cell = r.cell; remaining = r.remaining; loops = r.loops }

-- 01: "a busy program ends", and can be resumed
abbrev pub interrupted : State → State
interrupted s = stopped (with_suspended s (suspended_of s.running))

-- the program ends, and nothing is left to resume
abbrev pub abandoned : State → State
abandoned s = stopped (with_suspended s nothing_suspended)

-- slowing with all that the run has
abbrev pub emergency_slowed : State → State
emergency_slowed s = in_phase s EmergencySlowing s.running.remaining

-- 01: "Ramp runs (01, 31, 02, 32, 03 fast, 05) and any slowing first slow until halted"; "While slowing for it, further EE .. do nothing";
-- "waiting at a 69, it is untouched"
unfoldable pub emergency_in : Phase → State → Cell → State
emergency_in Waiting s c = choose (is_recovery c.instruction) (stopped s) (interrupted s)
emergency_in Delay s c = interrupted s
emergency_in Run s c = choose (eqb (profile_of c.instruction).ramp 0) (interrupted s) (emergency_slowed s)
emergency_in Braking s c = emergency_slowed s
emergency_in Slowing s c = emergency_slowed s
emergency_in EmergencySlowing s c = s
emergency_in BackOff s c = interrupted s

-- 01: "Emergency stop (string or input EE, before ES): a busy program ends", given the present cell
unfoldable pub emergency_stop_at : State → Cell → State
emergency_stop_at s c = choose (idle s) s (emergency_in s.running.phase s c)

unfoldable pub emergency_stop : List Cell → State → State
emergency_stop cells s = emergency_stop_at s (present cells s)
