-- 01, "What a drive holds": "A drive is sound if all fields lie in these ranges and: ..".
-- Assumes nothing.
use Rattle.std.specs.Prelude.{ℕ, ◌^◌, Bool, true, false, not, List, eqb, leb, ltb, nat_abs}
use Rattle.laws.specs.Tests.{choose, both, either, same}
use Rattle.laws.specs.Tables.{every}
use Rattle.units.specs.Limits.{loop_limit, remaining_limit}
use Rattle.units.specs.Remaining.{is_zero_of, is_negative_of}
use Rattle.units.specs.declared.CellAddress.{CellAddress}
use Rattle.units.specs.declared.Steps.{Steps}
use Rattle.units.specs.declared.Milliseconds.{Milliseconds}
use Rattle.units.specs.declared.position.Position.{Position}
use Rattle.instruction.specs.Codes.{code_of}
use Rattle.instruction.specs.Runs.{profile_of}
use Rattle.instruction.specs.Soundness.{cell_sound}
use Rattle.instruction.specs.declared.Cell.{Cell}
use Rattle.instruction.specs.declared.Instruction.{Instruction}
use Rattle.instruction.specs.declared.run.Motion.{Motion}
use Rattle.instruction.specs.declared.run.Motion.TheVariants.{NoRun, IndexedRun, FreeRun, SearchRun, DelayedStopRun}
use Rattle.instruction.specs.declared.run.Profile.{Profile}
use Rattle.machine.specs.Record.{cell_at}
use Rattle.machine.specs.declared.Presets.{Presets}
use Rattle.machine.specs.declared.Cam.{Cam}
use Rattle.machine.specs.declared.Fault.{Fault}
use Rattle.machine.specs.declared.Remaining.{Remaining}
use Rattle.machine.specs.declared.Remaining.TheVariants.{Nothing, Counted, Timed}
use Rattle.machine.specs.declared.Suspended.{Suspended}
use Rattle.machine.specs.declared.Phase.{Phase}
use Rattle.machine.specs.declared.Phase.TheVariants.{Waiting, Delay, Run, Braking, Slowing, EmergencySlowing, BackOff}
use Rattle.machine.specs.declared.Running.{Running}
use Rattle.machine.specs.declared.State.{State}
use Rattle.machine.specs.declared.Machine.{Machine}

-- 01: "AD address" (0 to 47); "IN 0 to 3". RS, ES and CM hold nothing else.
unfoldable pub presets_sound : Presets → Bool
presets_sound p = both (leb p.address.0 47) (leb p.current 3)

-- 01: "Cells 100 to 230"
unfoldable pub is_cell : CellAddress → Bool
is_cell a = both (leb 100 a.0) (leb a.0 230)

-- 01: "position, 32 bits signed"
unfoldable pub position_sound : Position → Bool
position_sound p = ltb p.0 (2 ^ 32)

-- 01: "an unset cam has position 0"
unfoldable pub cam_sound : Cam → Bool
cam_sound c = both (position_sound c.position) (either c.set (eqb c.position.0 0))

-- 01: "an error is 0 with cell 0, or 50 to 52 with a cell"
unfoldable pub fault_sound : Fault → Bool
fault_sound f =
    choose (eqb f.code 0) (eqb f.cell.0 0) (both (both (leb 50 f.code) (leb f.code 52)) (is_cell f.cell))

-- 01: "a loop count is at most 65,535"
unfoldable pub loop_count_sound : ℕ → Bool
loop_count_sound n = leb n loop_limit

-- 01: "a rest is within 33,554,428 either way"; a rest of steps or milliseconds is never 0
unfoldable pub steps_remaining : Steps → Bool
steps_remaining n = both (leb (nat_abs n.0) remaining_limit) (not (is_zero_of n))

unfoldable pub time_remaining : Milliseconds → Bool
time_remaining n = both (leb 1 n.0) (leb n.0 remaining_limit)

unfoldable pub is_nothing : Remaining → Bool
is_nothing Nothing = true
is_nothing (Counted n) = false
is_nothing (Timed n) = false

unfoldable pub is_steps : Remaining → Bool
is_steps (Counted n) = steps_remaining n
is_steps Nothing = false
is_steps (Timed n) = false

unfoldable pub is_time : Remaining → Bool
is_time (Timed n) = time_remaining n
is_time Nothing = false
is_time (Counted n) = false

-- steps along s
unfoldable pub is_steps_along : Bool → Remaining → Bool
is_steps_along s (Counted n) = both (steps_remaining n) (same (is_negative_of n) s)
is_steps_along s Nothing = false
is_steps_along s (Timed n) = false

unfoldable pub is_indexed : Motion → Bool
is_indexed IndexedRun = true
is_indexed NoRun = false
is_indexed FreeRun = false
is_indexed SearchRun = false
is_indexed DelayedStopRun = false

unfoldable pub is_delay : Instruction → Bool
is_delay i = eqb (code_of i) 65

-- 01: "non-zero in the record only for an indexed run or (positive) a 65"
unfoldable pub suspended_remaining : Remaining → Instruction → Bool
suspended_remaining Nothing i = true
suspended_remaining (Counted n) i = both (is_indexed (profile_of i).motion) (steps_remaining n)
suspended_remaining (Timed n) i = both (is_delay i) (time_remaining n)

-- 01: "an empty record is three zeros"
unfoldable pub suspended_sound : List Cell → Suspended → Bool
suspended_sound cells r =
    choose (eqb r.cell.0 0) (both (is_nothing r.remaining) (eqb r.loops 0))
    (both (is_cell r.cell)
    (both (loop_count_sound r.loops) (suspended_remaining r.remaining (cell_at cells r.cell).instruction)))

unfoldable pub has_ramp : Profile → Bool
has_ramp p = not (eqb p.ramp 0)

-- 01: "Phases: waiting; delay (65); run (for 03 its fast part); braking (05 after its stop); slowing (02, 32, 03); emergency slowing (ramp runs);
-- back (03 at LL)"
unfoldable pub run_phase : Motion → Bool
run_phase NoRun = false
run_phase IndexedRun = true
run_phase FreeRun = true
run_phase SearchRun = true
run_phase DelayedStopRun = true

unfoldable pub braking_phase : Motion → Bool
braking_phase DelayedStopRun = true
braking_phase NoRun = false
braking_phase IndexedRun = false
braking_phase FreeRun = false
braking_phase SearchRun = false

unfoldable pub slowing_phase : Motion → Profile → Bool
slowing_phase FreeRun p = has_ramp p
slowing_phase SearchRun p = true
slowing_phase NoRun p = false
slowing_phase IndexedRun p = false
slowing_phase DelayedStopRun p = false

unfoldable pub back_phase : Motion → Bool
back_phase SearchRun = true
back_phase NoRun = false
back_phase IndexedRun = false
back_phase FreeRun = false
back_phase DelayedStopRun = false

-- 01: "the phase is one that the present cell's code has"
unfoldable pub has_phase : Phase → Instruction → Bool
has_phase Waiting i = true
has_phase Delay i = is_delay i
has_phase Run i = run_phase (profile_of i).motion
has_phase Braking i = braking_phase (profile_of i).motion
has_phase Slowing i = slowing_phase (profile_of i).motion (profile_of i)
has_phase EmergencySlowing i = has_ramp (profile_of i)
has_phase BackOff i = back_phase (profile_of i).motion

-- 01: "non-zero in an indexed run (slowing or not) .. 0 or along s in a 05's emergency slowing, else 0"
unfoldable pub emergency_remaining : Motion → Profile → Remaining → Bool
emergency_remaining IndexedRun p r = is_steps r
emergency_remaining DelayedStopRun p r = either (is_nothing r) (is_steps_along p.backward r)
emergency_remaining NoRun p r = is_nothing r
emergency_remaining FreeRun p r = is_nothing r
emergency_remaining SearchRun p r = is_nothing r

-- 01: "a busy rest is positive in a delay, non-zero in an indexed run (slowing or not), non-zero along s in braking, .. else 0"
unfoldable pub busy_remaining : Phase → Profile → Remaining → Bool
busy_remaining Waiting p r = is_nothing r
busy_remaining Delay p r = is_time r
busy_remaining Run p r = choose (is_indexed p.motion) (is_steps r) (is_nothing r)
busy_remaining Braking p r = is_steps_along p.backward r
busy_remaining Slowing p r = is_nothing r
busy_remaining EmergencySlowing p r = emergency_remaining p.motion p r
busy_remaining BackOff p r = is_nothing r

-- 01: "the mark is 1 in braking, 0 in waiting, delay, back and runs without ramp"
unfoldable pub at_speed_sound : Phase → Profile → Bool → Bool
at_speed_sound Waiting p at_speed = not at_speed
at_speed_sound Delay p at_speed = not at_speed
at_speed_sound Run p at_speed = either (has_ramp p) (not at_speed)
at_speed_sound Braking p at_speed = at_speed
at_speed_sound Slowing p at_speed = true
at_speed_sound EmergencySlowing p at_speed = true
at_speed_sound BackOff p at_speed = not at_speed

abbrev pub is_waiting : Phase → Bool
is_waiting Waiting = true
is_waiting Delay = false
is_waiting Run = false
is_waiting Braking = false
is_waiting Slowing = false
is_waiting EmergencySlowing = false
is_waiting BackOff = false

-- 01: "Idle, these five are zero"
unfoldable pub resting_sound : Running → Bool
resting_sound r =
    both (is_waiting r.phase) (both (is_nothing r.remaining) (both (eqb r.loops 0) (not r.at_speed)))

unfoldable pub busy_sound : Running → Instruction → Bool
busy_sound r i =
    both (is_cell r.cell)
    (both (loop_count_sound r.loops)
    (both (has_phase r.phase i)
    (both (busy_remaining r.phase (profile_of i) r.remaining) (at_speed_sound r.phase (profile_of i) r.at_speed))))

unfoldable pub running_sound : List Cell → Running → Bool
running_sound cells r = choose (eqb r.cell.0 0) (resting_sound r) (busy_sound r (cell_at cells r.cell).instruction)

unfoldable pub state_sound : List Cell → State → Bool
state_sound cells s =
    both (presets_sound s.presets)
    (both (position_sound s.position)
    (both (cam_sound s.cam)
    (both (fault_sound s.fault)
    (both (suspended_sound cells s.suspended) (running_sound cells s.running)))))

-- by what a cell may hold
abbrev pub sound_by : (Cell → Bool) → Machine → Bool
sound_by cell m = both (every cell m.cells) (state_sound m.cells m.state)

unfoldable pub sound : Machine → Bool
sound m = sound_by cell_sound m
