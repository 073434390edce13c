-- docs/SCRIPTS.md, "K: raw writes": the fields of the record that have one integer each.
-- Which integers a field can hold, and how it is set to one.
-- Assumes nothing.
use Rattle.std.specs.Prelude.{ℕ, suc, Bool, true, List, [], ◌∷◌, eqb, leb}
use Rattle.laws.specs.Tests.{choose}
use Rattle.instruction.specs.Numbers.{byte_of, word_of, is_one}
use Rattle.machine.specs.Record.{with_presets, with_position, with_inputs, with_cam, with_fault, with_suspended, with_running, with_loop_count}
use Rattle.machine.specs.Acting.{with_address, with_current, with_resolution, with_interlock, with_absolute}
use Rattle.machine.specs.Commands.{resolution_at}
use Rattle.machine.specs.InputWords.{inputs_of}
use Rattle.machine.specs.declared.Phase.{Phase as PhaseOf}
use Rattle.machine.specs.declared.Phase.TheVariants.{Waiting, Delay, Run, Braking, Slowing, EmergencySlowing, BackOff}
use Rattle.machine.specs.declared.Running.{Running}
use Rattle.machine.specs.declared.Suspended.{Suspended}
use Rattle.machine.specs.declared.State.{State}
use Rattle.raw.specs.Integers.{fits_byte, fits_word, fits_signed, long_of}
use Rattle.raw.specs.declared.names.Field.{Field}
use Rattle.raw.specs.declared.names.Field.TheVariants.{Address, Current, Resolution, Interlock, Absolute, MotorPosition, Inputs}
use Rattle.raw.specs.declared.names.Field.TheVariants.{CamSet, CamPosition, FaultCode, FaultCell}
use Rattle.raw.specs.declared.names.Field.TheVariants.{SuspendedCell, SuspendedRemaining, SuspendedLoops}
use Rattle.raw.specs.declared.names.Field.TheVariants.{RunningCell, RunningPhase, RunningRemaining, RunningLoops, AtSpeed}
use Rattle.raw.specs.declared.remaining.Counts.{Counts}

-- docs/SCRIPTS.md: "`ad in rs es cm pos inp camset campos errcode errcell reccell recrest recloop cell phase rest loop mark`"
unfoldable pub fields : List Field
fields =
    Address ∷ Current ∷ Resolution ∷ Interlock ∷ Absolute ∷ MotorPosition ∷ Inputs ∷ CamSet ∷ CamPosition ∷ FaultCode ∷ FaultCell ∷
    SuspendedCell ∷ SuspendedRemaining ∷ SuspendedLoops ∷ RunningCell ∷ RunningPhase ∷ RunningRemaining ∷ RunningLoops ∷ AtSpeed ∷ []

-- the field at a place of a list that starts at i; past its end the mark
unfoldable pub field_in : ℕ → List Field → ℕ → Field
field_in i [] k = AtSpeed
field_in i (f ∷ fs) k = choose (eqb k i) f (field_in (suc i) fs k)

unfoldable pub field_at : ℕ → Field
field_at k = field_in 0 fields k

-- which integers a field can hold; a remaining count by its unit, when the record is put together
unfoldable pub fits_field : Field → ℕ → Bool
fits_field Address v = fits_byte v
fits_field Current v = fits_byte v
fits_field Resolution v = leb v 7
fits_field Interlock v = leb v 1
fits_field Absolute v = leb v 1
fits_field MotorPosition v = fits_signed v
fits_field Inputs v = leb v 2047
fits_field CamSet v = leb v 1
fits_field CamPosition v = fits_signed v
fits_field FaultCode v = fits_byte v
fits_field FaultCell v = fits_byte v
fits_field SuspendedCell v = fits_byte v
fits_field SuspendedRemaining v = true
fits_field SuspendedLoops v = fits_word v
fits_field RunningCell v = fits_byte v
fits_field RunningPhase v = leb v 6
fits_field RunningRemaining v = true
fits_field RunningLoops v = fits_word v
fits_field AtSpeed v = leb v 1

-- docs/SCRIPTS.md: "phase: 0 waiting or idle, 1 delay, 2 run, 3 braking, 4 slowing, 5 emergency slowing, 6 back"
unfoldable pub phase_at : ℕ → PhaseOf
phase_at k =
    choose (eqb k 0) Waiting
    (choose (eqb k 1) Delay
    (choose (eqb k 2) Run
    (choose (eqb k 3) Braking
    (choose (eqb k 4) Slowing
    (choose (eqb k 5) EmergencySlowing BackOff)))))

-- one part of the interrupted record or of the program under way replaced
abbrev pub suspended_at : Suspended → ℕ → Suspended
suspended_at r y = record { cell = record { 0 = y }; remaining = r.remaining; loops = r.loops }

abbrev pub suspended_looped : Suspended → ℕ → Suspended
suspended_looped r y = record { cell = r.cell; remaining = r.remaining; loops = y }

abbrev pub running_at : Running → ℕ → Running
running_at r y =
    record { cell = record { 0 = y }; phase = r.phase; remaining = r.remaining; loops = r.loops; at_speed = r.at_speed }

abbrev pub running_in : Running → PhaseOf → Running
running_in r y = record { cell = r.cell; phase = y; remaining = r.remaining; loops = r.loops; at_speed = r.at_speed }

abbrev pub running_marked : Running → Bool → Running
running_marked r y = record { cell = r.cell; phase = r.phase; remaining = r.remaining; loops = r.loops; at_speed = y }

-- the state with a field set, as the field keeps an integer; both remaining counts stay. docs/SCRIPTS.md: "rs: the place in D0 to D3, B0 to B3"
unfoldable pub with_field : State → Field → ℕ → State
with_field s Address v = with_presets s (with_address s.presets (record { 0 = byte_of v }))
with_field s Current v = with_presets s (with_current s.presets (byte_of v))
with_field s Resolution v = with_presets s (with_resolution s.presets (resolution_at v))
with_field s Interlock v = with_presets s (with_interlock s.presets (is_one v))
with_field s Absolute v = with_presets s (with_absolute s.presets (is_one v))
with_field s MotorPosition v = with_position s (record { 0 = long_of v })
with_field s Inputs v = with_inputs s (inputs_of (word_of v))
with_field s CamSet v = with_cam s (record { set = is_one v; position = s.cam.position })
with_field s CamPosition v = with_cam s (record { set = s.cam.set; position = record { 0 = long_of v } })
with_field s FaultCode v = with_fault s (record { code = byte_of v; cell = s.fault.cell })
with_field s FaultCell v = with_fault s (record { code = s.fault.code; cell = record { 0 = byte_of v } })
with_field s SuspendedCell v = with_suspended s (suspended_at s.suspended (byte_of v))
with_field s SuspendedRemaining v = s
with_field s SuspendedLoops v = with_suspended s (suspended_looped s.suspended (word_of v))
with_field s RunningCell v = with_running s (running_at s.running (byte_of v))
with_field s RunningPhase v = with_running s (running_in s.running (phase_at v))
with_field s RunningRemaining v = s
with_field s RunningLoops v = with_running s (with_loop_count s.running (word_of v))
with_field s AtSpeed v = with_running s (running_marked s.running (is_one v))

-- both remaining counts with a field set; every other field leaves them
unfoldable pub counts_with : Counts → Field → ℕ → Counts
counts_with n Address v = n
counts_with n Current v = n
counts_with n Resolution v = n
counts_with n Interlock v = n
counts_with n Absolute v = n
counts_with n MotorPosition v = n
counts_with n Inputs v = n
counts_with n CamSet v = n
counts_with n CamPosition v = n
counts_with n FaultCode v = n
counts_with n FaultCell v = n
counts_with n SuspendedCell v = n
counts_with n SuspendedRemaining v = record { suspended = v; running = n.running }
counts_with n SuspendedLoops v = n
counts_with n RunningCell v = n
counts_with n RunningPhase v = n
counts_with n RunningRemaining v = record { suspended = n.suspended; running = v }
counts_with n RunningLoops v = n
counts_with n AtSpeed v = n
