-- 01, "What a drive holds": a fresh drive, and the record changed one part at a time.
-- Assumes nothing.
use Rattle.std.specs.Prelude.{ℕ, ◌-◌, Bool, true, false, List, get_or, set, replicate, eqb}
use Rattle.units.specs.declared.CellAddress.{CellAddress}
use Rattle.units.specs.declared.DriveAddress.{DriveAddress}
use Rattle.units.specs.declared.position.Position.{Position}
use Rattle.instruction.specs.declared.Cell.{Cell}
use Rattle.instruction.specs.declared.Instruction.TheVariants.{Null}
use Rattle.machine.specs.declared.Resolution.TheVariants.{D2}
use Rattle.machine.specs.declared.Presets.{Presets}
use Rattle.machine.specs.declared.Cam.{Cam}
use Rattle.machine.specs.declared.Fault.{Fault}
use Rattle.machine.specs.declared.Remaining.TheVariants.{Nothing}
use Rattle.machine.specs.declared.Suspended.{Suspended}
use Rattle.machine.specs.declared.Phase.{Phase}
use Rattle.machine.specs.declared.Phase.TheVariants.{Waiting, Delay, Run, Braking, Slowing, EmergencySlowing, BackOff}
use Rattle.machine.specs.declared.Running.{Running}
use Rattle.machine.specs.declared.State.{State}
use Rattle.machine.specs.declared.Machine.{Machine}

-- 000
abbrev pub none : CellAddress
none = record { 0 = 0 }

-- 01: "Cells 100 to 230 each hold one instruction, at first Null with next 000"
abbrev pub null_cell : Cell
null_cell = record { instruction = Null; next = none }

-- the cell at an address
unfoldable pub cell_at : List Cell → CellAddress → Cell
cell_at cells a = get_or cells (a.0 - 100) null_cell

unfoldable pub stored_at : List Cell → CellAddress → Cell → List Cell
stored_at cells a c = set cells (a.0 - 100) c

abbrev pub origin : Position
origin = record { 0 = 0 }

abbrev pub no_cam : Cam
no_cam = record { set = false; position = origin }

abbrev pub no_fault : Fault
no_fault = record { code = 0; cell = none }

-- 01: "an empty record is three zeros"
abbrev pub nothing_suspended : Suspended
nothing_suspended = record { cell = none; remaining = Nothing; loops = 0 }

-- 01: "Idle, these five are zero"
abbrev pub at_rest : Running
at_rest = record { cell = none; phase = Waiting; remaining = Nothing; loops = 0; at_speed = false }

-- 01: "IN 0 to 3, first 1; RS .. first D2; ES 0 or 1, first 0; CM 0 (relative) or 1 (absolute), first 0"
abbrev pub fresh_presets : DriveAddress → Presets
fresh_presets a = record { address = a; current = 1; resolution = D2; interlock = false; absolute = false }

-- 01: "CM 0 (relative) or 1 (absolute)"
abbrev pub is_absolute : Presets → Bool
is_absolute p = p.absolute

-- 01: "outputs .. all first 0; inputs .. first 0"
abbrev pub fresh_state : DriveAddress → State
fresh_state a =
    record {
      presets = fresh_presets a;
      position = origin;
      inputs = replicate 11 false;
      outputs = replicate 14 false;
      cam = no_cam;
      fault = no_fault;
      suspended = nothing_suspended;
      running = at_rest;
    }

unfoldable pub fresh : DriveAddress → Machine
fresh a = record { state = fresh_state a; cells = replicate 131 null_cell }

-- a state by its parts, in the order of the record
abbrev pub state_of : Presets → Position → List Bool → List Bool → Cam → Fault → Suspended → Running → State
state_of p x i o c f h r =
    record { presets = p; position = x; inputs = i; outputs = o; cam = c; fault = f; suspended = h; running = r }

-- one part of the state replaced
abbrev pub with_presets : State → Presets → State
with_presets s y = state_of y s.position s.inputs s.outputs s.cam s.fault s.suspended s.running

abbrev pub with_position : State → Position → State
with_position s y = state_of s.presets y s.inputs s.outputs s.cam s.fault s.suspended s.running

abbrev pub with_inputs : State → List Bool → State
with_inputs s y = state_of s.presets s.position y s.outputs s.cam s.fault s.suspended s.running

abbrev pub with_outputs : State → List Bool → State
with_outputs s y = state_of s.presets s.position s.inputs y s.cam s.fault s.suspended s.running

abbrev pub with_cam : State → Cam → State
with_cam s y = state_of s.presets s.position s.inputs s.outputs y s.fault s.suspended s.running

abbrev pub with_fault : State → Fault → State
with_fault s y = state_of s.presets s.position s.inputs s.outputs s.cam y s.suspended s.running

abbrev pub with_suspended : State → Suspended → State
with_suspended s y = state_of s.presets s.position s.inputs s.outputs s.cam s.fault y s.running

abbrev pub with_running : State → Running → State
with_running s y = state_of s.presets s.position s.inputs s.outputs s.cam s.fault s.suspended y

abbrev pub with_state : Machine → State → Machine
with_state m s = record { state = s; cells = m.cells }

abbrev pub with_loop_count : Running → ℕ → Running
with_loop_count r n =
    record { cell = r.cell; phase = r.phase; remaining = r.remaining; loops = n; at_speed = r.at_speed }

-- the places of the inputs: 01, "inputs I0, I1, I2, PX, S0 to S3, ST, ES, EE (bits 0 to 10)"
abbrev pub input_at : State → ℕ → Bool
input_at s k = get_or s.inputs k false

abbrev pub in_px : ℕ
in_px = 3

abbrev pub in_s0 : ℕ
in_s0 = 4

abbrev pub in_st : ℕ
in_st = 8

abbrev pub in_es : ℕ
in_es = 9

abbrev pub in_ee : ℕ
in_ee = 10

-- the places of the outputs: O0 to O3, FC, F0 to F7, CU
abbrev pub output_at : State → ℕ → Bool
output_at s k = get_or s.outputs k false

abbrev pub out_o3 : ℕ
out_o3 = 3

abbrev pub out_fc : ℕ
out_fc = 4

abbrev pub out_f0 : ℕ
out_f0 = 5

abbrev pub out_cu : ℕ
out_cu = 13

abbrev pub with_output : State → ℕ → Bool → State
with_output s k v = with_outputs s (set s.outputs k v)

-- 01: "a drive is idle while it has no present cell"
unfoldable pub idle : State → Bool
idle s = eqb s.running.cell.0 0

-- 01: "The last five are a run under way"
abbrev pub under_way : Phase → Bool
under_way Waiting = false
under_way Delay = false
under_way Run = true
under_way Braking = true
under_way Slowing = true
under_way EmergencySlowing = true
under_way BackOff = true

-- 01: "moving while a run is under way"
unfoldable pub moving : State → Bool
moving s = under_way s.running.phase

-- becoming idle
abbrev pub stopped : State → State
stopped s = with_running s at_rest
