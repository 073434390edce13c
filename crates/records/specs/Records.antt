-- docs/SCRIPTS.md: "the record's 19 integers in the order of the names of K lines (below), parted by commas, the four signed ones with their sign".
-- Assumes nothing.
use Rattle.std.specs.Prelude.{ℕ, ◌+◌, ◌*◌, Bool, List, [], ◌∷◌, ◌++◌}
use Rattle.laws.specs.Text.{bytes}
use Rattle.units.specs.Bits.{bits_of}
use Rattle.decimal.specs.Printing.{decimal, signed}
use Rattle.instruction.specs.Numbers.{bit_of}
use Rattle.machine.specs.Answers.{preset_value}
use Rattle.machine.specs.declared.Presets.{Presets}
use Rattle.machine.specs.declared.Cam.{Cam}
use Rattle.machine.specs.declared.Fault.{Fault}
use Rattle.machine.specs.declared.Remaining.{Remaining}
use Rattle.machine.specs.declared.Remaining.TheVariants.{Nothing, Counted, Timed}
use Rattle.machine.specs.declared.Suspended.{Suspended}
use Rattle.machine.specs.declared.Phase.{Phase}
use Rattle.machine.specs.declared.Phase.TheVariants.{Waiting, Delay, Run, Braking, Slowing, EmergencySlowing, BackOff}
use Rattle.machine.specs.declared.Running.{Running}
use Rattle.machine.specs.declared.State.{State}
use Rattle.lines.specs.Gathering.{bit_text}
use Rattle.observed.specs.Orders.{field_text}

-- a number of 32 bits with its sign, and a comma
unfoldable pub signed_field : ℕ → List ℕ
signed_field bits = signed bits ++ bytes ","

-- what remains: steps with their sign, or milliseconds, which have all 32 bits and no sign but `+`
unfoldable pub remaining_text : Remaining → List ℕ
remaining_text Nothing = bytes "+0"
remaining_text (Counted n) = signed (bits_of n)
remaining_text (Timed n) = bytes "+" ++ decimal n.0

unfoldable pub remaining_field : Remaining → List ℕ
remaining_field r = remaining_text r ++ bytes ","

-- `ad in rs es cm`
unfoldable pub presets_text : Presets → List ℕ
presets_text p =
    field_text (preset_value 0 p)
    ++ (field_text (preset_value 1 p) ++ (field_text (preset_value 2 p) ++ (field_text (preset_value 3 p) ++ field_text (preset_value 4 p))))

-- `inp`: the word that sets the inputs so, the first of them its lowest bit
unfoldable pub inputs_word : List Bool → ℕ
inputs_word [] = 0
inputs_word (b ∷ bs) = 2 * inputs_word bs + bit_of b

-- `camset campos`
unfoldable pub cam_text : Cam → List ℕ
cam_text c = field_text (bit_of c.set) ++ signed_field c.position.0

-- `errcode errcell`
unfoldable pub fault_text : Fault → List ℕ
fault_text f = field_text f.code ++ field_text f.cell.0

-- `reccell recrest recloop`
unfoldable pub suspended_text : Suspended → List ℕ
suspended_text r = field_text r.cell.0 ++ (remaining_field r.remaining ++ field_text r.loops)

-- "phase: 0 waiting or idle, 1 delay, 2 run, 3 braking, 4 slowing, 5 emergency slowing, 6 back"
abbrev pub phase_place : Phase → ℕ
phase_place Waiting = 0
phase_place Delay = 1
phase_place Run = 2
phase_place Braking = 3
phase_place Slowing = 4
phase_place EmergencySlowing = 5
phase_place BackOff = 6

-- `cell phase rest loop mark`
unfoldable pub running_text : Running → List ℕ
running_text r =
    field_text r.cell.0
    ++ (field_text (phase_place r.phase) ++ (remaining_field r.remaining ++ (field_text r.loops ++ bit_text r.at_speed)))

-- `ad in rs es cm pos inp camset campos errcode errcell reccell recrest recloop cell phase rest loop mark`
unfoldable pub record_text : State → List ℕ
record_text s =
    presets_text s.presets
    ++ (signed_field s.position.0
    ++ (field_text (inputs_word s.inputs)
    ++ (cam_text s.cam ++ (fault_text s.fault ++ (suspended_text s.suspended ++ running_text s.running)))))
