-- 01, "Strings": what each command does to the drive. A command looks at one cell of the memory, and only WN changes the memory.
-- Assumes nothing.
use Rattle.std.specs.Prelude.{ℕ, Bool, not, List, eqb}
use Rattle.laws.specs.Tests.{choose, both, either}
use Rattle.units.specs.declared.CellAddress.{CellAddress}
use Rattle.units.specs.declared.DriveAddress.{DriveAddress}
use Rattle.instruction.specs.Codes.{code_of}
use Rattle.instruction.specs.Numbers.{numbers_of, same_numbers}
use Rattle.instruction.specs.declared.Cell.{Cell}
use Rattle.machine.specs.Record.{cell_at, stored_at, nothing_suspended, with_presets, with_position, with_cam, with_output, with_suspended}
use Rattle.machine.specs.Starting.{started}
use Rattle.machine.specs.Stopping.{free_run_stop_at, emergency_stop_at}
use Rattle.machine.specs.declared.Resolution.{Resolution}
use Rattle.machine.specs.declared.Presets.{Presets}
use Rattle.machine.specs.declared.State.{State}
use Rattle.machine.specs.declared.Machine.{Machine}
use Rattle.machine.specs.declared.commands.PresetValue.{PresetValue}
use Rattle.machine.specs.declared.commands.PresetValue.TheVariants as preset
use Rattle.machine.specs.declared.commands.Command.{Command}
use Rattle.machine.specs.declared.commands.Command.TheVariants.{Store, SetPreset, Start, EmergencyStop, FreeRunStop, SetPosition, SetOutput, SetCam, AskPosition, AskPreset, AskInput, AskOutput, AskCell, AskCam, AskFault, AskSuspended, Wrong}

-- ---- WN

-- 01, "Instructions": content is the whole stored instruction, with its next
unfoldable pub same_content : Cell → Cell → Bool
same_content c d =
    both (eqb (code_of c.instruction) (code_of d.instruction)) (same_numbers (numbers_of c) (numbers_of d))

-- 01: "WN of changed content into the interrupted record's cell empties the record; WN of equal content leaves it."
unfoldable pub keeps_suspended : State → CellAddress → Cell → Cell → Bool
keeps_suspended s a old new = either (not (eqb a.0 s.suspended.cell.0)) (same_content old new)

unfoldable pub stored_state : State → CellAddress → Cell → Cell → State
stored_state s a old new = choose (keeps_suspended s a old new) s (with_suspended s nothing_suspended)

-- ---- WS

-- presets by their parts, in the order of the record
abbrev pub presets_of : DriveAddress → ℕ → Resolution → Bool → Bool → Presets
presets_of a i r e c = record { address = a; current = i; resolution = r; interlock = e; absolute = c }

-- one preset replaced
abbrev pub with_address : Presets → DriveAddress → Presets
with_address p y = presets_of y p.current p.resolution p.interlock p.absolute

abbrev pub with_current : Presets → ℕ → Presets
with_current p y = presets_of p.address y p.resolution p.interlock p.absolute

abbrev pub with_resolution : Presets → Resolution → Presets
with_resolution p y = presets_of p.address p.current y p.interlock p.absolute

abbrev pub with_interlock : Presets → Bool → Presets
with_interlock p y = presets_of p.address p.current p.resolution y p.absolute

abbrev pub with_absolute : Presets → Bool → Presets
with_absolute p y = presets_of p.address p.current p.resolution p.interlock y

-- 01: "`AAWS,VV,value`"
unfoldable pub preset_set : Presets → PresetValue → Presets
preset_set p (preset.Address y) = with_address p y
preset_set p (preset.Current y) = with_current p y
preset_set p (preset.Resolution y) = with_resolution p y
preset_set p (preset.Interlock y) = with_interlock p y
preset_set p (preset.Absolute y) = with_absolute p y

-- ---- every command

-- the cell that a command looks at: the one that it stores or asks for, else the present one
unfoldable pub named : Command → State → CellAddress
named (Store a d) s = a
named (SetPreset v) s = s.running.cell
named (Start a) s = s.running.cell
named EmergencyStop s = s.running.cell
named FreeRunStop s = s.running.cell
named (SetPosition b) s = s.running.cell
named (SetOutput o v) s = s.running.cell
named (SetCam v b) s = s.running.cell
named AskPosition s = s.running.cell
named (AskPreset k) s = s.running.cell
named (AskInput k) s = s.running.cell
named (AskOutput k) s = s.running.cell
named (AskCell a) s = a
named AskCam s = s.running.cell
named AskFault s = s.running.cell
named AskSuspended s = s.running.cell
named Wrong s = s.running.cell

-- 01: "Commands ..": the state after one, given the cell that it names. A request changes nothing, and neither does what is answered N.
unfoldable pub acted_at : Command → State → Cell → State
acted_at (Store a d) s c = stored_state s a c d
acted_at (SetPreset v) s c = with_presets s (preset_set s.presets v)
acted_at (Start a) s c = started s a
acted_at EmergencyStop s c = emergency_stop_at s c
acted_at FreeRunStop s c = free_run_stop_at s c
acted_at (SetPosition b) s c = with_position s (record { 0 = b })
acted_at (SetOutput o v) s c = with_output s o v
acted_at (SetCam v b) s c = with_cam s (record { set = v; position = record { 0 = b } })
acted_at AskPosition s c = s
acted_at (AskPreset k) s c = s
acted_at (AskInput k) s c = s
acted_at (AskOutput k) s c = s
acted_at (AskCell a) s c = s
acted_at AskCam s c = s
acted_at AskFault s c = s
acted_at AskSuspended s c = s
acted_at Wrong s c = s

-- 01: "`AAWN,BBB,CC,..,DDD`": the memory after a command
unfoldable pub cells_after : Command → List Cell → List Cell
cells_after (Store a d) cells = stored_at cells a d
cells_after (SetPreset v) cells = cells
cells_after (Start a) cells = cells
cells_after EmergencyStop cells = cells
cells_after FreeRunStop cells = cells
cells_after (SetPosition b) cells = cells
cells_after (SetOutput o v) cells = cells
cells_after (SetCam v b) cells = cells
cells_after AskPosition cells = cells
cells_after (AskPreset k) cells = cells
cells_after (AskInput k) cells = cells
cells_after (AskOutput k) cells = cells
cells_after (AskCell a) cells = cells
cells_after AskCam cells = cells
cells_after AskFault cells = cells
cells_after AskSuspended cells = cells
cells_after Wrong cells = cells

-- ---- with the memory

unfoldable pub named_cell : Command → Machine → Cell
named_cell k m = cell_at m.cells (named k m.state)

unfoldable pub machine_after : Command → Machine → Machine
machine_after k m = record { state = acted_at k m.state (named_cell k m); cells = cells_after k m.cells }
