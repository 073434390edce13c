-- 01, "Strings": the bytes that answer. "Requests repeat themselves with the value after".
-- Assumes nothing.
use Rattle.std.specs.Prelude.{ℕ, List, [], ◌∷◌, ◌++◌, eqb, ltb}
use Prim.Native.String.{String}
use Rattle.laws.specs.Tests.{choose}
use Rattle.laws.specs.Text.{bytes}
use Rattle.decimal.specs.Printing.{digits}
use Rattle.fields.specs.Rows.{print_fields}
use Rattle.fields.specs.declared.kinds.Kind.TheVariants.{Fixed, Count, Name}
use Rattle.fields.specs.declared.names.Names.TheVariants.{Outputs, Inputs, Presets}
use Rattle.units.specs.Limits.{loop_limit}
use Rattle.units.specs.Bits.{bits_of}
use Rattle.units.specs.declared.CellAddress.{CellAddress}
use Rattle.format.specs.Formats.{cell, bit}
use Rattle.instruction.specs.Numbers.{bit_of}
use Rattle.instruction.specs.Texts.{cell_text}
use Rattle.instruction.specs.declared.Cell.{Cell}
use Rattle.machine.specs.Record.{input_at, output_at}
use Rattle.machine.specs.Commands.{any_signed, preset_kind}
use Rattle.machine.specs.declared.Resolution.{Resolution}
use Rattle.machine.specs.declared.Resolution.TheVariants.{D0, D1, D2, D3, B0, B1, B2, B3}
use Rattle.machine.specs.declared.Remaining.{Remaining}
use Rattle.machine.specs.declared.Remaining.TheVariants.{Nothing, Counted, Timed}
use Rattle.machine.specs.declared.Presets.{Presets as PresetValues}
use Rattle.machine.specs.declared.Cam.{Cam}
use Rattle.machine.specs.declared.Suspended.{Suspended}
use Rattle.machine.specs.declared.State.{State}
use Rattle.machine.specs.declared.commands.StringAddress.{StringAddress}
use Rattle.machine.specs.declared.commands.Command.{Command}
use Rattle.machine.specs.declared.commands.Command.TheVariants.{Store, SetPreset, Start, EmergencyStop, FreeRunStop, SetPosition, SetOutput, SetCam, AskPosition, AskPreset, AskInput, AskOutput, AskCell, AskCam, AskFault, AskSuspended, Wrong}

-- the place of a value of RS in its list
abbrev pub resolution_place : Resolution → ℕ
resolution_place D0 = 0
resolution_place D1 = 1
resolution_place D2 = 2
resolution_place D3 = 3
resolution_place B0 = 4
resolution_place B1 = 5
resolution_place B2 = 6
resolution_place B3 = 7

-- the value of a preset by its place in AD, IN, RS, ES, CM
unfoldable pub preset_value : ℕ → PresetValues → ℕ
preset_value k p =
    choose (eqb k 0) p.address.0
    (choose (eqb k 1) p.current
    (choose (eqb k 2) (resolution_place p.resolution)
    (choose (eqb k 3) (bit_of p.interlock) (bit_of p.absolute))))

-- 01: "QS,VV"
unfoldable pub preset_text : ℕ → State → List ℕ
preset_text k s = print_fields (Name Presets ∷ preset_kind k ∷ []) (k ∷ preset_value k s.presets ∷ [])

-- 01: "QA `±nnn`"
unfoldable pub position_text : State → List ℕ
position_text s = print_fields (any_signed ∷ []) (s.position.0 ∷ [])

-- 01: "QI,name"
unfoldable pub input_text : ℕ → State → List ℕ
input_text k s = print_fields (Name Inputs ∷ bit ∷ []) (k ∷ bit_of (input_at s k) ∷ [])

-- 01: "QO,name (also BS 0 and FA 1)": O0 to O3, FC, F0 to F7, CU, then BS and FA
unfoldable pub output_value : ℕ → State → ℕ
output_value k s = choose (ltb k 14) (bit_of (output_at s k)) (choose (eqb k 14) 0 1)

unfoldable pub output_text : ℕ → State → List ℕ
output_text k s = print_fields (Name Outputs ∷ bit ∷ []) (k ∷ output_value k s ∷ [])

-- 01: "QM,BBB as WN stored it"
unfoldable pub memory_text : CellAddress → Cell → List ℕ
memory_text a c = print_fields (cell ∷ []) (a.0 ∷ []) ++ cell_text c

-- 01: "QC `1,±nnn` or `0`"
unfoldable pub cam_text : Cam → List ℕ
cam_text c =
    choose c.set (print_fields (bit ∷ any_signed ∷ []) (1 ∷ c.position.0 ∷ [])) (print_fields (bit ∷ []) (0 ∷ []))

-- 01: "QE code (2 digits), cell (3)"
unfoldable pub fault_text : State → List ℕ
fault_text s = print_fields (Fixed 2 0 99 ∷ Fixed 3 0 999 ∷ []) (s.fault.code ∷ s.fault.cell.0 ∷ [])

-- a rest as a signed number of 32 bits
unfoldable pub remaining_bits : Remaining → ℕ
remaining_bits Nothing = 0
remaining_bits (Counted n) = bits_of n
remaining_bits (Timed n) = n.0

-- 01: "QR: `000`, or cell, `±nnn` rest, nnn loop count"
unfoldable pub suspended_text : Suspended → List ℕ
suspended_text r =
    choose (eqb r.cell.0 0) (print_fields (Fixed 3 0 999 ∷ []) (0 ∷ []))
    (print_fields (cell ∷ any_signed ∷ Count 0 loop_limit ∷ []) (r.cell.0 ∷ remaining_bits r.remaining ∷ r.loops ∷ []))

-- an answer: the address in the string, the code, the fields, and byte 13
unfoldable pub answer_of : StringAddress → String → List ℕ → List ℕ
answer_of aa code fields = digits 2 aa.0 ++ (bytes code ++ (fields ++ (13 ∷ [])))

-- 01: "Commands, answered `AAY`"
unfoldable pub accepted : StringAddress → List ℕ
accepted aa = answer_of aa "Y" []

-- 01: "`AAN`"
unfoldable pub rejected : StringAddress → List ℕ
rejected aa = answer_of aa "N" []

-- 01: "Commands, answered `AAY`"; "Requests repeat themselves with the value after"; given the cell that the command names
unfoldable pub answer_at : Command → StringAddress → State → Cell → List ℕ
answer_at (Store a d) aa s c = accepted aa
answer_at (SetPreset v) aa s c = accepted aa
answer_at (Start a) aa s c = accepted aa
answer_at EmergencyStop aa s c = accepted aa
answer_at FreeRunStop aa s c = accepted aa
answer_at (SetPosition b) aa s c = accepted aa
answer_at (SetOutput o v) aa s c = accepted aa
answer_at (SetCam v b) aa s c = accepted aa
answer_at AskPosition aa s c = answer_of aa "QA" (position_text s)
answer_at (AskPreset k) aa s c = answer_of aa "QS" (preset_text k s)
answer_at (AskInput k) aa s c = answer_of aa "QI" (input_text k s)
answer_at (AskOutput k) aa s c = answer_of aa "QO" (output_text k s)
answer_at (AskCell a) aa s c = answer_of aa "QM" (memory_text a c)
answer_at AskCam aa s c = answer_of aa "QC" (cam_text s.cam)
answer_at AskFault aa s c = answer_of aa "QE" (fault_text s)
answer_at AskSuspended aa s c = answer_of aa "QR" (suspended_text s.suspended)
answer_at Wrong aa s c = rejected aa
