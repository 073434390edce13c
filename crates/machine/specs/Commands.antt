-- 01, "Strings": what a string asks for. The string stands here without its byte 13; its code is bytes 3 and 4, its fields follow.
-- Assumes nothing.
use Rattle.std.specs.Prelude.{ℕ, ◌^◌, ◌-◌, Bool, true, false, List, [], ◌∷◌, get_or, drop, eqb, ltb, Option, Some, None, is_some}
use Prim.Native.String.{String}
use Rattle.laws.specs.Tests.{choose, both}
use Rattle.laws.specs.Text.{bytes}
use Rattle.fields.specs.Names.{pair_of}
use Rattle.fields.specs.Rows.{parse_fields, parse_all}
use Rattle.fields.specs.declared.kinds.Kind.{Kind}
use Rattle.fields.specs.declared.kinds.Kind.TheVariants.{Fixed, Count, Signed, Optional, Name}
use Rattle.fields.specs.declared.names.Names.TheVariants.{Settable, Outputs, Inputs, Presets, Resolutions}
use Rattle.fields.specs.declared.rows.Parsed.{Parsed}
use Rattle.format.specs.Formats.{cell, bit}
use Rattle.instruction.specs.Soundness.{cell_sound}
use Rattle.instruction.specs.Numbers.{byte_of, is_one}
use Rattle.instruction.specs.Texts.{sent_cell}
use Rattle.instruction.specs.declared.Cell.{Cell}
use Rattle.units.specs.declared.CellAddress.{CellAddress}
use Rattle.machine.specs.Soundness.{is_cell}
use Rattle.machine.specs.declared.Resolution.{Resolution}
use Rattle.machine.specs.declared.Resolution.TheVariants.{D0, D1, D2, D3, B0, B1, B2, B3}
use Rattle.machine.specs.declared.commands.PresetValue.{PresetValue}
use Rattle.machine.specs.declared.commands.PresetValue.TheVariants as preset
use Rattle.machine.specs.declared.commands.Command.{Command}
use Rattle.machine.specs.declared.commands.Command.TheVariants.{Store, SetPreset, Start, EmergencyStop, FreeRunStop, SetPosition, SetOutput, SetCam, AskPosition, AskPreset, AskInput, AskOutput, AskCell, AskCam, AskFault, AskSuspended, Wrong}

-- 01: "(both numbers 32 bits signed)"
abbrev pub any_signed : Kind
any_signed = Signed (2 ^ 31) (2 ^ 31 - 1)

-- the fields begin after the address and the code
abbrev pub fields_at : ℕ
fields_at = 4

-- bytes 3 and 4, as one number
unfoldable pub code_in : List ℕ → ℕ
code_in s = pair_of (drop 2 s)

unfoldable pub is_code : String → ℕ → Bool
is_code letters code = eqb code (pair_of (bytes letters))

-- where all fields are right, what they and what follows them say
unfoldable pub on_parsed : Option Parsed → (Parsed → Command) → Command
on_parsed (Some p) f = f p
on_parsed None f = Wrong

-- where all fields are right, what they say
unfoldable pub on_fields : Option Parsed → (List ℕ → Command) → Command
on_fields x f = on_parsed x (λ p. f p.values)

unfoldable pub on_all : List Kind → List ℕ → (List ℕ → Command) → Command
on_all ks s f = on_fields (parse_all ks s fields_at) f

abbrev pub address_of : List ℕ → CellAddress
address_of vs = record { 0 = byte_of (get_or vs 0 0) }

unfoldable pub on_sent : CellAddress → Option Cell → Command
on_sent a (Some c) = Store a c
on_sent a None = Wrong

-- 01: "`AAWN,BBB,CC,..,DDD`"
unfoldable pub store_in : List ℕ → Option Parsed → Command
store_in s x = on_parsed x (λ p. on_sent (address_of p.values) (sent_cell s p.at))

-- 01: "(AD, IN, ES, CM as nnn)", with their ranges, and RS by name
unfoldable pub preset_kind : ℕ → Kind
preset_kind k =
    choose (eqb k 0) (Count 0 47)
    (choose (eqb k 1) (Count 0 3)
    (choose (eqb k 2) (Name Resolutions) (Count 0 1)))

unfoldable pub resolution_at : ℕ → Resolution
resolution_at k =
    choose (eqb k 0) D0
    (choose (eqb k 1) D1
    (choose (eqb k 2) D2
    (choose (eqb k 3) D3
    (choose (eqb k 4) B0
    (choose (eqb k 5) B1
    (choose (eqb k 6) B2 B3))))))

-- the preset at a place of AD, IN, RS, ES, CM, with a value of its kind
unfoldable pub preset_with : ℕ → ℕ → PresetValue
preset_with k v =
    choose (eqb k 0) (preset.Address (record { 0 = byte_of v }))
    (choose (eqb k 1) (preset.Current (byte_of v))
    (choose (eqb k 2) (preset.Resolution (resolution_at v))
    (choose (eqb k 3) (preset.Interlock (is_one v)) (preset.Absolute (is_one v)))))

-- 01: "`AAWS,VV,value`"
unfoldable pub preset_in : List ℕ → Option Parsed → Command
preset_in s x =
    on_parsed x (λ p.
    on_fields (parse_all (preset_kind (get_or p.values 0 0) ∷ []) s p.at) (λ vs.
    SetPreset (preset_with (get_or p.values 0 0) (get_or vs 0 0))))

-- 01: "`AASC,V,±nnn`, where `AASC,0` may end there"; an unset cam has position 0
unfoldable pub cam_with : Bool → ℕ → Command
cam_with set b = SetCam set (choose set b 0)

unfoldable pub cam_in : List ℕ → Command
cam_in s =
    choose (is_some (parse_all (Fixed 1 0 0 ∷ []) s fields_at)) (SetCam false 0)
    (on_all (bit ∷ any_signed ∷ []) s (λ vs. cam_with (is_one (get_or vs 0 0)) (get_or vs 1 0)))

-- 01: "Commands .." and "Requests ..", by the code
unfoldable pub command_by : ℕ → List ℕ → Command
command_by code s =
    choose (is_code "WN" code) (store_in s (parse_fields (cell ∷ []) s fields_at))
    (choose (is_code "WS" code) (preset_in s (parse_fields (Name Presets ∷ []) s fields_at))
    (choose (is_code "PS" code) (on_all (cell ∷ []) s (λ vs. Start (address_of vs)))
    (choose (is_code "EE" code) (on_all [] s (λ vs. EmergencyStop))
    (choose (is_code "ES" code) (on_all [] s (λ vs. FreeRunStop))
    (choose (is_code "SA" code) (on_all (Optional (2 ^ 31) (2 ^ 31 - 1) ∷ []) s (λ vs. SetPosition (get_or vs 0 0)))
    (choose (is_code "SO" code) (on_all (Name Settable ∷ bit ∷ []) s (λ vs. SetOutput (byte_of (get_or vs 0 0)) (is_one (get_or vs 1 0))))
    (choose (is_code "SC" code) (cam_in s)
    (choose (is_code "QA" code) (on_all [] s (λ vs. AskPosition))
    (choose (is_code "QS" code) (on_all (Name Presets ∷ []) s (λ vs. AskPreset (byte_of (get_or vs 0 0))))
    (choose (is_code "QI" code) (on_all (Name Inputs ∷ []) s (λ vs. AskInput (byte_of (get_or vs 0 0))))
    (choose (is_code "QO" code) (on_all (Name Outputs ∷ []) s (λ vs. AskOutput (byte_of (get_or vs 0 0))))
    (choose (is_code "QM" code) (on_all (cell ∷ []) s (λ vs. AskCell (address_of vs)))
    (choose (is_code "QC" code) (on_all [] s (λ vs. AskCam))
    (choose (is_code "QE" code) (on_all [] s (λ vs. AskFault))
    (choose (is_code "QR" code) (on_all [] s (λ vs. AskSuspended)) Wrong)))))))))))))))

unfoldable pub command_of : List ℕ → Command
command_of s = command_by (code_in s) s

-- the names and cells of a command have a place in their lists, and a stored cell is sound: what a string says is never anything else
unfoldable pub placed : Command → Bool
placed (Store a c) = both (is_cell a) (cell_sound c)
placed (SetPreset v) = true
placed (Start a) = is_cell a
placed EmergencyStop = true
placed FreeRunStop = true
placed (SetPosition b) = true
placed (SetOutput o v) = ltb o 13
placed (SetCam v b) = true
placed AskPosition = true
placed (AskPreset k) = ltb k 5
placed (AskInput k) = ltb k 11
placed (AskOutput k) = ltb k 16
placed (AskCell a) = is_cell a
placed AskCam = true
placed AskFault = true
placed AskSuspended = true
placed Wrong = true
