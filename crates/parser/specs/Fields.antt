-- 01, "Strings": what a string asks for, by the fields that belong to its code. The branches of `command_of`, as the code takes them.
-- Assumes nothing.
use Rattle.std.specs.Prelude.{ℕ, List, [], ◌∷◌, get_or}
use Rattle.fields.specs.Rows.{parse_fields}
use Rattle.fields.specs.declared.kinds.Kind.{Kind}
use Rattle.fields.specs.declared.kinds.Kind.TheVariants.{Name}
use Rattle.fields.specs.declared.names.Names.TheVariants.{Settable, Presets}
use Rattle.format.specs.Formats.{cell, bit}
use Rattle.instruction.specs.Numbers.{byte_of, is_one}
use Rattle.machine.specs.Commands.{fields_at, on_all, store_in, preset_in}
use Rattle.machine.specs.declared.commands.Command.{Command}
use Rattle.machine.specs.declared.commands.Command.TheVariants as command
use Rattle.parser.specs.declared.single.Single.{Single}
use Rattle.parser.specs.declared.single.Single.TheVariants.{Start, SetPosition, AskPreset, AskInput, AskOutput, AskCell}

-- 01: "`AAWN,BBB,CC,..,DDD`"
abbrev pub store_of : List ℕ → Command
store_of s = store_in s (parse_fields (cell ∷ []) s fields_at)

-- 01: "`AAWS,VV,value`"
abbrev pub preset_of : List ℕ → Command
preset_of s = preset_in s (parse_fields (Name Presets ∷ []) s fields_at)

-- 01: "`AASO,OO,V`"
abbrev pub output_of : List ℕ → Command
output_of s = on_all (Name Settable ∷ bit ∷ []) s (λ vs. command.SetOutput (byte_of (get_or vs 0 0)) (is_one (get_or vs 1 0)))

-- 01: "`AAEE`; `AAES`"; "QA"; "QC"; "QE"; "QR"
abbrev pub alone_of : Command → List ℕ → Command
alone_of c s = on_all [] s (λ vs. c)

-- 01: "`AAPS,BBB`"; "`AASA,nnn`"; "QS,VV; QI,name; QO,name"; "QM,BBB"
abbrev pub single_with : Single → ℕ → Command
single_with Start v = command.Start (record { 0 = byte_of v })
single_with SetPosition v = command.SetPosition v
single_with AskPreset v = command.AskPreset (byte_of v)
single_with AskInput v = command.AskInput (byte_of v)
single_with AskOutput v = command.AskOutput (byte_of v)
single_with AskCell v = command.AskCell (record { 0 = byte_of v })

abbrev pub single_of : Single → Kind → List ℕ → Command
single_of x k s = on_all (k ∷ []) s (λ vs. single_with x (get_or vs 0 0))
