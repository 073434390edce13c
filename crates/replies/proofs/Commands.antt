-- What answering a command asks, taken apart, and the answer to a command that is known.
-- Assumes nothing.
use Prim.Native.Nat.{ℕ, ◌<◌}
use mathlib.Core.Path.{◌≡◌, ap, sym, ◌∙◌}
use mathlib.Core.Bool.{true}
use mathlib.Core.List.{List}
use borrow.Author.Tests.{ltb-true}
use Rattle.laws.specs.Writing.{Put}
use Rattle.laws.proofs.Writing.{put_as}
use Rattle.fields.specs.Kinds.{valid}
use Rattle.fields.specs.declared.kinds.Kind.TheVariants.{Next}
use Rattle.units.specs.declared.CellAddress.{CellAddress}
use Rattle.instruction.specs.Soundness.{cell_sound}
use Rattle.instruction.specs.declared.Cell.{Cell}
use Rattle.machine.specs.Soundness.{presets_sound, is_cell, fault_sound}
use Rattle.machine.specs.Commands.{placed}
use Rattle.machine.specs.Answers.{answer_at}
use Rattle.machine.specs.declared.State.{State}
use Rattle.machine.specs.declared.commands.Command.{Command}
use Rattle.machine.specs.declared.commands.Command.TheVariants.{AskPreset, AskInput, AskOutput, AskCell}
use Rattle.machine.specs.declared.commands.StringAddress.{StringAddress}
use Rattle.replies.specs.Pieces.{Answerable, Ready}

pub command-ready : {aa : StringAddress} {command : Command} {s : State} {c : Cell} {l : List ℕ} → Answerable aa command s c l → Ready aa l
command-ready h = record { address = h.address; room = h.room }

pub preset-asked : {aa : StringAddress} {command : Command} {s : State} {c : Cell} {l : List ℕ} (k : ℕ) → Answerable aa command s c l →
    command ≡ AskPreset k → Ready aa l × ((k < 5) × (presets_sound s.presets ≡ true))
unfolding placed
preset-asked k h e = (command-ready h, (ltb-true k 5 (ap placed (sym e) ∙ h.names), h.presets))

pub input-asked : {aa : StringAddress} {command : Command} {s : State} {c : Cell} {l : List ℕ} (k : ℕ) → Answerable aa command s c l →
    command ≡ AskInput k → Ready aa l × (k < 11)
unfolding placed
input-asked k h e = (command-ready h, ltb-true k 11 (ap placed (sym e) ∙ h.names))

pub output-asked : {aa : StringAddress} {command : Command} {s : State} {c : Cell} {l : List ℕ} (k : ℕ) → Answerable aa command s c l →
    command ≡ AskOutput k → Ready aa l × (k < 16)
unfolding placed
output-asked k h e = (command-ready h, ltb-true k 16 (ap placed (sym e) ∙ h.names))

pub cell-asked : {aa : StringAddress} {command : Command} {s : State} {c : Cell} {l : List ℕ} (a : CellAddress) → Answerable aa command s c l →
    command ≡ AskCell a → Ready aa l × ((is_cell a ≡ true) × (cell_sound c ≡ true))
unfolding placed
cell-asked a h e = (command-ready h, (ap placed (sym e) ∙ h.names, h.cell))

pub fault-asked : {aa : StringAddress} {command : Command} {s : State} {c : Cell} {l : List ℕ} → Answerable aa command s c l →
    Ready aa l × (fault_sound s.fault ≡ true)
fault-asked h = (command-ready h, h.fault)

pub suspended-asked : {aa : StringAddress} {command : Command} {s : State} {c : Cell} {l : List ℕ} → Answerable aa command s c l →
    Ready aa l × (valid Next s.suspended.cell.0 ≡ true)
suspended-asked h = (command-ready h, h.suspended)

-- an answer to the command that this one is
pub put-told : {l l' : List ℕ} {e : ℕ} {p q : Command} (aa : StringAddress) (s : State) (c : Cell) → p ≡ q → Put l l' (answer_at q aa s c) 0 e →
    Put l l' (answer_at p aa s c) 0 e
put-told aa s c h x = put_as (ap (λ (y : Command). answer_at y aa s c) (sym h)) x
