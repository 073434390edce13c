-- What a command does and answers, by the cell that was read for it.
-- Assumes nothing.
use Prim.Native.Nat.{◌≤◌}
use mathlib.Core.Path.{◌≡◌, ap, ◌∙◌}
use lib.ListN.{length}
use Rattle.instruction.specs.declared.Cell.{Cell}
use Rattle.machine.specs.Acting.{acted_at, cells_after, named_cell, machine_after}
use Rattle.machine.specs.Answers.{answer_at}
use Rattle.machine.specs.Strings.{carried_out}
use Rattle.machine.specs.declared.Machine.{Machine}
use Rattle.machine.specs.declared.State.{State}
use Rattle.machine.specs.declared.commands.StringAddress.{StringAddress}
use Rattle.machine.specs.declared.commands.Command.{Command}
use Rattle.replies.proofs.Lengths.{answer-short}

-- a state, with the memory after a command
abbrev machine_with : Command → Machine → State → Machine
machine_with k m s = record { state = s; cells = cells_after k m.cells }

module _ (k : Command) (aa : StringAddress) (m : Machine) where
  pub machine-by : {c : Cell} {s : State} {r : Machine} → c ≡ named_cell k m → s ≡ acted_at k m.state c →
      r ≡ machine_with k m s → r ≡ (carried_out k aa m).machine
  unfolding carried_out machine_after
  machine-by e f g = g ∙ ap (machine_with k m) (f ∙ ap (acted_at k m.state) e)

  pub answer-by : {c : Cell} → c ≡ named_cell k m → answer_at k aa m.state c ≡ (carried_out k aa m).answer
  unfolding carried_out
  answer-by e = ap (answer_at k aa m.state) e

  -- an answer has room in 64 bytes
  pub answer-fits : length (carried_out k aa m).answer ≤ 64
  unfolding carried_out
  answer-fits = answer-short aa k m.state (named_cell k m)
