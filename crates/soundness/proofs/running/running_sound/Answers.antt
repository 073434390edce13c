-- `running::running_sound` meets its contract: an idle drive, and a busy one with its cell.
-- Assumes nothing.
use mathlib.Core.Path.{◌≡◌, sym, ◌∙◌}
use mathlib.Core.Bool.{true}
use borrow.Author.Tests.{eq-eqb, ne_eqb}
use Rattle.laws.proofs.Tests.{choose-true, choose-false}
use Rattle.laws.proofs.Joins.{both_under}
use Rattle.instruction.specs.declared.Instruction.{Instruction}
use Rattle.machine.specs.Soundness.{is_cell, busy_sound, running_sound}
use Rattle.machine.specs.declared.Running.{Running}
use Rattle.soundness.proofs.running.running_sound.Goals as goal

-- the instruction matters only at a cell
busy-at : (r : Running) {i j : Instruction} → (is_cell r.cell ≡ true → j ≡ i) → busy_sound r i ≡ busy_sound r j
unfolding busy_sound
busy-at r h = both_under _ (λ t. rw (h t))

pub returns-then-running-eq0 : goal.returns-then-running-eq0
unfolding running_sound
returns-then-running-eq0 c = λ cells h. c.resting_sound.ensures ∙ sym (choose-true _ _ _ (eq-eqb _ _ c.if-running-eq0.true))

pub returns-else-running-eq0 : goal.returns-else-running-eq0
unfolding running_sound
returns-else-running-eq0 c = λ cells h. c.busy_sound.ensures ∙ busy-at _ h ∙ sym (choose-false _ _ _ (ne_eqb _ _ c.if-running-eq0.false))
