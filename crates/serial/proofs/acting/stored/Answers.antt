-- `stored` meets its contract: the tests on the record's cell and on the content pick the same case.
-- Assumes nothing.
use mathlib.Core.Path.{sym, ◌∙◌}
use borrow.Author.Tests.{eq-eqb, ne_eqb}
use Rattle.laws.specs.Tests.{choose, either}
use Rattle.machine.specs.Acting.{keeps_suspended, stored_state}
use Rattle.serial.proofs.acting.stored.Goals as goal

pub returns-then-at-state : goal.returns-then-at-state
unfolding stored_state keeps_suspended choose either
returns-then-at-state c = simp (ne_eqb _ _ c.if-at-state.true)

pub returns-then-same_content : goal.returns-then-same_content
unfolding stored_state keeps_suspended choose either
returns-then-same_content c = simp (eq-eqb _ _ c.if-at-state.false, sym c.same_content.ensures ∙ c.if-same_content.true)

pub returns : goal.returns
unfolding stored_state keeps_suspended choose either
returns c = simp (
  eq-eqb _ _ c.if-at-state.false,
  sym c.same_content.ensures ∙ c.if-same_content.false,
  c.emptied.ensures,
)
