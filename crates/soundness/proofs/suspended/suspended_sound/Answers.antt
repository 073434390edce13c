-- `suspended::suspended_sound` meets its contract: an empty record, and one with its cell.
-- Assumes nothing.
use mathlib.Core.Path.{refl, sym, ap, ◌∙◌}
use mir.Syntax.{w16}
use mir.Val.{Fits}
use borrow.Author.Rules.{rules}
use borrow.Author.Tests.{eq-eqb, ne_eqb}
use Rattle.laws.proofs.Tests.{choose-true, choose-false}
use Rattle.laws.proofs.Joins.{and-as, both_under}
use Rattle.machine.specs.Soundness.{suspended_remaining, suspended_sound}
use Rattle.soundness.proofs.Comparisons.{loops_pass}
use Rattle.soundness.proofs.suspended.suspended_sound.Goals as goal

pub returns-then-suspended-eq0 : goal.returns-then-suspended-eq0
unfolding suspended_sound
returns-then-suspended-eq0 c =
    λ cells h.
    and-as c.is_nothing.ensures refl ∙ sym (choose-true _ _ _ (eq-eqb _ _ c.if-suspended-eq0.true))

pub returns-else-suspended-eq0 : goal.returns-else-suspended-eq0
unfolding suspended_sound
returns-else-suspended-eq0 c =
    let s = c.args.suspended in
    let f : Fits w16 s.loops = search rules in
    λ cells h.
    and-as c.is_cell.ensures c.suspended_remaining.ensures
    ∙ both_under _ (λ t. ap (suspended_remaining s.remaining) (sym (h t)) ∙ sym (loops_pass _ f))
    ∙ sym (choose-false _ _ _ (ne_eqb _ _ c.if-suspended-eq0.false))
