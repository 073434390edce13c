-- `along` meets its contract: by the check, by the range of the start, and by the walk.
-- Assumes nothing.
use mathlib.Core.Path.{sym, ◌∙◌}
use borrow.Author.Tests.{le-leb, lt-leb}
use Rattle.laws.proofs.Tests.{choose-true, choose-false, both_true, both_left}
use Rattle.laws.proofs.Joins.{both-false-left, both-false-right}
use Rattle.machine.specs.Soundness.{is_cell, sound}
use Rattle.totals.specs.Walk.{totals_in, totals_of}
use Rattle.totals.proofs.along.Goals as goal

pub returns-then-not-sound : goal.returns-then-not-sound
unfolding totals_of
returns-then-not-sound c = sym (choose-false _ _ _ (sym c.sound.ensures ∙ c.if-not-sound.true))

pub returns-then-start-lt-FIRST : goal.returns-then-start-lt-FIRST
unfolding totals_of totals_in is_cell
returns-then-start-lt-FIRST c =
    let s = sym c.sound.ensures ∙ c.if-not-sound.false in
    sym (choose-true _ _ _ s ∙ choose-false _ _ _ (both-false-left _ _ (lt-leb _ _ c.if-start-lt-FIRST.true)))

pub returns-then-start-gt-LAST : goal.returns-then-start-gt-LAST
unfolding totals_of totals_in is_cell
returns-then-start-gt-LAST c =
    let s = sym c.sound.ensures ∙ c.if-not-sound.false in
    sym (choose-true _ _ _ s ∙ choose-false _ _ _ (both-false-right _ _ (lt-leb _ _ c.if-start-gt-LAST.true)))

pub totals_in-requires-clause-cells_value : goal.totals_in-requires-clause-cells_value
unfolding sound
totals_in-requires-clause-cells_value c =
    let s = sym c.sound.ensures ∙ c.if-not-sound.false in
    both_left _ _ s

pub totals_in-requires-clause-start_value : goal.totals_in-requires-clause-start_value
unfolding is_cell
totals_in-requires-clause-start_value c = both_true (le-leb 100 _ c.if-start-lt-FIRST.false) (le-leb _ 230 c.if-start-gt-LAST.false)

pub returns : goal.returns
unfolding totals_of
returns c =
    let s = sym c.sound.ensures ∙ c.if-not-sound.false in
    c.totals_in.ensures ∙ sym (choose-true _ _ _ s)
