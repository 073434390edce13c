-- `totals_in` meets its contract: the walk from the start on, with no cell met.
-- Assumes nothing.
use Rattle.std.proofs.Common.{sym, ◌∙◌}
use Rattle.laws.proofs.Tests.{choose-true}
use Rattle.machine.proofs.Cells.{cell-next}
use Rattle.totals.specs.Walk.{totals_in}
use Rattle.totals.proofs.Fitting.{room-first}
use Rattle.totals.proofs.walk.totals_in.Goals as goal

pub follow-requires-clause-linked : goal.follow-requires-clause-linked
follow-requires-clause-linked c = cell-next c.args.start c.requires.start_value

pub follow-requires-clause-room : goal.follow-requires-clause-room
follow-requires-clause-room c = room-first

pub returns-in-Whole : goal.returns-in-Whole
unfolding totals_in
returns-in-Whole c = c.in-Whole.ensures.sums_after ∙ sym (choose-true _ _ _ c.requires.start_value)

pub returns-in-MetTwice : goal.returns-in-MetTwice
unfolding totals_in
returns-in-MetTwice c = c.in-MetTwice.ensures.sums_after ∙ sym (choose-true _ _ _ c.requires.start_value)

pub returns-in-OtherCode : goal.returns-in-OtherCode
unfolding totals_in
returns-in-OtherCode c = c.in-OtherCode.ensures.sums_after ∙ sym (choose-true _ _ _ c.requires.start_value)
