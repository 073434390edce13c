-- `milliseconds::millisecond` meets its contract: an idle drive, a change, and a cell that changes more.
-- Assumes nothing.
use mathlib.Core.Path.{sym, ◌∙◌}
use Rattle.laws.proofs.Tests.{choose-true}
use Rattle.machine.specs.Milliseconds.{millisecond_at}
use Rattle.changes.proofs.Changing.{place-within, millisecond-changed, more-waiting, millisecond-more}
use Rattle.execution.proofs.milliseconds.millisecond.Goals as goal

pub returns-then-idle : goal.returns-then-idle
unfolding millisecond_at
returns-then-idle c = sym (choose-true _ _ _ (sym c.idle.ensures ∙ c.if-idle.true))

pub returns-then-is_more : goal.returns-then-is_more
returns-then-is_more c =
    let a = c in
    let i = sym c.idle.ensures ∙ c.if-idle.false in
    let m = sym c.is_more.ensures ∙ c.if-is_more.true in
    let w = more-waiting a.args.state a.args.cell c.next_change-change.ensures m in
    c.take_cell.ensures ∙ millisecond-more a.args.state a.args.cell a.args.held i w

pub changed-requires : goal.changed-requires
changed-requires c =
    let a = c in
    place-within a.args.state a.args.cell c.next_change-change.ensures a.requires.0

pub returns-else-is_more : goal.returns-else-is_more
returns-else-is_more c =
    let a = c in
    let i = sym c.idle.ensures ∙ c.if-idle.false in
    let m = sym c.is_more.ensures ∙ c.if-is_more.false in
    c.changed.ensures ∙ millisecond-changed a.args.state a.args.cell c.next_change-change.ensures a.args.held i m
