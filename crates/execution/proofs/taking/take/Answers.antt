-- `taking::take` meets its contract: the change that the cell makes, or a run begun.
-- Assumes nothing.
use mathlib.Core.Path.{sym, ◌∙◌}
use Rattle.changes.proofs.Changing.{taken-within, taken-changed}
use Rattle.execution.proofs.taking.take.Goals as goal

pub changed-requires : goal.changed-requires
changed-requires c =
    taken-within c.args.state c.args.cell c.taken_change-change.ensures c.requires

pub returns-else-is_more : goal.returns-else-is_more
returns-else-is_more c =
    let t = sym c.is_more.ensures ∙ c.if-is_more.false in
    c.changed.ensures ∙ taken-changed c.args.state c.args.cell c.taken_change-change.ensures t
