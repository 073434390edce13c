-- `lines::gathering::gather` meets its contract: what the copy leaves is the line's own bytes, the piece's, and the line's after them.
-- Assumes nothing.
use Rattle.lines.proofs.Fronts.{gather-copied}
use Rattle.lines.proofs.gathering.gather.Goals as goal

pub returns : goal.returns
returns c = gather-copied _ _ _ _ _ _ c.min-held.ensures c.min-more.ensures c.copy.ensures
