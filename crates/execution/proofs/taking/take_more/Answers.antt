-- `taking::take_more` meets its contract: what is no 69 is a run.
-- Assumes nothing.
use mathlib.Core.Path.{◌∙◌}
use Rattle.changes.proofs.Changing.{more-runs}
use Rattle.execution.proofs.taking.take_more.Goals as goal

pub returns-in_default : goal.returns-in_default
returns-in_default c = c.take_run_of.ensures ∙ more-runs _ _ _ c.requires.1 c.in_default.not-Recovery
