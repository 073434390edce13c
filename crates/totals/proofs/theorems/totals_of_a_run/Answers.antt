-- `totals::theorems::totals_of_a_run` meets its contract: a run makes the totals.
-- Assumes nothing.
use Rattle.totals.proofs.Following.{figures}
use Rattle.totals.proofs.theorems.totals_of_a_run.Goals as goal

pub returns : goal.returns
returns c = figures
