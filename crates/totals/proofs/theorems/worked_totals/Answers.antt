-- `worked_totals` meets its contract: the cases, computed.
-- Assumes nothing.
use Rattle.totals.proofs.TotalsCases.{cases-hold}
use Rattle.totals.proofs.theorems.worked_totals.Goals as goal

pub returns : goal.returns
returns c = cases-hold
