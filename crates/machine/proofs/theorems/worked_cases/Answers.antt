-- `machine::theorems::worked_cases` meets its contract: the worked cases.
-- Assumes nothing.
use Rattle.machine.proofs.Worked.{worked-hold}
use Rattle.machine.proofs.theorems.worked_cases.Goals as goal

pub returns : goal.returns
returns c = worked-hold
