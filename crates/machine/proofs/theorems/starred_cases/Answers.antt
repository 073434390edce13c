-- `machine::theorems::starred_cases` meets its contract: the starred table.
-- Assumes nothing.
use Rattle.machine.proofs.Starred.{starred-hold}
use Rattle.machine.proofs.theorems.starred_cases.Goals as goal

pub returns : goal.returns
returns c = starred-hold
