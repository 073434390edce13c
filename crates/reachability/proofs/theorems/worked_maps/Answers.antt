-- `reachability::theorems::worked_maps` meets its contract: the cases hold.
-- Assumes nothing.
use Rattle.reachability.proofs.MapCases.{cases-hold}
use Rattle.reachability.proofs.theorems.worked_maps.Goals as goal

pub returns : goal.returns
returns c = cases-hold
