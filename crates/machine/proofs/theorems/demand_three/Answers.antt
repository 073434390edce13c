-- `machine::theorems::demand_three` meets its contract: demand 3.
-- Assumes nothing.
use Rattle.machine.proofs.Demand.{demand3}
use Rattle.machine.proofs.theorems.demand_three.Goals as goal

pub returns : goal.returns
returns c = demand3
