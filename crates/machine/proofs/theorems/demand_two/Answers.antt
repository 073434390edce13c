-- `machine::theorems::demand_two` meets its contract: demand 2.
-- Assumes nothing.
use Rattle.machine.proofs.Demand2.{demand2}
use Rattle.machine.proofs.theorems.demand_two.Goals as goal

pub returns : goal.returns
returns c = demand2
