-- `machine::theorems::demand_one` meets its contract: demand 1.
-- Assumes nothing.
use Rattle.machine.proofs.Demand1.{demand1}
use Rattle.machine.proofs.theorems.demand_one.Goals as goal

pub returns : goal.returns
returns c = demand1
