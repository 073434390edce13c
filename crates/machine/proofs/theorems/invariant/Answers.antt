-- `machine::theorems::invariant` meets its contract: the invariant.
-- Assumes nothing.
use Rattle.machine.proofs.Invariant.{invariant}
use Rattle.machine.proofs.theorems.invariant.Goals as goal

pub returns : goal.returns
returns c = invariant
