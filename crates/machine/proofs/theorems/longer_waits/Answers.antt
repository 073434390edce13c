-- `machine::theorems::longer_waits` meets its contract: 02, Slip 6.
-- Assumes nothing.
use Rattle.machine.proofs.LongerWaits.{longer_waits}
use Rattle.machine.proofs.theorems.longer_waits.Goals as goal

pub returns : goal.returns
returns c = longer_waits
