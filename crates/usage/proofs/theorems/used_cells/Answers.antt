-- `usage::theorems::used_cells` meets its contract: the map stays right.
-- Assumes nothing.
use Rattle.usage.proofs.UsedCells.{used-cells}
use Rattle.usage.proofs.theorems.used_cells.Goals as goal

pub returns : goal.returns
returns c = used-cells
