-- `theorems::travelling` meets its contract: every travel gives the least number of steps.
-- Assumes nothing.
use Rattle.travel.proofs.Runs.{every-least}
use Rattle.travel.proofs.theorems.travelling.Goals as goal

pub returns : goal.returns
returns c = every-least
