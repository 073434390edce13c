-- `travel` meets its contract: none is given where no run is under way, else those that `run_on` gives.
-- Assumes nothing.
use Rattle.std.proofs.Common.{sym, ◌∙◌}
use Rattle.travel.proofs.Turns.{none-handed}
use Rattle.travel.proofs.travel.Goals as goal

pub returns-then-not-moving : goal.returns-then-not-moving
returns-then-not-moving c = none-handed _ _ _ (sym c.moving.ensures ∙ c.if-not-moving.true)
