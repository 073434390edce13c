-- Measure: the cells not yet met.
-- Assumes nothing.
use Rattle.cellmap.specs.Marks.{unmarked}
use Rattle.totals.proofs.walk.+follow.Given as goal

abbrev pub decreases-follow : goal.decreases-follow
decreases-follow l = unmarked l.met.now
