-- Measure: the value.
-- Assumes nothing.
use Rattle.observed.proofs.nets.+gather_wide.Given as goal

abbrev pub decreases-gather_wide : goal.decreases-gather_wide
decreases-gather_wide l = l.value
