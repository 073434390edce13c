-- `sound` meets its contract.
-- Invariant: every cell is sound where those passed are, as ok tells, and those left are. Assumes nothing.
use Rattle.soundness.proofs.Pass.{Passed}
use Rattle.soundness.proofs.sound.Given as goal

abbrev pub invariant-loop-cell : goal.invariant-loop-cell
invariant-loop-cell l = Passed l.cell-items l.cell-index l.ok
