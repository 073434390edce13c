-- `observed::outputs::gather_outputs` meets its contract.
-- Assumes nothing.
use Rattle.lines.proofs.Pieces.{gathered-then}
use Rattle.observed.specs.Outputs.{outputs_text}
use Rattle.observed.proofs.outputs.gather_outputs.Goals as goal

pub returns : goal.returns
unfolding outputs_text
returns c = gathered-then c.gather_bits-a.ensures
    (gathered-then c.gather_bits-b.ensures
    (gathered-then c.gather_bits-c.ensures
    c.gather_bits.ensures))
