-- `records::gather_fault` meets its contract.
-- Assumes nothing.
use Rattle.lines.proofs.Pieces.{gathered-then}
use Rattle.records.specs.Records.{fault_text}
use Rattle.records.proofs.gather_fault.Goals as goal

pub returns : goal.returns
unfolding fault_text
returns c = gathered-then c.gather_field-a.ensures c.gather_field.ensures
