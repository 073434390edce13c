-- `records::gather_suspended` meets its contract.
-- Assumes nothing.
use Rattle.lines.proofs.Pieces.{gathered-then}
use Rattle.records.specs.Records.{suspended_text}
use Rattle.records.proofs.gather_suspended.Goals as goal

pub returns : goal.returns
unfolding suspended_text
returns c = gathered-then c.gather_field-a.ensures (gathered-then c.gather_remaining_field-b.ensures c.gather_field.ensures)
