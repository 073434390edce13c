-- `records::gather_signed_field` meets its contract.
-- Assumes nothing.
use Rattle.laws.specs.Text.{bytes}
use Rattle.lines.proofs.Pieces.{gathered-then}
use Rattle.records.specs.Records.{signed_field}
use Rattle.records.proofs.gather_signed_field.Goals as goal

pub returns : goal.returns
unfolding signed_field bytes
returns c = gathered-then c.gather_signed-a.ensures c.gather.ensures
