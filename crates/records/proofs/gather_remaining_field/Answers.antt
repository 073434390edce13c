-- `records::gather_remaining_field` meets its contract.
-- Assumes nothing.
use Rattle.laws.specs.Text.{bytes}
use Rattle.lines.proofs.Pieces.{gathered-then}
use Rattle.records.specs.Records.{remaining_field}
use Rattle.records.proofs.gather_remaining_field.Goals as goal

pub returns : goal.returns
unfolding remaining_field bytes
returns c = gathered-then c.gather_remaining-a.ensures c.gather.ensures
