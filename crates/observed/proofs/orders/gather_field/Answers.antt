-- `observed::orders::gather_field` meets its contract.
-- Assumes nothing.
use Rattle.laws.specs.Text.{bytes}
use Rattle.lines.proofs.Pieces.{gathered-then}
use Rattle.observed.specs.Orders.{field_text}
use Rattle.observed.proofs.orders.gather_field.Goals as goal

pub returns : goal.returns
unfolding field_text bytes
returns c = gathered-then c.gather_number-a.ensures c.gather.ensures
