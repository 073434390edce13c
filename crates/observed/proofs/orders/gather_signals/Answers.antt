-- `observed::orders::gather_signals` meets its contract.
-- Assumes nothing.
use Rattle.lines.proofs.Pieces.{gathered-then}
use Rattle.observed.specs.Orders.{signals_text}
use Rattle.observed.proofs.orders.gather_signals.Goals as goal

pub returns : goal.returns
unfolding signals_text
returns c = gathered-then c.gather_number-a.ensures
    (gathered-then c.gather_flag-b.ensures c.gather_flag.ensures)
