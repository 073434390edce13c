-- `observed::orders::gather_order` meets its contract.
-- Assumes nothing.
use Rattle.std.proofs.Common.{ap}
use Rattle.laws.specs.Text.{bytes}
use Rattle.lines.proofs.Pieces.{gathered-then}
use Rattle.observed.specs.Orders.{order_text}
use Rattle.observed.proofs.Texts.{gathered-as}
use Rattle.observed.proofs.orders.gather_order.Goals as goal

pub returns-in-Stand : goal.returns-in-Stand
unfolding order_text bytes
returns-in-Stand c = gathered-as (ap order_text c.in-Stand.is)
    (gathered-then c.gather-next.ensures
    c.gather_signals.ensures)

pub returns-in-Slow : goal.returns-in-Slow
unfolding order_text bytes
returns-in-Slow c = gathered-as (ap order_text c.in-Slow.is)
    (gathered-then c.gather-next-in-Slow.ensures
    c.gather_signals-in-Slow.ensures)

pub returns-in-Run : goal.returns-in-Run
unfolding order_text
returns-in-Run c = gathered-as (ap order_text c.in-Run.is)
    (gathered-then c.gather_run-next.ensures
    c.gather_signals-in-Run.ensures)
