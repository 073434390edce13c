-- `observed::orders::gather_run` meets its contract.
-- Assumes nothing.
use Rattle.std.proofs.Common.{sym, ap}
use Rattle.laws.specs.Text.{bytes}
use Rattle.decimal.specs.Printing.{signed}
use Rattle.lines.proofs.Pieces.{gathered-then}
use Rattle.observed.specs.Orders.{run_text}
use Rattle.observed.proofs.Texts.{gathered-as}
use Rattle.observed.proofs.orders.gather_run.Goals as goal

pub returns : goal.returns
unfolding run_text bytes
returns c = let rest = gathered-as (ap signed (sym
    c.bits.ensures))
    c.gather_signed-d.ensures in
    gathered-then
    c.gather_direction-a.ensures
    (gathered-then
    c.gather_field-b.ensures
    (gathered-then
    c.gather_field-c.ensures
    (gathered-then rest
    c.gather.ensures)))
