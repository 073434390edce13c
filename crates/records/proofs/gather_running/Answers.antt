-- `records::gather_running` meets its contract.
-- Assumes nothing.
use mathlib.Core.Path.{sym, ap}
use Rattle.lines.proofs.Pieces.{gathered-then}
use Rattle.observed.specs.Orders.{field_text}
use Rattle.records.specs.Records.{running_text}
use Rattle.observed.proofs.Texts.{gathered-as}
use Rattle.records.proofs.gather_running.Goals as goal

pub returns : goal.returns
unfolding running_text
returns c = let phase = gathered-as (ap field_text (sym c.phase_place.ensures)) c.gather_field-b.ensures in
    gathered-then c.gather_field-a.ensures
    (gathered-then phase
    (gathered-then c.gather_remaining_field-c.ensures
    (gathered-then c.gather_field-d.ensures
    c.gather_bit.ensures)))
