-- `records::gather_cam` meets its contract.
-- Assumes nothing.
use mathlib.Core.Path.{sym, ap}
use Rattle.lines.proofs.Pieces.{gathered-then}
use Rattle.observed.specs.Orders.{field_text}
use Rattle.records.specs.Records.{cam_text}
use Rattle.observed.proofs.Texts.{gathered-as}
use Rattle.records.proofs.gather_cam.Goals as goal

pub returns : goal.returns
unfolding cam_text
returns c = gathered-then (gathered-as (ap field_text (sym c.bit.ensures)) c.gather_field-a.ensures) c.gather_signed_field.ensures
