-- `records::gather_record` meets its contract.
-- Assumes nothing.
use mathlib.Core.Path.{sym, ap}
use Rattle.lines.proofs.Pieces.{gathered-then}
use Rattle.observed.specs.Orders.{field_text}
use Rattle.records.specs.Records.{record_text}
use Rattle.observed.proofs.Texts.{gathered-as}
use Rattle.records.proofs.gather_record.Goals as goal

pub returns : goal.returns
unfolding record_text
returns c = let word = gathered-as (ap field_text (sym c.word_of.ensures)) c.gather_field-c.ensures in
    gathered-then c.gather_presets-a.ensures
    (gathered-then c.gather_signed_field-b.ensures
    (gathered-then word
    (gathered-then c.gather_cam-d.ensures
    (gathered-then c.gather_fault-e.ensures
    (gathered-then c.gather_suspended-f.ensures
    c.gather_running.ensures)))))
