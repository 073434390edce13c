-- `records::gather_remaining` meets its contract.
-- Assumes nothing.
use mathlib.Core.Path.{sym, ap, ◌∙◌}
use Rattle.laws.specs.Text.{bytes}
use Rattle.decimal.specs.Printing.{signed}
use Rattle.lines.proofs.Pieces.{gathered-then}
use Rattle.records.specs.Records.{remaining_text}
use Rattle.observed.proofs.Texts.{gathered-as}
use Rattle.records.proofs.gather_remaining.Goals as goal

pub returns-in-Nothing : goal.returns-in-Nothing
unfolding remaining_text bytes
returns-in-Nothing c = gathered-as (ap remaining_text c.in-Nothing.is) c.gather.ensures

pub returns-in-Counted : goal.returns-in-Counted
unfolding remaining_text
returns-in-Counted c = gathered-as (ap remaining_text c.in-Counted.is ∙ ap signed (sym c.bits.ensures)) c.gather_signed.ensures

pub returns-in-Timed : goal.returns-in-Timed
unfolding remaining_text bytes
returns-in-Timed c = gathered-as (ap remaining_text c.in-Timed.is) (gathered-then c.gather-next.ensures c.gather_number.ensures)
