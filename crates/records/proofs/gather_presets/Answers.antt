-- `records::gather_presets` meets its contract.
-- Assumes nothing.
use mathlib.Core.Path.{sym, ap}
use Rattle.lines.proofs.Pieces.{gathered-then}
use Rattle.observed.specs.Orders.{field_text}
use Rattle.records.specs.Records.{presets_text}
use Rattle.observed.proofs.Texts.{gathered-as}
use Rattle.records.proofs.gather_presets.Goals as goal

pub returns : goal.returns
unfolding presets_text
returns c = let ad = gathered-as (ap field_text (sym c.preset_value.ensures)) c.gather_field-a.ensures in
    let in₁ = gathered-as (ap field_text (sym c.preset_value-2.ensures)) c.gather_field-b.ensures in
    let rs = gathered-as (ap field_text (sym c.preset_value-3.ensures)) c.gather_field-c.ensures in
    let es = gathered-as (ap field_text (sym c.preset_value-4.ensures)) c.gather_field-d.ensures in
    let cm = gathered-as (ap field_text (sym c.preset_value-5.ensures)) c.gather_field.ensures in
    gathered-then ad (gathered-then in₁ (gathered-then rs (gathered-then es cm)))
