-- Each return by the step that led there.
-- Assumes nothing.
use mathlib.Core.Path.{refl, sym, ◌∙◌}
use Rattle.packed.specs.Layout.{parsed_as}
use Rattle.image.specs.Results.{made_of}
use Rattle.image.proofs.ReadingSteps.{presets-none, presets-other, presets-given, told_same}
use Rattle.image.proofs.reading.drive_of.Goals as goal

pub returns-in_err-at : goal.returns-in_err-at
unfolding parsed_as made_of
returns-in_err-at c = rw c.from_residual.ensures (sym (presets-none _ _ c.in_err-at.ensures refl))

pub returns-then-ne : goal.returns-then-ne
unfolding parsed_as made_of
returns-then-ne c =
    let other = told_same _ _ _ _ _ c.presets_from-presets.ensures c.preset_numbers.ensures c.ne.ensures c.if-ne.true in
    sym (presets-other _ _ c.in_ok-at.ensures _ refl other)

pub returns : goal.returns
unfolding parsed_as
returns c =
    let own = told_same _ _ _ _ _ c.presets_from-presets.ensures c.preset_numbers.ensures c.ne.ensures c.if-ne.false in
    c.with_cells.ensures ∙ presets-given _ _ c.in_ok-at.ensures _ _ refl c.presets_from-presets.ensures own
