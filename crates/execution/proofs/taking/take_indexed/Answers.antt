-- `taking::take_indexed` meets its contract: the shift is read back from its bits, and is steps again where it is not beyond.
-- Assumes nothing.
use mathlib.Core.Path.{sym, ◌∙◌}
use mir.Facts.{to_z-of_z}
use mir.Syntax.{w64}
use Rattle.execution.proofs.Taken.{within-shift, indexed-far, indexed-near}
use Rattle.execution.proofs.taking.take_indexed.Goals as goal

pub returns-then-too_far : goal.returns-then-too_far
returns-then-too_far c =
    let e = to_z-of_z {w = w64} (record { sfits = c.shift-shift.type_inv }) ∙ c.shift-shift.ensures in
    c.failed.ensures ∙ indexed-far _ _ _ e _ (sym c.too_far.ensures ∙ c.if-too_far.true)

pub steps_of-requires : goal.steps_of-requires
steps_of-requires c =
    let e = to_z-of_z {w = w64} (record { sfits = c.shift-shift.type_inv }) ∙ c.shift-shift.ensures in
    within-shift c.args.state c.args.profile _ e c.requires (sym c.too_far.ensures ∙ c.if-too_far.false)

pub returns : goal.returns
returns c =
    let e = to_z-of_z {w = w64} (record { sfits = c.shift-shift.type_inv }) ∙ c.shift-shift.ensures in
    let r = rw c.steps_of.ensures at c.begin_indexed.ensures in
    r ∙ indexed-near _ _ _ e _ (sym c.too_far.ensures ∙ c.if-too_far.false)
