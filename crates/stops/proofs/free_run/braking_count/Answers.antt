-- `braking_count` meets its contract: the test on none picks the same case.
-- Assumes nothing.
use mathlib.Core.Path.{sym, ◌∙◌}
use mir.Syntax.{w32}
use mir.Val.{SFits}
use mir.Facts.{to_z-of_z}
use borrow.Author.Rules.{rules}
use Rattle.laws.proofs.Tests.{choose-true, choose-false}
use Rattle.units.proofs.Limits.{sfits-scaled}
use Rattle.machine.specs.Stopping.{braking_count}
use Rattle.stops.proofs.free_run.braking_count.Goals as goal

pub returns-then-is_zero : goal.returns-then-is_zero
unfolding braking_count
returns-then-is_zero c = sym (choose-true _ _ _ (sym c.is_zero.ensures ∙ c.if-is_zero.true))

pub returns-else-is_zero : goal.returns-else-is_zero
unfolding braking_count
returns-else-is_zero c =
    let a = c.args in
    let s : SFits w32 a.steps.0 = search rules in
    let z = sfits-scaled a.steps a.x4 s in
    rw (c.scaled.ensures, to_z-of_z z) (sym (choose-false _ _ _ (sym c.is_zero.ensures ∙ c.if-is_zero.false)))
