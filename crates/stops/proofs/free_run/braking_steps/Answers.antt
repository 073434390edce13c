-- `braking_steps` meets its contract: within the limit of x4 the count is steps, either way.
-- Assumes nothing.
use mathlib.Core.Path.{sym, ap, ◌∙◌}
use lib.IntN.{ℤ, neg_ℤ, +ℤ_idl}
use mir.Facts.{to_z-of_z}
use Rattle.laws.proofs.Tests.{choose-true, choose-false}
use Rattle.units.specs.declared.Steps.{Steps}
use Rattle.machine.specs.Stopping.{braking_count, braking_steps}
use Rattle.stops.proofs.Braking.{within-braking, within-neg, sfits-long}
use Rattle.stops.proofs.free_run.braking_steps.Goals as goal

abbrev steps_by : ℤ → Steps
steps_by z = record { 0 = z }

pub overflow_sub-n : goal.overflow_sub-n
overflow_sub-n c =
    let a = c.args in
    let w = within-braking a.profile.steps a.profile.x4 c.requires in
    rw (
      c.braking_count-n.ensures,
      to_z-of_z (sfits-long w),
      +ℤ_idl (neg_ℤ (braking_count a.profile.steps a.profile.x4)),
    ) (sfits-long (within-neg w))

pub steps_of-requires : goal.steps_of-requires
steps_of-requires c =
    let a = c.args in
    let w = within-braking a.profile.steps a.profile.x4 c.requires in
    rw (
      c.braking_count-n.ensures,
      to_z-of_z (sfits-long w),
      +ℤ_idl (neg_ℤ (braking_count a.profile.steps a.profile.x4)),
      to_z-of_z (sfits-long (within-neg w)),
    ) (within-neg w)

pub returns-then-profile : goal.returns-then-profile
unfolding braking_steps
returns-then-profile c =
    let a = c.args in
    let w = within-braking a.profile.steps a.profile.x4 c.requires in
    let e = rw (
      c.braking_count-n.ensures,
      to_z-of_z (sfits-long w),
      +ℤ_idl (neg_ℤ (braking_count a.profile.steps a.profile.x4)),
      to_z-of_z (sfits-long (within-neg w)),
    ) at c.steps_of.ensures in
    ap (λ (z : ℤ). steps_by z) (e ∙ sym (choose-true _ _ _ c.if-profile.true))

pub steps_of-requires-else-profile : goal.steps_of-requires-else-profile
steps_of-requires-else-profile c =
    let a = c.args in
    let w = within-braking a.profile.steps a.profile.x4 c.requires in
    rw (c.braking_count-n.ensures, to_z-of_z (sfits-long w)) w

pub returns-else-profile : goal.returns-else-profile
unfolding braking_steps
returns-else-profile c =
    let a = c.args in
    let w = within-braking a.profile.steps a.profile.x4 c.requires in
    let e = rw (c.braking_count-n.ensures, to_z-of_z (sfits-long w)) at c.steps_of-else-profile.ensures in
    ap (λ (z : ℤ). steps_by z) (e ∙ sym (choose-false _ _ _ c.if-profile.false))
