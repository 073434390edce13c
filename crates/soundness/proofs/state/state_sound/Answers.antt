-- `state::state_sound` meets its contract: every position is one of 32 bits, and the other tests are the definition's.
-- Assumes nothing.
use mathlib.Core.Path.{sym, ap, ◌∙◌}
use mir.Syntax.{w32}
use mir.Val.{Fits}
use borrow.Author.Rules.{rules}
use Rattle.laws.specs.Tests.{both}
use Rattle.laws.proofs.Joins.{and-as, both-assoc}
use Rattle.machine.specs.Soundness.{state_sound}
use Rattle.soundness.proofs.Comparisons.{position-pass}
use Rattle.soundness.proofs.state.state_sound.Goals as goal

pub returns : goal.returns
unfolding state_sound
returns c =
    let f : Fits w32 c.args.state.position.0 = search rules in
    λ cells h p.
    and-as
    (and-as (and-as (and-as c.presets_sound.ensures c.cam_sound.ensures) c.fault_sound.ensures)
    (c.suspended_sound.ensures cells h))
    (c.running_sound.ensures cells p)
    ∙ both-assoc _ _ _ ∙ both-assoc _ _ _ ∙ both-assoc _ _ _ ∙ ap (both _) (sym (position-pass c.args.state.position _ f))
