-- `Drive::halted` meets its contract: by the check, and by the operation on a sound drive.
-- Assumes nothing.
use mathlib.Core.Path.{sym, ap, ◌∙◌}
use Rattle.machine.specs.Calls.Call.{Halted}
use Rattle.operations.specs.Results.{acted_on}
use Rattle.drive.specs.Results.{refused_with, refused_as, done_as}
use Rattle.drive.proofs.Applied.{unsound-applied, sound-applied}
use Rattle.drive.proofs.Drive.halted.Goals as goal

pub returns-then-not-is_sound : goal.returns-then-not-is_sound
unfolding done_as
returns-then-not-is_sound c = unsound-applied Halted _ c.is_sound.ensures c.if-not-is_sound.true c.refused.ensures

pub halted-requires : goal.halted-requires
halted-requires c = sym c.is_sound.ensures ∙ c.if-not-is_sound.false

pub returns-in-Ok : goal.returns-in-Ok
unfolding done_as acted_on
returns-in-Ok c = c.in-Ok.ensures ∙ sound-applied Halted _ c.is_sound.ensures c.if-not-is_sound.false

pub returns-in-Err : goal.returns-in-Err
unfolding done_as acted_on refused_as refused_with
returns-in-Err c = ap refused_as c.refused-in-Err.ensures ∙ (c.in-Err.ensures ∙ sound-applied Halted _ c.is_sound.ensures c.if-not-is_sound.false)
