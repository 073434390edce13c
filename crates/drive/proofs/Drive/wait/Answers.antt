-- `Drive::wait` meets its contract: by the check, and by the operation on a sound drive.
-- Assumes nothing.
use mathlib.Core.Path.{sym, ap, ◌∙◌}
use Rattle.machine.specs.Calls.Call.{Wait}
use Rattle.operations.specs.Results.{waited_as as operation_as}
use Rattle.drive.specs.Results.{refused_with, refused_as, waited_as}
use Rattle.drive.proofs.Applied.{unsound-applied, sound-applied}
use Rattle.drive.proofs.Drive.wait.Goals as goal

pub returns-then-not-is_sound : goal.returns-then-not-is_sound
unfolding waited_as
returns-then-not-is_sound c = unsound-applied (Wait _) _ c.is_sound.ensures c.if-not-is_sound.true c.refused.ensures

pub wait-requires : goal.wait-requires
wait-requires c = sym c.is_sound.ensures ∙ c.if-not-is_sound.false

pub returns-in-Ok : goal.returns-in-Ok
unfolding waited_as operation_as
returns-in-Ok c = c.in-Ok.ensures ∙ sound-applied (Wait _) _ c.is_sound.ensures c.if-not-is_sound.false

pub returns-in-Err : goal.returns-in-Err
unfolding waited_as operation_as refused_as refused_with
returns-in-Err c = ap refused_as c.refused-in-Err.ensures ∙ (c.in-Err.ensures ∙ sound-applied (Wait _) _ c.is_sound.ensures c.if-not-is_sound.false)
