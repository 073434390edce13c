-- `Drive::millisecond` meets its contract: by the check, and by the operation on a sound drive.
-- Assumes nothing.
use mathlib.Core.Path.{sym, ap, ◌∙◌}
use Rattle.machine.specs.Calls.Call.{Millisecond}
use Rattle.drive.specs.Results.{done_as}
use Rattle.drive.proofs.Applied.{unsound-applied, sound-applied, time-passed}
use Rattle.drive.proofs.Drive.millisecond.Goals as goal

pub returns-then-not-is_sound : goal.returns-then-not-is_sound
unfolding done_as
returns-then-not-is_sound c = unsound-applied Millisecond _ c.is_sound.ensures c.if-not-is_sound.true c.refused.ensures

pub millisecond-self-requires : goal.millisecond-self-requires
millisecond-self-requires c = sym c.is_sound.ensures ∙ c.if-not-is_sound.false

pub returns : goal.returns
unfolding done_as
returns c = time-passed _ c.millisecond-self.ensures ∙ sound-applied Millisecond _ c.is_sound.ensures c.if-not-is_sound.false
