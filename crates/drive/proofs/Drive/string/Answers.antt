-- `Drive::string` meets its contract: by the check, and by the operation on a sound drive.
-- Assumes nothing.
use mathlib.Core.Path.{sym, subst, ◌∙◌}
use Rattle.std.proofs.Common.{Ok, Err}
use Rattle.machine.specs.Calls.Call.{SendString}
use Rattle.drive.specs.declared.results.Refused.{Refused}
use Rattle.drive.proofs.Applied.{unsound-applied, sound-applied, Telling, string-refused, string-applied}
use Rattle.drive.proofs.Drive.string.Goals as goal

pub returns-then-not-is_sound : goal.returns-then-not-is_sound
returns-then-not-is_sound c =
    let u = unsound-applied (SendString _ _) _ c.is_sound.ensures c.if-not-is_sound.true c.refused.ensures in
    let t = string-refused _ _ _ _ u in
    record { buffer_after = t.0; length = t.1.0; buffer = t.1.1 }

pub string-requires : goal.string-requires
string-requires c = sym c.is_sound.ensures ∙ c.if-not-is_sound.false

pub returns-in-Ok : goal.returns-in-Ok
returns-in-Ok c =
    let sound = sound-applied (SendString _ _) _ c.is_sound.ensures c.if-not-is_sound.false in
    let t = string-applied _ _ _ _ _ (Ok _) sound c.in-Ok.ensures in
    record { buffer_after = t.0; length = t.1.0; buffer = t.1.1 }

pub returns-in-Err : goal.returns-in-Err
returns-in-Err c =
    let sound = sound-applied (SendString _ _) _ c.is_sound.ensures c.if-not-is_sound.false in
    let t = string-applied _ _ _ _ _ (Err _) sound c.in-Err.ensures in
    let u = subst (λ (x : Refused). Telling c.args.text.now c.args.buffer.now c.string.new.buffer c.args.self (Err x)) (sym c.refused-in-Err.ensures) t in
    record { buffer_after = u.0; length = u.1.0; buffer = u.1.1 }
