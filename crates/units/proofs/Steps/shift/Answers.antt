-- `Steps::shift` meets its contract: no difference of an i32 and a position overflows.
-- Assumes nothing.
use Rattle.std.proofs.Common.{to_z-of_z, w32, Fits, SFits, rules}
use mir.Facts.{sfits_to_z}
use Rattle.laws.specs.Tests.{choose}
use Rattle.units.specs.Shift.{shift_of}
use Rattle.units.proofs.Complement.{to_z-of_z-wide}
use Rattle.units.proofs.Limits.{sfits-scaled, sfits-shift}
use Rattle.units.proofs.Steps.shift.Goals as goal

pub returns-then-absolute : goal.returns-then-absolute
unfolding shift_of choose
returns-then-absolute c =
    let a = c.args in
    let s : SFits w32 a.self.0 = search rules in
    let f : Fits w32 a.position.0 = search rules in
    simp (
      c.from.ensures,
      to_z-of_z s,
      to_z-of_z-wide s,
      c.number.ensures,
      to_z-of_z-wide (sfits_to_z f),
      to_z-of_z (sfits-shift a.self a.position s f),
      c.if-absolute.true,
    )

pub returns-else-absolute : goal.returns-else-absolute
unfolding shift_of choose
returns-else-absolute c =
    let a = c.args in
    let s : SFits w32 a.self.0 = search rules in
    simp (c.scaled.ensures, to_z-of_z (sfits-scaled a.self a.x4 s), c.if-absolute.false)
