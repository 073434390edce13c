-- `Steps::scaled` meets its contract: times 4 or 1, and nothing overflows.
-- Assumes nothing.
use Rattle.std.proofs.Common.{true, sym, to_z-of_z, w32, SFits, rules}
use lib.IntN.{one, *ℤ-one}
use Rattle.units.specs.Shift.{scaled_of, multiplier_of}
use Rattle.laws.specs.Tests.{choose}
use Rattle.units.proofs.Complement.{to_z-of_z-wide}
use Rattle.units.proofs.Limits.{sfits-scaled}
use Rattle.units.proofs.Steps.scaled.Goals as goal

pub returns-then-x4 : goal.returns-then-x4
unfolding scaled_of multiplier_of choose
returns-then-x4 c =
    let s : SFits w32 c.args.self.0 = search rules in
    simp (c.from-n.ensures, to_z-of_z s, to_z-of_z-wide s, to_z-of_z (sfits-scaled c.args.self true s), c.if-x4.true)

pub returns-else-x4 : goal.returns-else-x4
unfolding scaled_of multiplier_of choose one
returns-else-x4 c =
    let s : SFits w32 c.args.self.0 = search rules in
    simp (c.from-n.ensures, to_z-of_z s, to_z-of_z-wide s, c.if-x4.false) (sym (*ℤ-one c.args.self.0))
