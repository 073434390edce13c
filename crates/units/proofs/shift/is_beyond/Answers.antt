-- `shift::is_beyond` meets its contract: each test reads the shift back from its bits.
-- Assumes nothing.
use Rattle.std.proofs.Common.{to_z-of_z, w64, SFits, rules}
use Rattle.laws.specs.Tests.{either}
use Rattle.units.specs.Shift.{is_beyond_of}
use Rattle.units.proofs.shift.is_beyond.Goals as goal

pub returns-then-limit-shift : goal.returns-then-limit-shift
unfolding is_beyond_of either
returns-then-limit-shift c =
    let s : SFits w64 c.args.shift = search rules in
    let t = rw (c.from-limit.ensures, to_z-of_z s) at c.if-limit-shift.true in
    simp (c.from-limit.ensures, to_z-of_z s, t)

pub returns-else-limit-shift : goal.returns-else-limit-shift
unfolding is_beyond_of either
returns-else-limit-shift c =
    let s : SFits w64 c.args.shift = search rules in
    let t = rw (c.from-limit.ensures, to_z-of_z s) at c.if-limit-shift.false in
    simp (c.from-limit.ensures, t, to_z-of_z s)
