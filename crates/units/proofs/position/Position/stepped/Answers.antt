-- `Position::stepped` meets its contract: the wrapping sum and difference of the bits are the wrapped number's.
-- Assumes nothing.
use Rattle.std.proofs.Common.{◌+◌, ◌%◌, ◌^◌, ◌<◌, rules, arith}
use Rattle.laws.specs.Tests.{choose}
use Rattle.units.specs.Position.{stepped_of, moved}
use Rattle.units.proofs.Stepping.{wrapped-forward, wrapped-back}
use Rattle.units.proofs.position.Position.stepped.Goals as goal

pub returns-then-forward : goal.returns-then-forward
unfolding stepped_of moved choose
returns-then-forward c =
    let f : c.args.self.0 < 2 ^ 32 = search rules in
    simp (c.if-forward.true, wrapped-forward c.args.self.0 f)

pub returns-else-forward : goal.returns-else-forward
unfolding stepped_of moved choose
returns-else-forward c =
    let b = c.args.self.0 in
    let f : b < 2 ^ 32 = search rules in
    let r = (b + 4294967295) % 2 ^ 32 in
    simp (c.if-forward.false, wrapped-back b r f (omega arith) (omega arith))
