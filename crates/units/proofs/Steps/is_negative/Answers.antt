-- `Steps::is_negative` meets its contract: the number is read back from its bits.
-- Assumes nothing.
use Rattle.std.proofs.Common.{to_z-of_z, w32, SFits, rules}
use Rattle.units.specs.Remaining.{is_negative_of}
use Rattle.units.proofs.Steps.is_negative.Goals as goal

pub returns : goal.returns
unfolding is_negative_of
returns c = let s : SFits w32 c.args.self.0 = search rules in rw (to_z-of_z s)
