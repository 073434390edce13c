-- `Steps::is_zero` meets its contract: the bits of zero alone are zero.
-- Assumes nothing.
use Rattle.std.proofs.Common.{rules}
use Rattle.units.specs.Remaining.{is_zero_of}
use Rattle.units.proofs.Complement.{of_z-zero}
use Rattle.units.proofs.Steps.is_zero.Goals as goal

pub returns : goal.returns
unfolding is_zero_of
returns c = of_z-zero c.args.self.0 (search rules)
