-- `Steps::nearer` meets its contract: less its sign, a number is one nearer to zero.
-- Assumes nothing.
use Rattle.std.proofs.Common.{ℤ, ap, to_z-of_z, w32, SFits, rules}
use Rattle.units.specs.declared.Steps.{Steps}
use Rattle.units.proofs.Nearer.{nearer-bits}
use Rattle.units.proofs.Steps.nearer.Goals as goal

pub returns : goal.returns
returns c =
    let s : SFits w32 c.args.self.0 = search rules in
    let step : ℤ → Steps = λ (z : ℤ). record { 0 = z } in
    rw (c.signum.ensures.value, to_z-of_z s) (ap step (nearer-bits c.args.self s))
