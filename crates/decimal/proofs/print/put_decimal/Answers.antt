-- The width holds the number, so its digits at that width are the number without leading zeros.
-- Assumes nothing.
use Prim.Native.Nat.{ℕ}
use native.Mathlib.Omega.{arith}
use mathlib.Core.Path.{ap}
use Rattle.laws.proofs.Writing.{put_as}
use Rattle.decimal.specs.Printing.{digits, decimal}
use Rattle.decimal.proofs.Printing.{width-holds, width_small, length-decimal}
use Rattle.decimal.proofs.print.put_decimal.Goals as goal

pub put_digits-requires : goal.put_digits-requires
put_digits-requires c =
    let n = c.args.n in
    let e = c.width_of.ensures in
    (omega (arith, width_small n), (rw e (width-holds n (omega arith)), omega (arith, length-decimal n)))

pub returns : goal.returns
unfolding decimal
returns c =
    let n = c.args.n in
    put_as (ap (λ (w : ℕ). digits w n) c.width_of.ensures) c.put_digits.ensures
