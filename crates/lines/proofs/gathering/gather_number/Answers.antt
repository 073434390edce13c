-- `lines::gathering::gather_number` meets its contract: ten bytes hold the digits, and they are gathered from there.
-- Assumes nothing.
use native.Mathlib.Omega.{arith}
use Rattle.decimal.proofs.Printing.{length-decimal, width_small}
use Rattle.lines.proofs.Fronts.{gather-written}
use Rattle.lines.proofs.gathering.gather_number.Goals as goal

pub put_decimal-length-requires : goal.put_decimal-length-requires
put_decimal-length-requires c = omega (arith, length-decimal c.args.value, width_small c.args.value)

pub returns : goal.returns
returns c = let v = c.args.value in gather-written _ _ _ _ c.put_decimal-length.ensures (omega (arith, length-decimal v, width_small v)) c.front.ensures c.gather.ensures
