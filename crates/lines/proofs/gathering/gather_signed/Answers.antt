-- `lines::gathering::gather_signed` meets its contract: eleven bytes hold the sign and the digits.
-- Assumes nothing.
use native.Mathlib.Omega.{arith}
use Rattle.decimal.proofs.Printing.{length-signed}
use Rattle.lines.proofs.Fronts.{gather-written}
use Rattle.lines.proofs.gathering.gather_signed.Goals as goal

pub put_signed-length-requires : goal.put_signed-length-requires
put_signed-length-requires c = omega (arith, length-signed c.args.bits)

pub returns : goal.returns
returns c = gather-written _ _ _ _ c.put_signed-length.ensures (omega (arith, length-signed c.args.bits)) c.front.ensures c.gather.ensures
