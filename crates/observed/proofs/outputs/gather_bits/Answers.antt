-- `observed::outputs::gather_bits` meets its contract: one bit more at each turn.
-- Assumes nothing.
use Rattle.std.proofs.Common.{arith}
use Rattle.lines.proofs.Pieces.{gathered-then}
use Rattle.observed.specs.Outputs.{bits_text}
use Rattle.observed.proofs.Texts.{gathered-as, gathered_none, bits-next}
use Rattle.observed.proofs.outputs.gather_bits.Goals as goal

pub loop-on-init : goal.loop-on-init
unfolding bits_text
loop-on-init c = gathered_none _ _ _ c.min-next.ensures

pub loop-on-preserved : goal.loop-on-preserved
loop-on-preserved c = let l = c.loop-on in
    gathered-as (bits-next c.args.bits.now l.on-index (omega arith)) (gathered-then l.invariant c.gather_bit-next.ensures)
