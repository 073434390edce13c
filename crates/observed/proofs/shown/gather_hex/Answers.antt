-- `observed::shown::gather_hex` meets its contract: one byte more at each turn.
-- Assumes nothing.
use Rattle.std.proofs.Common.{arith}
use Rattle.lines.proofs.Pieces.{gathered-then}
use Rattle.observed.specs.Shown.{hex_text}
use Rattle.observed.proofs.Texts.{gathered-as, gathered_none, hex-next}
use Rattle.observed.proofs.shown.gather_hex.Goals as goal

pub loop-byte-init : goal.loop-byte-init
unfolding hex_text
loop-byte-init c = gathered_none _ _ _ c.min-next.ensures

pub loop-byte-preserved : goal.loop-byte-preserved
loop-byte-preserved c = let l = c.loop-byte in
    gathered-as (hex-next c.args.bytes.now l.byte-index (omega arith)) (gathered-then l.invariant c.gather_pair-next.ensures)
