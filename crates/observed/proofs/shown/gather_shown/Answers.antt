-- `observed::shown::gather_shown` meets its contract: one byte more at each turn.
-- Assumes nothing.
use Rattle.std.proofs.Common.{arith}
use Rattle.lines.proofs.Pieces.{gathered-then}
use Rattle.observed.specs.Shown.{shown}
use Rattle.observed.proofs.Texts.{gathered-as, gathered_none, shown-next}
use Rattle.observed.proofs.shown.gather_shown.Goals as goal

pub loop-byte-init : goal.loop-byte-init
unfolding shown
loop-byte-init c = gathered_none _ _ _ c.min-next.ensures

pub loop-byte-preserved : goal.loop-byte-preserved
loop-byte-preserved c = let l = c.loop-byte in
    gathered-as (shown-next c.args.bytes.now l.byte-index (omega arith)) (gathered-then l.invariant c.gather_byte-next.ensures)
