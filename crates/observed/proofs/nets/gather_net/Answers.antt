-- `nets::gather_net` meets its contract: the sign, then the size.
-- Assumes nothing.
use Rattle.std.proofs.Common.{sym, ap}
use Rattle.lines.proofs.Pieces.{gathered-then}
use Rattle.observed.specs.Nets.{wide_text, net_text}
use Rattle.observed.proofs.Texts.{gathered-as}
use Rattle.observed.proofs.nets.gather_net.Goals as goal

pub returns : goal.returns
unfolding net_text
returns c =
    let sign = c.gather_sign-next.ensures in
    let size = ap wide_text (sym c.size_of.ensures) in
    gathered-then sign (gathered-as size c.gather_wide.ensures)
