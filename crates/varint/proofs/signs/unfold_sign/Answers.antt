-- One case for each sign.
-- Assumes nothing.
use mathlib.Core.Path.{sym}
use Rattle.varint.proofs.Folding.{unfolded-even, unfolded-odd}
use Rattle.varint.proofs.signs.unfold_sign.Goals as goal

pub returns-then-n-eq0 : goal.returns-then-n-eq0
returns-then-n-eq0 c = sym (unfolded-even c.args.n c.if-n-eq0.true)

pub returns-else-n-eq0 : goal.returns-else-n-eq0
returns-else-n-eq0 c = sym (unfolded-odd c.args.n c.if-n-eq0.false)
