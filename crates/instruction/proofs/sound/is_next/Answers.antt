-- `sound::is_next` meets its contract: 000, or what `between` tells.
-- Assumes nothing.
use Rattle.laws.proofs.Joins.{or-either}
use Rattle.fields.specs.Kinds.{valid}
use Rattle.instruction.proofs.sound.is_next.Goals as goal

pub returns : goal.returns
unfolding valid
returns c = rw (c.between.ensures 3) (or-either _ _)
