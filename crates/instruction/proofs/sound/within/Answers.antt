-- `sound::within` meets its contract: the number is read back from its bits.
-- Assumes nothing.
use borrow.Author.Rules.{rules}
use Rattle.instruction.proofs.TestsFields.{within-bits}
use Rattle.instruction.proofs.sound.within.Goals as goal

pub returns : goal.returns
returns c = within-bits c.args.steps (search rules)
