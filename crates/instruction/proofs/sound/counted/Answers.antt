-- `sound::counted` meets its contract: the number is read back from its bits.
-- Assumes nothing.
use borrow.Author.Rules.{rules}
use Rattle.instruction.proofs.TestsFields.{counted-bits}
use Rattle.instruction.proofs.sound.counted.Goals as goal

pub returns : goal.returns
returns c = counted-bits c.args.steps (search rules)
