-- `same_content` meets its contract: codes and numbers are the content.
-- Assumes nothing.
use Rattle.laws.proofs.Joins.{and_both}
use Rattle.instruction.proofs.Numbering.{pointwise-same}
use Rattle.machine.specs.Acting.{same_content}
use Rattle.serial.proofs.acting.same_content.Goals as goal

pub returns : goal.returns
unfolding same_content
returns c =
    rw (c.eq.ensures, pointwise-same, c.code.ensures, c.code-2.ensures, c.numbers.ensures, c.numbers-2.ensures) (and_both _ _)
