-- `put_rejected` meets its contract: the address, N and byte 13.
-- Assumes nothing.
use Rattle.laws.specs.Text.{bytes}
use Rattle.machine.specs.Answers.{answer_of, rejected}
use Rattle.replies.specs.Pieces.{front_of}
use Rattle.replies.proofs.pieces.put_rejected.Goals as goal

pub returns : goal.returns
unfolding rejected answer_of bytes front_of
returns c = c.put_front.ensures
