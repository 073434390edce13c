-- `put_accepted` meets its contract: the address, Y and byte 13.
-- Assumes nothing.
use Rattle.laws.specs.Text.{bytes}
use Rattle.machine.specs.Answers.{answer_of, accepted}
use Rattle.replies.specs.Pieces.{front_of}
use Rattle.replies.proofs.pieces.put_accepted.Goals as goal

pub returns : goal.returns
unfolding accepted answer_of bytes front_of
returns c = c.put_front.ensures
