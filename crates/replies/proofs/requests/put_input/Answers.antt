-- `put_input` meets its contract: a row of a name and a bit.
-- Assumes nothing.
use Rattle.replies.proofs.RequestRows.{input-ready, input-put}
use Rattle.replies.proofs.requests.put_input.Goals as goal

pub put_row-requires : goal.put_row-requires
put_row-requires c = input-ready _ _ _ c.args.state _ c.requires.0 c.bit-value.ensures c.requires.1

pub returns : goal.returns
returns c = input-put _ _ _ c.args.state c.bit-value.ensures c.put_row.ensures
