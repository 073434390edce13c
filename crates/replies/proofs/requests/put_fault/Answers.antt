-- `put_fault` meets its contract: a row of a code and a cell.
-- Assumes nothing.
use Rattle.replies.proofs.RequestRows.{fault-ready, fault-put}
use Rattle.replies.proofs.requests.put_fault.Goals as goal

pub put_row-requires : goal.put_row-requires
put_row-requires c = fault-ready _ c.args.state _ c.requires.0 c.requires.1

pub returns : goal.returns
returns c = fault-put _ c.args.state c.put_row.ensures
