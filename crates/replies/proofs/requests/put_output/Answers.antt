-- `put_output` meets its contract: a row of a name and a bit.
-- Assumes nothing.
use Rattle.replies.proofs.RequestRows.{output-ready, output-put}
use Rattle.replies.proofs.requests.put_output.Goals as goal

pub put_row-requires : goal.put_row-requires
put_row-requires c = output-ready _ _ _ c.args.state _ c.requires.0 c.output_value-value.ensures c.requires.1

pub returns : goal.returns
returns c = output-put _ _ _ c.args.state c.output_value-value.ensures c.put_row.ensures
