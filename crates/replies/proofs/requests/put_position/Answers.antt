-- `put_position` meets its contract: a row of one signed number.
-- Assumes nothing.
use Prim.Native.Nat.{◌^◌, ◌<◌}
use borrow.Author.Rules.{rules}
use Rattle.replies.proofs.RequestRows.{position-ready, position-put}
use Rattle.replies.proofs.requests.put_position.Goals as goal

pub put_row-requires : goal.put_row-requires
put_row-requires c = let b : c.args.state.position.0 < 2 ^ 32 = search rules in
    position-ready _ c.args.state _ c.requires b

pub returns : goal.returns
returns c = position-put _ c.args.state c.put_row.ensures
