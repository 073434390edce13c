-- `put_suspended` meets its contract: an empty record, and one that is not.
-- Assumes nothing.
use Prim.Native.Nat.{◌^◌, ◌≤◌, ◌<◌}
use borrow.Author.Rules.{rules}
use Rattle.replies.proofs.RequestRows.{empty-ready, empty-put, suspended-ready, suspended-put}
use Rattle.replies.proofs.requests.put_suspended.Goals as goal

pub put_row-requires : goal.put_row-requires
put_row-requires c = empty-ready _ _ c.requires.0

pub returns-then-cell-eq0 : goal.returns-then-cell-eq0
returns-then-cell-eq0 c = empty-put _ c.args.suspended c.if-cell-eq0.true c.put_row.ensures

pub put_row-requires-2 : goal.put_row-requires-2
put_row-requires-2 c = let b : c.remaining_bits-bits.result < 2 ^ 32 = search rules in
    let n : c.args.suspended.loops ≤ 65535 = search rules in
    suspended-ready _ _ c.args.suspended _ c.requires.0 c.requires.1 c.if-cell-eq0.false b n

pub returns : goal.returns
returns c = suspended-put _ _ c.args.suspended c.if-cell-eq0.false c.remaining_bits-bits.ensures
    c.put_row-2.ensures
