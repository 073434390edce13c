-- `put_cam` meets its contract: a cam that is set, and one that is not.
-- Assumes nothing.
use Prim.Native.Nat.{◌^◌, ◌<◌}
use borrow.Author.Rules.{rules}
use Rattle.replies.proofs.RequestRows.{cam-ready, cam-put, unset-ready, unset-put}
use Rattle.replies.proofs.requests.put_cam.Goals as goal

pub put_row-requires : goal.put_row-requires
put_row-requires c = let b : c.args.cam.position.0 < 2 ^ 32 = search rules in
    cam-ready _ c.args.cam _ c.requires b

pub returns-then-cam : goal.returns-then-cam
returns-then-cam c = cam-put _ c.args.cam c.if-cam.true c.put_row.ensures

pub put_row-requires-2 : goal.put_row-requires-2
put_row-requires-2 c = unset-ready _ _ c.requires

pub returns : goal.returns
returns c = unset-put _ c.args.cam c.if-cam.false c.put_row-2.ensures
