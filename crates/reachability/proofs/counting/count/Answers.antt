-- `count` meets its contract. Invariant: the first k places are marked and stand in the order.
-- Assumes nothing.
use native.Mathlib.Omega.{arith}
use mathlib.Core.Path.{refl}
use Rattle.reachability.proofs.Rooting.{rooted_none, rooted_more, room-first, rooted-waiting, rooted-counted}
use Rattle.reachability.proofs.counting.count.Goals as goal

pub invariant_of-search : goal.invariant_of-search
invariant_of-search c = record { room = room-first }

pub loop-k-init : goal.loop-k-init
loop-k-init c = (rooted_none, refl)

pub loop-k-preserved : goal.loop-k-preserved
loop-k-preserved c =
    let l = c.loop-k in
    let f = c.find.ensures in
    rooted_more l.invariant (omega (arith, c.loop-k-test.true)) f.count f.marks f.order

pub follow-requires : goal.follow-requires
follow-requires c = rooted-waiting c.loop-k.invariant

pub returns : goal.returns
returns c =
    let l = c.loop-k in
    rooted-counted c.args.cells.now l.invariant (omega (arith, c.loop-k-test.false, l.auto.k-end)) c.follow.ensures
