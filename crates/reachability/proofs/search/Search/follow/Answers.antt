-- `Search::follow` meets its contract. Invariant: what a search keeps after the first i cells of its order. Measure: the places that it has not come to.
-- Assumes nothing.
use Rattle.reachability.proofs.Searching.{under-start, under-turn, under-ended}
use Rattle.reachability.proofs.search.Search.follow.Goals as goal

pub loop-i-init : goal.loop-i-init
loop-i-init c = under-start c.args.cells.now c.requires

pub loop-i-preserved : goal.loop-i-preserved
loop-i-preserved c =
    let l = c.loop-i in
    under-turn l.invariant c.loop-i-test.true
    c.next_place.ensures c.find.ensures.count c.find.ensures.marks c.find.ensures.order
    c.jump_place.ensures c.find-in-loop-i.ensures.count c.find-in-loop-i.ensures.marks c.find-in-loop-i.ensures.order

pub returns : goal.returns
returns c = record { size = c.loop-i.invariant.size; exactly = under-ended c.loop-i.invariant c.loop-i-test.false }
