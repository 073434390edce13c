-- `Search::follow` meets its contract. Invariant: what a search keeps after the first i cells of its order. Measure: the places that it has not come to.
-- Assumes nothing.
use Prim.Native.Nat.{◌-◌}
use lib.ListN.{take}
use Rattle.reachability.specs.Search.{open_by}
use Rattle.reachability.proofs.Searching.{Under}
use Rattle.reachability.proofs.search.Search.follow.Given as goal

abbrev pub invariant-loop-i : goal.invariant-loop-i
invariant-loop-i l =
    let s = l.initial.self in
    Under l.cells s.used (open_by (take s.count s.order) s.used) l.self.used l.self.order l.self.count l.i

abbrev pub decreases-loop-i : goal.decreases-loop-i
decreases-loop-i l = 131 - l.i
