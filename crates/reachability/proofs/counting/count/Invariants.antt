-- `count` meets its contract. Invariant: the first k places are marked and stand in the order.
-- Assumes nothing.
use mathlib.Core.Path.{◌≡◌}
use Rattle.reachability.proofs.Rooting.{Rooted}
use Rattle.reachability.proofs.counting.count.Given as goal

abbrev pub invariant-loop-k : goal.invariant-loop-k
invariant-loop-k l = Rooted l.search.used l.search.order l.k × (l.search.count ≡ l.k)
