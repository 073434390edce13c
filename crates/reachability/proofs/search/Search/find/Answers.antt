-- `Search::find` meets its contract: where the place is new, the order has room for it.
-- Assumes nothing.
use Rattle.std.proofs.Common.{◌≡◌, length, arith, rules}
use Rattle.cellmap.proofs.Counting.{unmarked-less}
use Rattle.reachability.proofs.Searching.{room-here}
use Rattle.reachability.proofs.search.Search.find.Goals as goal

pub bounds-self-self : goal.bounds-self-self
bounds-self-self c =
    let s = c.args.self.now in
    let l : length s.used ≡ 131 = search rules in
    room-here s.used s.count c.args.k s.room (omega (arith, c.if-k-ge-PLACES.false, l)) c.if-self-k.false

pub invariant_of-self : goal.invariant_of-self
invariant_of-self c =
    let s = c.args.self.now in
    let l : length s.used ≡ 131 = search rules in
    let less = unmarked-less s.used c.args.k (omega (arith, c.if-k-ge-PLACES.false, l)) c.if-self-k.false in
    record { room = omega (arith, s.room, less) }
