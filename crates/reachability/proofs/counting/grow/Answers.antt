-- `grow` meets its contract: one cell is to be followed.
-- Assumes nothing.
use mathlib.Core.Path.{◌≡◌, refl}
use lib.ListN.{length}
use borrow.Author.Rules.{rules}
use Rattle.reachability.proofs.Rooting.{one-room, one-waiting}
use Rattle.reachability.proofs.counting.grow.Goals as goal

pub invariant_of-search : goal.invariant_of-search
invariant_of-search c =
    let l : length c.args.used ≡ 131 = search rules in
    record { room = one-room _ _ l c.requires.at_value }

pub follow-requires : goal.follow-requires
follow-requires c =
    let l : length c.args.used ≡ 131 = search rules in
    one-waiting l refl c.requires.at_value refl
