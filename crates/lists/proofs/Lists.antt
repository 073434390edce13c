-- Calls one after another.
-- Assumes nothing.
use mathlib.Core.Path.{◌≡◌, refl}
use mathlib.Core.List.{List, [], ◌∷◌, ◌++◌}
use Rattle.machine.specs.Invariant.{Kept}
use Rattle.machine.specs.Calls.{Call, next, after}
use Rattle.machine.specs.declared.Machine.{Machine}
use Rattle.machine.proofs.Invariant.{invariant}
use Rattle.lists.specs.Listing.{Word, word_calls, word_next, calls_of}

pub after-append : (xs ys : List Call) (m : Machine) → after (xs ++ ys) m ≡ after ys (after xs m)
unfolding after
after-append [] ys m = refl
after-append (c ∷ xs) ys m = after-append xs ys (next c m)

-- calls keep a sound drive sound
pub after_kept : (cs : List Call) (m : Machine) → Kept m → Kept (after cs m)
unfolding after
after_kept [] m k = k
after_kept (c ∷ cs) m k = after_kept cs (next c m) (invariant.goes c m k)

-- the first word's calls, then those of the others
pub words-after : (w : Word) (ws : List Word) (m : Machine) → after (calls_of (w ∷ ws) m) m ≡ after (calls_of ws (word_next w m)) (word_next w m)
unfolding calls_of word_next
words-after w ws m = after-append (word_calls w m) _ m
