-- Invariant: the place is that in the names left, counted on from the names passed.
-- Assumes nothing.
use Rattle.std.proofs.Common.{◌≡◌, ◌+◌, length, drop}
use Rattle.script.specs.Words.{words_of, place_of}
use Rattle.script.proofs.words.place.Given as goal

abbrev pub invariant-loop-k : goal.invariant-loop-k
invariant-loop-k l =
    (l.n ≡ length (words_of l.list)) × (place_of l.name (words_of l.list) ≡ l.k + place_of l.name (drop l.k (words_of l.list)))
