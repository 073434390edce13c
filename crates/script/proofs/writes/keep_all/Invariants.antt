-- Invariant: the words left are integers as all are, and putting them into the numbers makes those of all.
-- Assumes nothing.
use Rattle.std.proofs.Common.{◌≡◌, drop}
use Rattle.script.specs.Words.{words_of}
use Rattle.script.specs.Writes.{are_integers}
use Rattle.script.proofs.Turns.{rest}
use Rattle.script.proofs.writes.keep_all.Given as goal

abbrev pub invariant-loop-k : goal.invariant-loop-k
invariant-loop-k l =
    (are_integers (drop 2 (words_of l.line.text.now)) ≡ are_integers (drop l.k (words_of l.line.text.now)))
    × (rest (words_of l.line.text.now) l.initial.numbers 2 ≡ rest (words_of l.line.text.now) l.numbers l.k)
