-- Invariant: the word so far is that of the inputs passed.
-- Assumes nothing.
use mathlib.Core.Path.{◌≡◌}
use lib.ListN.{take}
use Rattle.records.specs.Records.{inputs_word}
use Rattle.records.proofs.word_of.Given as goal

abbrev pub invariant-loop-i : goal.invariant-loop-i
invariant-loop-i l = l.word ≡ inputs_word (take l.i l.fn.inputs)
