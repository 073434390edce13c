-- `inputs_of` meets its contract. Invariant: the bits stored so far, and then those of what is left of the word, are the bits of the word.
-- Assumes nothing.
use Prim.Native.Nat.{◌-◌}
use mathlib.Core.Path.{◌≡◌}
use mathlib.Core.List.{◌++◌}
use lib.ListN.{length, take}
use Rattle.machine.specs.InputWords.{bits_from}
use Rattle.inputs.proofs.inputs_of.Given as goal

abbrev pub invariant-loop-input : goal.invariant-loop-input
invariant-loop-input l =
    (length l.input-items ≡ 11) × (take l.input-index l.input-items ++ bits_from (11 - l.input-index) l.left ≡ bits_from 11 l.word)
