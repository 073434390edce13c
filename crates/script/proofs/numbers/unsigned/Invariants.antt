-- Invariant: the value so far, continued over the bytes left, is the value of the word; it fits 32 bits.
-- Assumes nothing.
use Rattle.std.proofs.Common.{◌≡◌, ◌^◌, ◌<◌, drop}
use Rattle.decimal.specs.Parsing.{value_from}
use Rattle.script.specs.Numbers.{unsigned_of}
use Rattle.script.proofs.numbers.unsigned.Given as goal

abbrev pub invariant-loop-byte : goal.invariant-loop-byte
invariant-loop-byte l = (l.value < 2 ^ 32) × (unsigned_of l.word ≡ value_from l.value (drop l.byte-index l.word))
