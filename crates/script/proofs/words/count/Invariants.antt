-- Invariant: the parts so far and those of the bytes left are one more than the parts of the text.
-- Assumes nothing.
use Rattle.std.proofs.Common.{◌≡◌, ◌+◌, ◌≤◌, length, drop}
use Rattle.script.specs.Words.{parts_of}
use Rattle.script.proofs.words.count.Given as goal

abbrev pub invariant-loop-byte : goal.invariant-loop-byte
invariant-loop-byte l =
    (l.n ≤ l.byte-index + 1) × (l.n + length (parts_of l.separator (drop l.byte-index l.text)) ≡ length (parts_of l.separator l.text) + 1)
