-- Invariant: the bytes passed are gathered as digits.
-- Assumes nothing.
use Rattle.std.proofs.Common.{take}
use Rattle.lines.specs.Gathering.{Gathered}
use Rattle.observed.specs.Shown.{hex_text}
use Rattle.observed.proofs.shown.gather_hex.Given as goal

abbrev pub invariant-loop-byte : goal.invariant-loop-byte
invariant-loop-byte l = Gathered l.initial.line l.n (hex_text (take l.byte-index l.bytes)) l.line l.next
