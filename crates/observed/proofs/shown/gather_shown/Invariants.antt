-- Invariant: the bytes passed are gathered as they are shown.
-- Assumes nothing.
use Rattle.std.proofs.Common.{take}
use Rattle.lines.specs.Gathering.{Gathered}
use Rattle.observed.specs.Shown.{shown}
use Rattle.observed.proofs.shown.gather_shown.Given as goal

abbrev pub invariant-loop-byte : goal.invariant-loop-byte
invariant-loop-byte l = Gathered l.initial.line l.n (shown (take l.byte-index l.bytes)) l.line l.next
