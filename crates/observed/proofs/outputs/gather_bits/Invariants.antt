-- Invariant: the bits passed are gathered.
-- Assumes nothing.
use Rattle.std.proofs.Common.{take}
use Rattle.lines.specs.Gathering.{Gathered}
use Rattle.observed.specs.Outputs.{bits_text}
use Rattle.observed.proofs.outputs.gather_bits.Given as goal

abbrev pub invariant-loop-on : goal.invariant-loop-on
invariant-loop-on l = Gathered l.initial.line l.n (bits_text (take l.on-index l.bits)) l.line l.next
