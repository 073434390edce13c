use Rattle.std.proofs.Common.{◌≡◌, ◌+◌}
use Rattle.scan.specs.Bytes.{index_of, slice}
use Rattle.scan.proofs.find.Given as goal

-- what is passed over has no such byte
abbrev pub invariant-loop-at : goal.invariant-loop-at
invariant-loop-at l = l.fn.from + index_of l.byte (slice l.fn.from l.fn.to l.s) ≡ l.at + index_of l.byte (slice l.at l.fn.to l.s)
