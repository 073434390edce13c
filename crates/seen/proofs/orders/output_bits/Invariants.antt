-- Invariant: the bits are those of the outputs from a place on.
-- Assumes nothing.
use Prim.Native.Nat.{◌≤◌}
use mathlib.Core.Path.{◌≡◌}
use lib.ListN.{drop}
use Rattle.seen.specs.Bytes.{bits_of}
use Rattle.seen.proofs.orders.output_bits.Given as goal

abbrev pub invariant-loop-i : goal.invariant-loop-i
invariant-loop-i l = (l.i ≤ 14) × (l.bits ≡ bits_of (drop l.i l.outputs))
