-- Invariant: the groups of what is left, written from the present place on, give what all groups give. Measure: what is left.
-- Assumes nothing.
use Prim.Native.Nat.{◌+◌}
use mathlib.Core.Path.{◌≡◌}
use lib.ListN.{length}
use lib.Seq.{sets}
use Rattle.varint.specs.Groups.{groups}
use Rattle.varint.proofs.groups.put_number.Given as goal

abbrev pub invariant-loop-left : goal.invariant-loop-left
invariant-loop-left l = record {
  size : length l.buf ≡ length l.initial.buf;
  next : l.i + length (groups l.left) ≡ l.at + length (groups l.n);
  now : sets l.initial.buf l.at (groups l.n) ≡ sets l.buf l.i (groups l.left);
}

abbrev pub decreases-loop-left : goal.decreases-loop-left
decreases-loop-left l = l.left
