-- Invariant: what is read from the present place on, behind the groups so far, is the whole result; the value is below the weight of the next group.
-- Assumes nothing.
use Prim.Native.Nat.{◌+◌, ◌-◌, ◌^◌, ◌≤◌, ◌<◌}
use mathlib.Core.Path.{◌≡◌}
use lib.ListN.{length, drop}
use Rattle.varint.specs.Groups.{read_from, bounded, number_at}
use Rattle.varint.proofs.Turns.{after, least}
use Rattle.varint.proofs.groups.read_groups.Given as goal

abbrev pub invariant-loop-k : goal.invariant-loop-k
invariant-loop-k l = record {
  within : l.from + l.k ≤ length l.s;
  weighs : l.weight ≡ 128 ^ l.k;
  below : l.value < l.weight;
  left : number_at l.s l.from ≡ bounded (after l.value l.weight (least l.k) (read_from (5 - l.k) (l.from + l.k) (drop (l.from + l.k) l.s)));
}
