-- `carrying::carry` meets its contract.
-- Invariant: the drive is sound, the words that remain are not refused, and they lead where all of them lead. Measure: the bytes that remain.
-- Assumes nothing.
use Prim.Native.Nat.{◌-◌}
use lib.ListN.{length}
use Rattle.lists.proofs.Turns.{Carrying}
use Rattle.lists.proofs.carrying.carry.Given as goal

abbrev pub invariant-loop-at : goal.invariant-loop-at
invariant-loop-at l = Carrying l.list l.initial.buffer l.buffer l.initial.machine l.machine l.at l.written

abbrev pub decreases-loop-at : goal.decreases-loop-at
decreases-loop-at l = length l.list - l.at
