-- `wait` meets its contract.
-- Invariant: the milliseconds given so far are at most the budget, the drive is sound, and what is handed back in the end is what is left of
-- the wait makes of the present state. Measure: the milliseconds left of the budget.
-- Assumes nothing.
use Prim.Native.Nat.{◌-◌}
use Rattle.waits.proofs.Waits.{Waiting}
use Rattle.waits.proofs.wait.Given as goal

abbrev pub invariant-loop-cells : goal.invariant-loop-cells
invariant-loop-cells l = Waiting l.cells l.limit l.initial.d l.d l.n

abbrev pub decreases-loop-cells : goal.decreases-loop-cells
decreases-loop-cells l = l.limit - l.n
