-- `run_on` meets its contract.
-- Invariant: the steps given so far only moved, and those that remain lead where all of them lead.
-- Assumes nothing.
use Rattle.travel.specs.Plain.{placed}
use Rattle.travel.proofs.Turns.{Turning}
use Rattle.travel.proofs.run_on.Given as goal

abbrev pub invariant-loop-n : goal.invariant-loop-n
invariant-loop-n l =
    Turning l.state l.cell l.limit (placed l.state l.position l.remaining) l.n
