-- `console::server::Server::serve` meets its contract.
-- Invariant: the console over the bytes left, from where it stands, is the console over the part. Measure: the bytes of the part that are left.
-- Assumes nothing.
use Prim.Native.Nat.{◌-◌}
use lib.ListN.{length}
use Rattle.console.specs.Serving.{at_work}
use Rattle.console.proofs.Going.{Going}
use Rattle.console.proofs.server.Server.serve.Given as goal

abbrev pub invariant-loop-at : goal.invariant-loop-at
invariant-loop-at l = Going l.part (at_work l.initial.self) l.self l.written l.at

abbrev pub decreases-loop-at : goal.decreases-loop-at
decreases-loop-at l = length l.part - l.at
