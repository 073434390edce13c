-- `console::run` is safe and ends.
-- Invariant: the buffers have their places, and some input has brought the program where it is.
-- Assumes nothing.
use mathlib.Core.Path.{◌≡◌}
use lib.ListN.{length}
use Rattle.console.specs.Serving.{Reachable}
use Rattle.console.proofs.run.Given as goal

abbrev pub invariant-loop : goal.invariant-loop
invariant-loop g l = (length l.part ≡ 1024) × Reachable l.server
