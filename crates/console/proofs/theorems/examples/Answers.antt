-- `console::theorems::examples` meets its contract: what the console writes for 01's inputs.
-- Assumes nothing.
use Rattle.console.proofs.Examples.{examples-hold}
use Rattle.console.proofs.theorems.examples.Goals as goal

pub returns : goal.returns
returns c = examples-hold
