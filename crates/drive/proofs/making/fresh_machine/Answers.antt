-- `making::fresh_machine` meets its contract: 131 cells of the same content beside the fresh state.
-- Assumes nothing.
use borrow.Author.Rules.{rules}
use Rattle.machine.specs.Record.{fresh}
use Rattle.drive.proofs.making.fresh_machine.Goals as goal

pub returns : goal.returns
unfolding fresh
returns c = rw c.fresh_state-state.ensures
