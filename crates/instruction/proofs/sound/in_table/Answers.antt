-- `sound::in_table` meets its contract: the places of the table, and no other, have a frequency.
-- Assumes nothing.
use Rattle.instruction.proofs.TestsFields.{places-valid}
use Rattle.instruction.proofs.sound.in_table.Goals as goal

pub returns : goal.returns
returns c = places-valid c.args.f
