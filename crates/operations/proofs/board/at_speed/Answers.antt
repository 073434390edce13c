-- `board::at_speed` meets its contract: the event at the present cell.
-- Assumes nothing.
use mathlib.Core.Path.{ap, ◌∙◌}
use borrow.Author.Rules.{rules}
use Rattle.operations.specs.Results.{acted_on}
use Rattle.operations.proofs.AtCell.{at-speed-as}
use Rattle.operations.proofs.board.at_speed.Goals as goal

pub returns : goal.returns
returns c = ap (acted_on _) c.at_speed.ensures ∙ at-speed-as _ c.present_cell.ensures.state_value
