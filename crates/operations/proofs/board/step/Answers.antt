-- `board::step` meets its contract: the event at the present cell.
-- Assumes nothing.
use mathlib.Core.Path.{ap, ◌∙◌}
use borrow.Author.Rules.{rules}
use Rattle.operations.specs.Results.{acted_on}
use Rattle.operations.proofs.AtCell.{stepped-as}
use Rattle.operations.proofs.board.step.Goals as goal

pub returns : goal.returns
returns c = ap (acted_on _) c.step.ensures ∙ stepped-as _ c.present_cell.ensures.state_value
