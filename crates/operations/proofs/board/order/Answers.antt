-- `board::order` meets its contract: the order at the present cell.
-- Assumes nothing.
use borrow.Author.Rules.{rules}
use Rattle.operations.proofs.Acting.{order-at}
use Rattle.operations.proofs.board.order.Goals as goal

pub returns : goal.returns
returns c = order-at _ _ c.present_cell.ensures.state_value c.board_order.ensures
