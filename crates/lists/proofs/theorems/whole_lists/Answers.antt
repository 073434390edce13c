-- `whole_lists` meets its contract: calls written as a list come to what they come to one by one.
-- Assumes nothing.
use Rattle.lists.proofs.WholeLists.{whole-lists}
use Rattle.lists.proofs.theorems.whole_lists.Goals as goal

pub returns : goal.returns
returns c = whole-lists
