-- `seen::numbers::put_number` meets its contract.
-- Assumes nothing.
use Rattle.encoding.specs.Numbers.{number_bytes}
use Rattle.seen.proofs.Pieces.{put_four}
use Rattle.seen.proofs.numbers.put_number.Goals as goal

pub returns : goal.returns
unfolding number_bytes
returns c = put_four _ _ _ _ _ _
