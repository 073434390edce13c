-- `giving::tell_travel` meets its contract: zero for no refusal, then how many steps were given.
-- Assumes nothing.
use Rattle.std.proofs.Common.{refl, arith}
use Rattle.laws.proofs.Writing.{put-append}
use Rattle.encoding.specs.Numbers.{number_bytes}
use Rattle.lists.proofs.Small.{travel-carried}
use Rattle.lists.proofs.giving.tell_travel.Goals as goal

pub returns-clause-carries : goal.returns-clause-carries
returns-clause-carries c = λ cells k p.
    travel-carried k _ c.travel-travelled.result (c.travel-travelled.ensures cells k p) refl
    (put-append c.put_byte-begun.ensures c.put_number.ensures)

pub returns-clause-room : goal.returns-clause-room
unfolding number_bytes
returns-clause-room c = omega (arith, c.put_byte-begun.ensures.next, c.put_number.ensures.next)
