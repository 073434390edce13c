-- `seen::orders::put_parts` meets its contract.
-- Assumes nothing.
use native.Mathlib.Omega.{arith}
use Rattle.laws.proofs.Writing.{put-append}
use Rattle.encoding.specs.Numbers.{number_bytes}
use Rattle.seen.specs.Bytes.{parts_bytes}
use Rattle.seen.proofs.Pieces.{put-room}
use Rattle.seen.proofs.orders.put_parts.Goals as goal

pub put_number-requires : goal.put_number-requires
unfolding number_bytes
put_number-requires c =
    put-room 4
    (put-append c.put_byte-a.ensures (put-append c.put_byte-b.ensures
    (put-append c.put_byte-c.ensures (put-append c.put_byte-d.ensures c.put_number-e.ensures))))
    (omega (arith, c.requires))

pub returns : goal.returns
unfolding parts_bytes
returns c =
    put-append c.put_byte-a.ensures (put-append c.put_byte-b.ensures
    (put-append c.put_byte-c.ensures (put-append c.put_byte-d.ensures
    (put-append c.put_number-e.ensures c.put_number.ensures))))
