-- `seen::orders::put_shown` meets its contract.
-- Assumes nothing.
use native.Mathlib.Omega.{arith}
use mathlib.Core.Path.{ap}
use Rattle.laws.proofs.Writing.{put-append, put_as}
use Rattle.encoding.specs.Numbers.{number_bytes}
use Rattle.seen.specs.Bytes.{parts_bytes, shown_bytes}
use Rattle.seen.proofs.Pieces.{put-room}
use Rattle.seen.proofs.orders.put_shown.Goals as goal

pub put_number-requires : goal.put_number-requires
unfolding parts_bytes number_bytes
put_number-requires c =
    put-room 4 c.put_parts-next.ensures (omega (arith, c.requires))

pub returns : goal.returns
unfolding shown_bytes
returns c =
    let flags = c.output_bits.ensures in
    put-append (put_as (ap parts_bytes c.parts_of.ensures) c.put_parts-next.ensures)
    (put_as (ap number_bytes flags) c.put_number.ensures)
