-- The code, then the row of that code.
-- Assumes nothing.
use Rattle.laws.proofs.Writing.{put-append, put_as}
use Rattle.packed.proofs.CellSteps.{code-room, row-writable, bytes-laid}
use Rattle.packed.proofs.cells.put_cell.Goals as goal

pub put_number-next-requires : goal.put_number-next-requires
put_number-next-requires c =
    code-room _ _ _ _ c.requires c.code-code.ensures

pub put_row-requires : goal.put_row-requires
put_row-requires c =
    row-writable _ _ _ _ _ _ _ _ _ c.requires c.code-code.ensures c.field_count.ensures c.signed_place.ensures
    c.numbers.ensures c.put_number-next.ensures

pub returns : goal.returns
returns c =
    put_as (bytes-laid _ _ _ _ _ c.code-code.ensures c.field_count.ensures c.signed_place.ensures c.numbers.ensures)
    (put-append c.put_number-next.ensures c.put_row.ensures)
