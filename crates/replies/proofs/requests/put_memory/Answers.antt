-- `put_memory` meets its contract: the front, BBB, the text of the cell and byte 13.
-- Assumes nothing.
use Rattle.replies.proofs.Rows.{row-printable}
use Rattle.replies.proofs.RequestRows.{memory-ready, cell_room, cell-ended, memory-put}
use Rattle.replies.proofs.requests.put_memory.Goals as goal

pub put_fields-next-requires : goal.put_fields-next-requires
put_fields-next-requires c = row-printable _ _ _ _ _ _ _ (memory-ready _ c.args.at _ c.requires.0 c.requires.1.0)
    c.put_front-place.ensures

pub put_cell-end-requires : goal.put_cell-end-requires
put_cell-end-requires c = cell_room _ _ _ c.args.at _ _ _ _ c.requires.0 c.requires.1.1 c.put_front-place.ensures c.put_fields-next.ensures

pub put_end-requires : goal.put_end-requires
put_end-requires c = cell-ended _ _ _ _ c.args.at _ _ _ _ _ c.requires.0 c.put_front-place.ensures c.put_fields-next.ensures
    c.put_cell-end.ensures

pub returns : goal.returns
returns c = memory-put _ c.args.at _ c.put_front-place.ensures c.put_fields-next.ensures c.put_cell-end.ensures
    c.put_end.ensures
