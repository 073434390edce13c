-- `put_row` meets its contract: the front, the row and byte 13.
-- Assumes nothing.
use Rattle.replies.proofs.Writing.{put-request}
use Rattle.replies.proofs.Rows.{row-printable, row-ended}
use Rattle.replies.proofs.pieces.put_row.Goals as goal

pub put_fields-end-requires : goal.put_fields-end-requires
put_fields-end-requires c = row-printable _ _ _ _ _ _ _ c.requires c.put_front-at.ensures

pub put_end-requires : goal.put_end-requires
put_end-requires c = row-ended _ _ _ _ _ _ _ _ _ c.requires c.put_front-at.ensures c.put_fields-end.ensures

pub returns : goal.returns
returns c = put-request _ _ c.put_front-at.ensures c.put_fields-end.ensures c.put_end.ensures
