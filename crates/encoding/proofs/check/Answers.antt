-- `check` meets its contract: what is left of the list at each word decides as the whole list does.
-- Assumes nothing.
use Rattle.encoding.proofs.Turns.{checked-start, checked-end, no_word, cut_short, short-buffer, passed}
use Rattle.encoding.proofs.check.Goals as goal

pub loop-at-init : goal.loop-at-init
loop-at-init c = checked-start _ _

pub returns-then-size-eq0 : goal.returns-then-size-eq0
returns-then-size-eq0 c =
    no_word c.loop-at.invariant c.loop-at-test.true c.head_of-head.ensures c.size-size.ensures c.if-size-eq0.true

pub returns-then-list-at : goal.returns-then-list-at
returns-then-list-at c =
    cut_short c.loop-at.invariant c.loop-at-test.true c.head_of-head.ensures c.size-size.ensures c.if-size-eq0.false c.if-list-at.true

pub returns-then-left-room : goal.returns-then-left-room
returns-then-left-room c =
    short-buffer c.loop-at.invariant c.loop-at-test.true c.head_of-head.ensures c.size-size.ensures c.room-room.ensures c.if-size-eq0.false c.if-list-at.false c.if-left-room.true

pub loop-at-preserved : goal.loop-at-preserved
loop-at-preserved c =
    passed c.loop-at.invariant c.loop-at-test.true c.head_of-head.ensures c.size-size.ensures c.room-room.ensures c.if-size-eq0.false c.if-list-at.false c.if-left-room.false

pub returns : goal.returns
returns c = checked-end c.loop-at.invariant c.loop-at-test.false
