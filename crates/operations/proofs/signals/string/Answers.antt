-- `signals::string` meets its contract: a buffer too short, and a string told.
-- Assumes nothing.
use borrow.Author.Rules.{rules}
use borrow.Author.Tests.{lt-ltb, le-ltb}
use Rattle.operations.proofs.Acting.{buffer-refused, string-told}
use Rattle.operations.proofs.signals.string.Goals as goal

pub returns-then-buffer-lt64 : goal.returns-then-buffer-lt64
returns-then-buffer-lt64 c = buffer-refused _ _ _ (lt-ltb _ _ c.if-buffer-lt64.true)

pub returns : goal.returns
returns c =
    let e = c.tell-told.ensures in
    let room = le-ltb _ _ c.if-buffer-lt64.false in
    string-told _ _ _ _ room e.machine_value e.answer.0 e.answer.1
