-- `answered` meets its contract: the test on the address picks the same case.
-- Assumes nothing.
use mathlib.Core.Path.{sym, ◌∙◌}
use Rattle.laws.proofs.Tests.{choose-true, choose-false}
use Rattle.laws.proofs.Writing.{put-none, put_as}
use Rattle.serial.proofs.telling.answered.Goals as goal

pub returns-then-to_every : goal.returns-then-to_every
returns-then-to_every c = put_as (sym (choose-true _ _ _ (sym c.to_every.ensures ∙ c.if-to_every.true))) (put-none _ 0)

pub returns : goal.returns
returns c = put_as (sym (choose-false _ _ _ (sym c.to_every.ensures ∙ c.if-to_every.false)))
    c.put_answer.ensures
