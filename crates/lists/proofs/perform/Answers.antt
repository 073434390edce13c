-- `perform` meets its contract: an unsound drive, a list that is refused, one that is carried out.
-- Assumes nothing.
use Rattle.std.proofs.Common.{sym, ◌∙◌, rules}
use Rattle.lists.proofs.Performances.{unsound-performed, refused-performed, carried-performed}
use Rattle.lists.proofs.perform.Goals as goal

pub returns-then-not-sound : goal.returns-then-not-sound
returns-then-not-sound c = unsound-performed _ _ _ (sym c.sound.ensures ∙ c.if-not-sound.true)

pub returns-in_err-check : goal.returns-in_err-check
returns-in_err-check c =
    refused-performed _ _ _ _ (sym c.sound.ensures ∙ c.if-not-sound.false) c.check.ensures c.in_err-check.was c.from_residual.ensures.1

pub carry-carried-requires-clause-list_value : goal.carry-carried-requires-clause-list_value
carry-carried-requires-clause-list_value c = sym c.check.ensures ∙ c.in_ok-check.was

pub returns : goal.returns
returns c =
    let r = c.carry-carried.ensures in
    carried-performed _ _ _ (sym c.sound.ensures ∙ c.if-not-sound.false) (sym c.check.ensures ∙ c.in_ok-check.was) r.machine_value_2 r.bytes r.room
