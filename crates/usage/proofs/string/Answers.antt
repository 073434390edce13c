-- `string` meets its contract: what the drive's string does, and of the map one of its three ways.
-- Assumes nothing.
use Rattle.std.proofs.Common.{sym, ◌∙◌}
use Rattle.usage.specs.Updating.Updated.{kept, grown, recounted}
use Rattle.usage.proofs.Keeping.{idle-unused, idle-same}
use Rattle.usage.proofs.Telling.{named, told-update, refused-update}
use Rattle.usage.proofs.string.Goals as goal

pub returns-then-not-has-clause-map : goal.returns-then-not-has-clause-map
returns-then-not-has-clause-map c =
    named c.place_in-at.ensures (kept (idle-unused _ _ _ _ (sym c.has.ensures.value ∙ c.if-not-has.true)))

pub returns-in_err-told-clause-map : goal.returns-in_err-told-clause-map
returns-in_err-told-clause-map c =
    refused-update c.string-2.result _ _ c.args.drive.machine c.string-2.ensures.buffer_after c.args.used.now _ c.in_err-told.was

pub returns-then-loses-clause-map : goal.returns-then-loses-clause-map
returns-then-loses-clause-map c =
    named c.place_in-at.ensures
    (told-update c.string-2.result _ _ c.args.drive.machine c.string-2.ensures.buffer_after c.in_ok-told.was
    (recounted (sym c.has.ensures.value ∙ c.if-not-has.false) (sym c.loses.ensures ∙ c.if-loses.true) c.count.ensures))

pub returns-then-loses-2-clause-map : goal.returns-then-loses-2-clause-map
returns-then-loses-2-clause-map c =
    named c.place_in-at.ensures
    (told-update c.string-2.result _ _ c.args.drive.machine c.string-2.ensures.buffer_after c.in_ok-told.was
    (grown (sym c.has.ensures.value ∙ c.if-not-has.false) (sym c.loses.ensures ∙ c.if-loses.false)
    (sym c.loses-else-loses.ensures ∙ c.if-loses-2.true) c.grow.ensures))

pub returns-else-loses-2-clause-map : goal.returns-else-loses-2-clause-map
returns-else-loses-2-clause-map c =
    named c.place_in-at.ensures
    (told-update c.string-2.result _ _ c.args.drive.machine c.string-2.ensures.buffer_after c.in_ok-told.was
    (kept (idle-same _ _ _ _ (sym c.loses.ensures ∙ c.if-loses.false) (sym c.loses-else-loses.ensures ∙ c.if-loses-2.false))))
