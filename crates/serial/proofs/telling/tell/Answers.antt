-- `tell` meets its contract: a string that is not heard leaves all as it was; another is told by its header and its command.
-- Assumes nothing.
use mathlib.Core.Path.{sym, ◌∙◌}
use Rattle.machine.specs.Strings.{body_of}
use Rattle.serial.proofs.Ends.{ended-length}
use Rattle.serial.proofs.Told.{left-silent, left_as, told-unended, told-unheard, told-ended}
use Rattle.serial.proofs.telling.tell.Goals as goal

pub returns-then-not-ended : goal.returns-then-not-ended
unfolding body_of
returns-then-not-ended c =
    let a = c.args in
    let r =
    left-silent a.machine a.buf.now (told-unended a.b.now a.machine (sym c.ended.ensures ∙ c.if-not-ended.true)) in
    record { machine_value = r.0; answer = r.1 }

pub slice_bounds-s-count : goal.slice_bounds-s-count
unfolding body_of
slice_bounds-s-count c = ended-length c.args.b.now (sym c.ended.ensures ∙ c.if-not-ended.false)

pub returns-then-not-admitted : goal.returns-then-not-admitted
unfolding body_of
returns-then-not-admitted c =
    let a = c.args in
    let r =
    left-silent a.machine a.buf.now
    (told-unheard a.b.now a.machine c.header_in-header.result (sym c.ended.ensures ∙ c.if-not-ended.false)
    c.header_in-header.ensures (sym c.admitted.ensures ∙ c.if-not-admitted.true)) in
    record { machine_value = r.0; answer = r.1 }

pub returns : goal.returns
unfolding body_of
returns c =
    let asked = c.judged-command in
    let a = c.args in
    let r =
    left_as a.buf.now
    (told-ended a.b.now a.machine c.header_in-header.result asked.result (sym c.ended.ensures ∙ c.if-not-ended.false)
    c.header_in-header.ensures asked.ensures.value)
    (c.tell_by.ensures.machine_value, c.tell_by.ensures.answer) in
    record { machine_value = r.0; answer = r.1 }
