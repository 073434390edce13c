-- One group at once; the others by `read_groups`.
-- Assumes nothing.
use mathlib.Core.Path.{sym, ◌∙◌}
use lib.ListN.{length}
use borrow.Author.Tests.{ltb-false}
use Rattle.varint.proofs.Turns.{number_cut, number-one}
use Rattle.varint.proofs.groups.read_number.Goals as goal

pub returns-in_err-b : goal.returns-in_err-b
returns-in_err-b c =
    let a = c.args in
    c.from_residual.ensures ∙ sym (number_cut a.s.now a.from (ltb-false a.from (length a.s.now) (sym c.in_err-b.ensures.lookup.0)))

pub returns-then-b-lt128 : goal.returns-then-b-lt128
returns-then-b-lt128 c =
    let e = c.in_ok-b.ensures.lookup.3 in
    let b = e.1 0 in
    sym (rw (c.from.ensures, b) (number-one c.args.s.now c.args.from e.0 (rw b at c.if-b-lt128.true)))
