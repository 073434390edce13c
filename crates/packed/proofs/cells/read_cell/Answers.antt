-- The code, the row of that code, and whether the cell of its numbers has them.
-- Assumes nothing.
use native.Mathlib.Omega.{arith}
use mathlib.Core.Path.{◌∙◌, refl, sym, ap}
use Rattle.packed.specs.Layout.{parsed_as}
use Rattle.packed.specs.Cells.{held}
use Rattle.packed.proofs.CellSteps.{cell-refused, cell-unknown, cell-known, by-refused, by-other, by-same}
use Rattle.packed.proofs.cells.read_cell.Goals as goal

pub returns-in_err-code : goal.returns-in_err-code
returns-in_err-code c = c.from_residual.ensures ∙ sym (cell-refused _ _ (sym c.in_err-code.ensures))

pub returns-then-count-gt6 : goal.returns-then-count-gt6
returns-then-count-gt6 c =
    sym (cell-unknown _ _ _ _ (sym c.in_ok-code.ensures) c.field_count-count.ensures c.if-count-gt6.true)

pub read_row-requires : goal.read_row-requires
read_row-requires c = omega (arith, c.if-count-gt6.false)

pub returns-in_err-next : goal.returns-in_err-next
unfolding parsed_as
returns-in_err-next c =
    let r = c.in_ok-code.code in
    c.from_residual-in_err-next.ensures
    ∙ sym (cell-known _ _ r.value r.next (sym c.in_ok-code.ensures) c.field_count-count.ensures c.if-count-gt6.false
    c.signed_place-signed.ensures c.in_err-next.ensures
    ∙ by-refused r.value refl)

pub returns-then-not-holds_numbers : goal.returns-then-not-holds_numbers
unfolding parsed_as
returns-then-not-holds_numbers c =
    let r = c.in_ok-code.code in
    sym (cell-known _ _ r.value r.next (sym c.in_ok-code.ensures) c.field_count-count.ensures c.if-count-gt6.false
    c.signed_place-signed.ensures c.in_ok-next.ensures
    ∙ by-other r.value _ refl c.holds_numbers.ensures c.if-not-holds_numbers.true)

pub returns : goal.returns
unfolding parsed_as
returns c =
    let r = c.in_ok-code.code in
    sym (cell-known _ _ r.value r.next (sym c.in_ok-code.ensures) c.field_count-count.ensures c.if-count-gt6.false
    c.signed_place-signed.ensures c.in_ok-next.ensures
    ∙ by-same r.value _ refl c.holds_numbers.ensures c.if-not-holds_numbers.false
    ∙ ap (λ x. held x c.in_ok-next.next) (sym c.cell_of-cell.ensures))
