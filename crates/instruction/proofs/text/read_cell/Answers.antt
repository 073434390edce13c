-- The code's row, then the row of that code, to the end of the string.
-- Assumes nothing.
use Rattle.std.proofs.Common.{◌∙◌, Some, ap, sym}
use Rattle.instruction.proofs.TextSteps.{code-wrong, code-unknown, fields-wrong, fields-held, few-format}
use Rattle.instruction.proofs.text.read_cell.Goals as goal

pub returns-in_err-first : goal.returns-in_err-first
returns-in_err-first c = c.from_residual.ensures ∙ code-wrong _ _ (sym c.in_err-first.was ∙ c.parse_fields.ensures)

pub returns-in_err-format_of : goal.returns-in_err-format_of
returns-in_err-format_of c =
    c.from_residual-in_err-format_of.ensures
    ∙ code-unknown _ _ _ (sym c.in_ok-first.was ∙ c.parse_fields.ensures) c.in_err-format_of.ensures

pub parse_all-requires : goal.parse_all-requires
parse_all-requires c = few-format _ c.in_ok-format_of.ensures

pub returns-in_err-rest : goal.returns-in_err-rest
returns-in_err-rest c =
    c.from_residual-in_err-rest.ensures
    ∙ fields-wrong _ _ _ (sym c.in_ok-first.was ∙ c.parse_fields.ensures) c.in_ok-format_of.ensures (sym c.in_err-rest.was ∙ c.parse_all.ensures)

pub returns : goal.returns
returns c =
    ap Some c.cell_of.ensures
    ∙ fields-held _ _ _ (sym c.in_ok-first.was ∙ c.parse_fields.ensures) _ c.in_ok-format_of.ensures (sym c.in_ok-rest.was ∙ c.parse_all.ensures)
