-- The code's row, then the row of that code.
-- Assumes nothing.
use Rattle.instruction.proofs.TextSteps.{printable-code, printable-fields, shown-put, never-unknown}
use Rattle.instruction.proofs.text.put_cell.Goals as goal

pub put_fields-next-requires : goal.put_fields-next-requires
put_fields-next-requires c = printable-code _ _ _ _ c.requires c.code-code.ensures

pub returns-in_default : goal.returns-in_default
returns-in_default c = absurd (never-unknown c.args.cell _ c.code-code.ensures c.in_default.ensures)

pub put_fields-requires : goal.put_fields-requires
put_fields-requires c =
    printable-fields _ _ _ _ c.code-code.ensures c.in-Some.ensures c.numbers.ensures c.requires c.put_fields-next.ensures

pub returns : goal.returns
returns c =
    shown-put _ _ _ _ c.code-code.ensures c.in-Some.ensures c.numbers.ensures c.put_fields-next.ensures c.put_fields.ensures
