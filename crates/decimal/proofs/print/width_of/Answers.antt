-- A number below 10 ^ 5 has one of the first five widths, any other one of the last five.
-- Assumes nothing.
use mathlib.Core.Path.{◌∙◌, refl, sym}
use Rattle.decimal.specs.Printing.{width}
use Rattle.decimal.proofs.Turns.{width-past, width-within}
use Rattle.decimal.proofs.print.width_of.Goals as goal

pub returns-then-n : goal.returns-then-n
unfolding width
returns-then-n c = c.width_among.ensures ∙ sym (width-within 4 5 1 c.args.n 100000 refl c.if-n.true)

pub returns : goal.returns
unfolding width
returns c =
    c.width_among-2.ensures
    ∙ sym (width-past 4 9 4 1 5 6 c.args.n 100000 refl refl refl refl c.if-n.false)
