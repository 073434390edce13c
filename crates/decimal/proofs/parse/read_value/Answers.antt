-- Each byte is a digit or ends the reading; then the value is converted to 32 bits.
-- Assumes nothing.
use Rattle.std.proofs.Common.{◌∙◌, ◌-◌, get_or, sym, arith}
use Rattle.decimal.proofs.Turns.{value-below, value-bad, value-next, value-end, value_fits}
use Rattle.decimal.proofs.parse.read_value.Goals as goal

pub returns-then-not-is_ascii_digit : goal.returns-then-not-is_ascii_digit
returns-then-not-is_ascii_digit c =
    let l = c.loop-b in
    sym (l.invariant.same ∙ value-bad l.value c.args.s.now l.b-index (omega arith) c.if-not-is_ascii_digit.ensures.cases)

pub loop-b-preserved : goal.loop-b-preserved
loop-b-preserved c =
    let l = c.loop-b in
    let s = c.args.s.now in
    let digit = c.if-not-is_ascii_digit.ensures.cases in
    let below = value-below l.value l.b-index (get_or s l.b-index 0 - 48) l.invariant.below (omega arith) in
    let same = value-next l.value s l.b-index (omega arith) digit.0 digit.1 in
    record { below = below; same = l.invariant.same ∙ same }

pub returns : goal.returns
returns c =
    let l = c.loop-b in
    let s = c.args.s.now in
    c.ok.ensures.value ∙ value_fits l.value _ c.try_from.ensures
    ∙ sym (l.invariant.same ∙ value-end l.value s l.b-index (omega arith))
