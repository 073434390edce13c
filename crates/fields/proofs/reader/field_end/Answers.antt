-- `fields::reader::field_end` meets its contract.
-- Invariant: the place, and what is left before the next comma, come to the end of the field. Measure: the bytes left.
-- Assumes nothing.
use native.Mathlib.Omega.{arith}
use Rattle.fields.proofs.Reading.{field_length-here, field_length-step, field_length-end}
use Rattle.fields.proofs.reader.field_end.Goals as goal

pub returns-then-s-i-eq44 : goal.returns-then-s-i-eq44
returns-then-s-i-eq44 c =
    let s = c.args.s.now in
    omega (arith, field_length-here s c.loop-i.i (omega arith) c.if-s-i-eq44.true)

pub loop-i-preserved : goal.loop-i-preserved
loop-i-preserved c =
    let s = c.args.s.now in
    omega (arith, field_length-step s c.loop-i.i (omega arith) c.if-s-i-eq44.false)

pub returns : goal.returns
returns c = omega (arith, field_length-end c.args.s.now c.loop-i.i (omega arith))
