-- `words::count` meets its contract: a separator begins one part more.
-- Assumes nothing.
use Rattle.std.proofs.Common.{arith}
use Rattle.script.proofs.Parts.{count-separator, count-other, count-end}
use Rattle.script.proofs.words.count.Goals as goal
use Rattle.script.proofs.words.count.Goals.{then-byte-separator, else-byte-separator}

pub loop-byte-preserved : goal.loop-byte-preserved
loop-byte-preserved c =
    let a = c.args in
    let i = c.loop-byte.byte-index in
    elim c.if-byte-separator.branch [
      | then-byte-separator w ↦ (omega arith, omega (arith, count-separator a.separator i a.text.now (omega arith) w.if-byte-separator.true))
      | else-byte-separator w ↦ (omega arith, omega (arith, count-other a.separator i a.text.now (omega arith) w.if-byte-separator.false))
    ]

pub returns : goal.returns
returns c = omega (arith, count-end c.args.separator c.loop-byte.byte-index c.args.text.now (omega arith))
