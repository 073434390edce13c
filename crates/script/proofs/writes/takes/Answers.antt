-- `writes::takes` meets its contract: a code above 99 is none, and a known one takes as many numbers as its format has fields.
-- Assumes nothing.
use Rattle.std.proofs.Common.{ℕ, eqb, length, ap, ◌∙◌, arith}
use Rattle.format.proofs.Entries.{unknown-format, known-format}
use Rattle.script.proofs.RawWrites.{known-large, takes-any, takes_one, takes-fields}
use Rattle.script.proofs.writes.takes.Goals as goal

pub returns-then-code-gt99 : goal.returns-then-code-gt99
returns-then-code-gt99 c =
    let a = c.args in
    takes-any a.code a.count (known-large a.code c.if-code-gt99.true)

pub returns-in-Some-empty : goal.returns-in-Some-empty
returns-in-Some-empty c =
    let a = c.args in
    let k = known-format a.code c.in-Some-empty.ensures in
    takes_one a.code a.count k.0 (omega (arith, c.in-Some-empty.len_below, ap length k.1))

pub returns-in-Some : goal.returns-in-Some
returns-in-Some c =
    let a = c.args in
    let k = known-format a.code c.in-Some.ensures in
    ap (λ (n : ℕ). eqb a.count n) (ap length k.1)
    ∙ takes-fields a.code a.count k.0 (λ z. omega (arith, c.in-Some.len_at_least, ap length k.1))

pub returns-in-None : goal.returns-in-None
returns-in-None c =
    let a = c.args in
    takes-any a.code a.count (unknown-format a.code c.in-None.ensures)
