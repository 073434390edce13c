-- `nets::gather_wide` meets its contract: the upper digits are gathered, then nine more.
-- Assumes nothing.
use Rattle.std.proofs.Common.{◌^◌, ◌<◌, arith, rules}
use Rattle.lines.proofs.Pieces.{gathered-then}
use Rattle.observed.proofs.Texts.{gathered-as}
use Rattle.observed.proofs.WideNumbers.{wide-decimal, wide-append}
use Rattle.observed.proofs.nets.+gather_wide.Goals as goal

pub returns-then-value-lt-BILLION : goal.returns-then-value-lt-BILLION
returns-then-value-lt-BILLION t c =
    let v = c.args.value in
    let small : v < 10 ^ 10 = omega (arith, c.if-value-lt-BILLION.true) in
    gathered-as (wide-decimal v small) c.gather_number.ensures

pub returns : goal.returns
returns t c =
    let v = c.args.value in
    let fits : v < 2 ^ 64 = search rules in
    gathered-as (wide-append v c.if-value-lt-BILLION.false (omega (arith, fits)))
    (gathered-then c.gather_wide-next.ensures c.gather_nine.ensures)
