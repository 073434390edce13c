-- The sign, and the magnitude after it: one case for each sign.
-- Assumes nothing.
use native.Mathlib.Omega.{arith}
use mathlib.Core.Path.{ap, sym}
use lib.ListN.{length, length-set}
use Rattle.laws.proofs.Writing.{put_byte, put-append, put_as}
use Rattle.decimal.proofs.Printing.{signed-plus, signed-minus}
use Rattle.decimal.proofs.print.put_signed.Goals as goal

pub bounds-buf-at : goal.bounds-buf-at
bounds-buf-at c = omega (arith, ap length (signed-plus c.args.bits c.if-bits-lt2147483648.true))

pub put_decimal-requires : goal.put_decimal-requires
put_decimal-requires c = simp length-set (omega (arith, ap length (signed-plus c.args.bits c.if-bits-lt2147483648.true)))

pub bounds-buf-at-else-bits-lt2147483648 : goal.bounds-buf-at-else-bits-lt2147483648
bounds-buf-at-else-bits-lt2147483648 c = omega (arith, ap length (signed-minus c.args.bits c.if-bits-lt2147483648.false))

pub put_decimal-requires-else-bits-lt2147483648 : goal.put_decimal-requires-else-bits-lt2147483648
put_decimal-requires-else-bits-lt2147483648 c = simp length-set (omega (arith, ap length (signed-minus c.args.bits c.if-bits-lt2147483648.false)))

pub returns-then-bits-lt2147483648 : goal.returns-then-bits-lt2147483648
returns-then-bits-lt2147483648 c =
    let a = c.args in
    put_as (sym (signed-plus a.bits c.if-bits-lt2147483648.true))
    (put-append (put_byte a.buf.now 43 a.at) c.put_decimal.ensures)

pub returns-else-bits-lt2147483648 : goal.returns-else-bits-lt2147483648
returns-else-bits-lt2147483648 c =
    let a = c.args in
    put_as (sym (signed-minus a.bits c.if-bits-lt2147483648.false))
    (put-append (put_byte a.buf.now 45 a.at) c.put_decimal-else-bits-lt2147483648.ensures)
