-- `place` meets its contract: below 310 a value is its own frequency, from 4800 on the place is the last, and between them the divisor says it.
-- Assumes nothing.
use native.Mathlib.Omega.{arith}
use mathlib.Core.Path.{sym}
use Rattle.frequency.proofs.Placing.{place-first, place-low, place-high, place-last}
use Rattle.frequency.proofs.place.Goals as goal

pub returns-then-value-lt2 : goal.returns-then-value-lt2
returns-then-value-lt2 c = sym (place-first _ c.if-value-lt2.true)

pub returns-then-value-lt310 : goal.returns-then-value-lt310
returns-then-value-lt310 c = sym (place-low c.args.value (omega arith) c.if-value-lt310.true)

pub returns-then-value-gt4799 : goal.returns-then-value-gt4799
returns-then-value-gt4799 c = sym (place-last _ c.if-value-gt4799.true)

pub returns : goal.returns
returns c = sym (place-high c.args.value (omega arith) (omega arith)).1
