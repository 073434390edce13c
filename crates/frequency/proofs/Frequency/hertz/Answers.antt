-- `Frequency::hertz` meets its contract: the formula gives what stands in the table.
-- Assumes nothing.
use mathlib.Core.Path.{sym}
use Rattle.frequency.proofs.Placing.{hertz-low, hertz-high, hertz-past}
use Rattle.frequency.proofs.Frequency.hertz.Goals as goal

pub returns-then-k-lt309 : goal.returns-then-k-lt309
returns-then-k-lt309 c = sym (hertz-low c.args.self c.if-k-lt309.true)

pub returns-then-k-lt-COUNT : goal.returns-then-k-lt-COUNT
returns-then-k-lt-COUNT c = sym (hertz-high c.args.self c.if-k-lt309.false c.if-k-lt-COUNT.true)

pub returns : goal.returns
returns c = sym (hertz-past c.args.self c.if-k-lt-COUNT.false)
