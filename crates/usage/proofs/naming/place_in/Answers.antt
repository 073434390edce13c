-- `place_in` meets its contract.
-- Assumes nothing.
use Rattle.machine.specs.Strings.{body_of}
use Rattle.usage.specs.Updating.{place_in}
use Rattle.usage.proofs.Named.{named-nothing, named-wrong, named-right}
use Rattle.usage.proofs.naming.place_in.Goals as goal

pub returns-then-n-eq0 : goal.returns-then-n-eq0
returns-then-n-eq0 c = named-nothing _ c.if-n-eq0.true

pub returns-in_default : goal.returns-in_default
unfolding place_in body_of
returns-in_default c = named-wrong c.in_default.ensures

pub returns : goal.returns
unfolding place_in body_of
returns c = named-right c.in-Some.ensures c.place_of.ensures
