-- Assumes nothing.
use mathlib.Core.Path.{◌∙◌}
use Rattle.laws.proofs.Joins.{and_both}
use Rattle.machine.specs.Strings.{is_digit}
use Rattle.serial.proofs.hearing.is_digit.Goals as goal

pub returns : goal.returns
unfolding is_digit
returns c = c.is_ascii_digit.ensures.value ∙ and_both _ _
