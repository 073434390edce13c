-- `judged` meets its contract: a string over 64 bytes is wrong, any other is read.
-- Assumes nothing.
use mathlib.Core.Path.{refl, sym, ◌∙◌}
use borrow.Author.Tests.{lt-ltb, le-ltb}
use Rattle.laws.proofs.Tests.{choose-true, choose-false}
use Rattle.machine.specs.Commands.{placed}
use Rattle.serial.proofs.hearing.judged.Goals as goal

pub returns-then-length-gt-LONGEST : goal.returns-then-length-gt-LONGEST
unfolding placed
returns-then-length-gt-LONGEST c =
    record {
      value = sym (choose-true _ _ _ (lt-ltb 64 _ c.if-length-gt-LONGEST.true));
      named = refl;
    }

pub returns-clause-value : goal.returns-clause-value
unfolding placed
returns-clause-value c = c.read_command.ensures.value ∙ sym (choose-false _ _ _ (le-ltb 64 _ c.if-length-gt-LONGEST.false))
