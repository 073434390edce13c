-- `time::wait` meets its contract: a budget out of range, and one that is given.
-- Assumes nothing.
use mathlib.Core.Path.{sym, ◌∙◌}
use borrow.Author.Rules.{rules}
use Rattle.laws.proofs.Tests.{choose-true, choose-false}
use Rattle.machine.specs.Calls.{act}
use Rattle.operations.specs.Results.{number_of, waited_as}
use Rattle.operations.proofs.Acting.{ran-as}
use Rattle.operations.proofs.time.wait.Goals as goal

pub returns-then-not-within : goal.returns-then-not-within
unfolding act number_of waited_as
returns-then-not-within c =
    let out = sym c.within.ensures ∙ c.if-not-within.true in
    sym (choose-false _ _ _ out)

pub returns : goal.returns
unfolding act
returns c =
    let fits = c.within in
    let given = sym fits.ensures ∙ c.if-not-within.false in
    ran-as _ _ c.wait-ran.ensures ∙ sym (choose-true _ _ _ given)
