-- `sound::stored` meets its contract: every position is one of 32 bits.
-- Assumes nothing.
use mir.Syntax.{w32}
use mir.Val.{Fits}
use borrow.Author.Rules.{rules}
use Rattle.laws.specs.Tests.{both}
use Rattle.laws.proofs.Joins.{or-either}
use Rattle.instruction.proofs.TestsFields.{valid-position}
use Rattle.instruction.proofs.sound.stored.Goals as goal

pub returns : goal.returns
unfolding both
returns c =
    let f : Fits w32 c.args.p.0 = search rules in
    rw (valid-position c.args.p f.fits) (or-either _ _)
