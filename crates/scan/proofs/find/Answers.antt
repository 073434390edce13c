use Rattle.std.proofs.Common.{◌≡◌, sym, ◌∙◌, arith}
use Rattle.scan.proofs.Searching.{found, passed, found_none}
use Rattle.scan.proofs.find.Goals as goal

pub returns-then-s-at-clause-place : goal.returns-then-s-at-clause-place
returns-then-s-at-clause-place c =
    sym
    (c.loop-at.invariant
    ∙ found _ _ _ _ c.loop-at-test.true c.requires.within c.if-s-at.true)

pub loop-at-preserved : goal.loop-at-preserved
loop-at-preserved c =
    c.loop-at.invariant ∙ passed _ _ _ _ c.loop-at-test.true c.requires.within c.if-s-at.false

pub returns-clause-place : goal.returns-clause-place
returns-clause-place c =
    let end : c.loop-at.at ≡ c.args.to = omega arith in
    sym (c.loop-at.invariant ∙ rw end (found_none _ _ _))
