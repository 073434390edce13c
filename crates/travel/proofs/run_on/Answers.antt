-- `run_on` meets its contract.
-- Invariant: the steps given so far only moved, and those that remain lead where all of them lead. Measure: the steps left of the limit.
-- Assumes nothing.
use Prim.Native.Nat.{◌<◌}
use native.Mathlib.Omega.{arith}
use borrow.Author.Rules.{rules}
use Rattle.travel.proofs.Turns.{turning-start, spent-handed, looked, plain_turn, last_turn}
use Rattle.travel.proofs.run_on.Goals as goal

pub loop-n-init : goal.loop-n-init
loop-n-init c =
    let f : c.args.limit < 4294967296 = search rules in
    turning-start _ _ _ f

pub returns-then-meets-is_last : goal.returns-then-meets-is_last
returns-then-meets-is_last c =
    let l = c.loop-n in
    let v =
    looked c.args.state c.args.cell l.position l.remaining c.profile-profile.ensures c.backward_in-backward.ensures
    c.stepped-to.ensures c.meets.ensures c.is_last.ensures in
    last_turn l.invariant c.requires c.loop-n-test.true v c.placed-here.ensures c.step.ensures c.if-meets-is_last.true

pub loop-n-preserved : goal.loop-n-preserved
loop-n-preserved c =
    let l = c.loop-n in
    let v =
    looked c.args.state c.args.cell l.position l.remaining c.profile-profile.ensures c.backward_in-backward.ensures
    c.stepped-to.ensures c.meets.ensures c.is_last.ensures in
    plain_turn l.invariant c.requires c.loop-n-test.true v c.lessened-remaining.ensures c.if-meets-is_last.false

pub returns : goal.returns
returns c = spent-handed c.loop-n.invariant (omega (arith, c.loop-n-test.false)) c.placed.ensures
