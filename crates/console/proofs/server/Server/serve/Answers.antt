-- `console::server::Server::serve` meets its contract.
-- Invariant: the console over the bytes left, from where it stands, is the console over the part. Measure: the bytes of the part that are left.
-- Assumes nothing.
use Prim.Native.Nat.{ℕ}
use native.Mathlib.Omega.{arith}
use mathlib.Core.Path.{refl, sym, ap, ◌∙◌}
use mathlib.Core.List.{[]}
use lib.ListN.{length}
use Rattle.std.specs.Prelude.{Some}
use Rattle.console.proofs.Turns.{turn-ended, turn-all, next-some, next-none}
use Rattle.console.proofs.Going.{going-first, going_next, going-last, going-rest}
use Rattle.console.proofs.server.Server.serve.Goals as goal

pub loop-at-init : goal.loop-at-init
loop-at-init c = going-first _ _ c.requires

pub take_string-taken-requires : goal.take_string-taken-requires
take_string-taken-requires c = (c.loop-at.invariant.place, c.loop-at.self.place)

pub invariant_of-self-clause-kept : goal.invariant_of-self-clause-kept
invariant_of-self-clause-kept c =
    let t = c.take_string-taken in
    (turn-all _ _ c.loop-at.self.drive.machine _ _ [] _ _ t.ensures (next-none t.result.next c.if-is_none.ensures)).within

pub returns-then-is_none : goal.returns-then-is_none
returns-then-is_none c =
    let t = c.take_string-taken in
    going-rest t.result _ c.loop-at.invariant t.ensures (next-none t.result.next c.if-is_none.ensures) refl refl refl

pub answer-written-requires : goal.answer-written-requires
answer-written-requires c =
    let g = c.loop-at.invariant in
    omega (arith, g.filled, c.loop-at-test.true, g.short)

pub loop-at-smaller : goal.loop-at-smaller
loop-at-smaller c =
    let s = c.take_string-taken in
    let e = next-some s.result.next (length c.args.part.now) c.if-is_none.ensures ∙ ap (λ (n : ℕ). Some n) (sym c.unwrap_or-at.ensures) in
    let t = turn-ended _ _ c.loop-at.self.drive.machine _ _ [] _ _ _ s.ensures e in
    omega (arith, t.later, t.within)

pub loop-at-preserved : goal.loop-at-preserved
loop-at-preserved c =
    let a = c.answer-written in
    let s = c.take_string-taken in
    let e = next-some s.result.next (length c.args.part.now) c.if-is_none.ensures ∙ ap (λ (n : ℕ). Some n) (sym c.unwrap_or-at.ensures) in
    going_next s.new.string s.result _ a.new.self a.result c.loop-at.invariant c.loop-at-test.true s.ensures e a.ensures

pub returns : goal.returns
returns c = going-last c.loop-at.invariant c.loop-at-test.false
