-- Invariant: the place is that in the names left, counted on from the names passed. Measure: the names left.
-- Assumes nothing.
use Rattle.std.proofs.Common.{List, sym, ap, ◌∙◌, arith}
use Rattle.script.specs.Words.{part_at, words_of, same_bytes}
use Rattle.script.proofs.Naming.{same_as, place_here, place-next, place_end}
use Rattle.script.proofs.words.place.Goals as goal

pub returns-then-same : goal.returns-then-same
unfolding part_at
returns-then-same c =
    let a = c.args in
    let l = c.loop-k in
    let part = c.part in
    let same = c.same in
    let test = same_as same.result part.result.now a.name.now same.ensures.0 same.ensures.1 in
    let same = ap (λ (x : List _). same_bytes x a.name.now) (sym part.ensures) ∙ sym test ∙ c.if-same.true in
    omega (arith, place_here a.name.now (words_of a.list.now) l.k (omega arith) same)

pub loop-k-preserved : goal.loop-k-preserved
unfolding part_at
loop-k-preserved c =
    let a = c.args in
    let l = c.loop-k in
    let part = c.part in
    let same = c.same in
    let test = same_as same.result part.result.now a.name.now same.ensures.0 same.ensures.1 in
    let other = ap (λ (x : List _). same_bytes x a.name.now) (sym part.ensures) ∙ sym test ∙ c.if-same.false in
    (l.invariant.0, omega (arith, place-next a.name.now (words_of a.list.now) l.k (omega arith) other))

pub returns : goal.returns
returns c =
    let a = c.args in
    let l = c.loop-k in
    omega (arith, place_end a.name.now (words_of a.list.now) l.k (omega arith))
