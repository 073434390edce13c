-- `writes::keep_all` meets its contract: one word more at each turn.
-- Assumes nothing.
use Rattle.std.proofs.Common.{ℕ, ◌+◌, ◌<◌, ◌≤◌, List, length, sym, ap, ◌∙◌, arith}
use Rattle.laws.proofs.Joins.{both-on, both-false-left}
use Rattle.script.specs.Words.{words_of}
use Rattle.script.specs.Numbers.{integer_of}
use Rattle.script.specs.Writes.{is_integer, filled}
use Rattle.script.proofs.Turns.{rest, are_integers-turn, are_integers-end, rest_end, rest_put, rest-stop}
use Rattle.script.proofs.writes.keep_all.Goals as goal

pub returns-then-not-keep : goal.returns-then-not-keep
unfolding filled
returns-then-not-keep c =
    let a = c.args in
    let l = c.loop-k in
    let keep = c.keep in
    let ws = words_of a.line.text.now in
    let word = ap integer_of c.word.ensures in
    let inside : l.k < length ws = omega (arith, a.line.counted) in
    let bad = sym keep.ensures.value ∙ c.if-not-keep.true in
    let stop = are_integers-turn ws l.k inside ∙ both-false-left _ _ (ap is_integer (sym word) ∙ bad) in
    record { value = sym (l.invariant.0 ∙ stop); numbers = keep.ensures.numbers ∙ rest-stop ws l.numbers l.k _ word inside bad ∙ sym l.invariant.1 }

pub loop-k-preserved : goal.loop-k-preserved
loop-k-preserved c =
    let a = c.args in
    let l = c.loop-k in
    let keep = c.keep in
    let ws = words_of a.line.text.now in
    let word = ap integer_of c.word.ensures in
    let inside : l.k < length ws = omega (arith, a.line.counted) in
    let good = sym keep.ensures.value ∙ c.if-not-keep.false in
    let more = are_integers-turn ws l.k inside ∙ both-on _ _ (ap is_integer (sym word) ∙ good) in (
      l.invariant.0 ∙ more,
      l.invariant.1
          ∙ rest_put ws l.numbers l.k _ word (omega arith) inside good
          ∙ ap (λ (n : List ℕ). rest ws n (l.k + 1)) (sym keep.ensures.numbers),
    )

pub returns : goal.returns
unfolding filled
returns c =
    let a = c.args in
    let l = c.loop-k in
    let ws = words_of a.line.text.now in
    let past : length ws ≤ l.k = omega (arith, a.line.counted) in
    record { value = sym (l.invariant.0 ∙ are_integers-end ws l.k past); numbers = sym (l.invariant.1 ∙ rest_end ws l.numbers l.k past) }
