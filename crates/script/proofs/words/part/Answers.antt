-- `script::words::part` meets its contract: from where the part begins to the next separator.
-- Assumes nothing.
use Rattle.std.proofs.Common.{ℕ, ◌-◌, ◌<◌, take, drop, sym, ap, ◌∙◌, arith}
use Rattle.script.specs.Words.{place_from}
use Rattle.script.proofs.Parts.{part-first, part_none}
use Rattle.script.proofs.words.part.Goals as goal

pub returns-then-to-from : goal.returns-then-to-from
returns-then-to-from c = let a = c.args in
    let from = c.start-from.result in
    let past : place_from a.separator from a.text.now < from = omega (arith, c.find-to.ensures.value) in
    part_none a.separator from a.text.now past ∙ sym c.start-from.ensures

pub returns : goal.returns
returns c = let a = c.args in
    let from = c.start-from.result in
    ap (λ (i : ℕ). take (i - from) (drop from a.text.now)) c.find-to.ensures.value
    ∙ part-first a.separator from a.text.now
    ∙ sym c.start-from.ensures
