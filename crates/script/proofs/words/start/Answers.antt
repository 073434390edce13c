-- `words::start` meets its contract: one part is passed at each turn.
-- Assumes nothing.
use Rattle.std.proofs.Common.{◌≡◌, ℕ, suc, ◌+◌, ◌-◌, drop, sym, ap, ◌∙◌, arith}
use Rattle.script.specs.Words.{part_at}
use Rattle.script.proofs.Parts.{start-next}
use Rattle.script.proofs.words.start.Goals as goal

pub loop-i-preserved : goal.loop-i-preserved
loop-i-preserved c =
    let l = c.loop-i in
    let a = c.args in
    let left : a.k - l._i ≡ suc (a.k - (l._i + 1)) = omega arith in
    l.invariant
    ∙ ap (λ (j : ℕ). part_at a.separator j (drop l.at a.text.now)) left
    ∙ start-next a.separator l.at (a.k - (l._i + 1)) a.text.now
    ∙ ap (λ (j : ℕ). part_at a.separator (a.k - (l._i + 1)) (drop (j + 1) a.text.now)) (sym c.find-at.ensures.value)
