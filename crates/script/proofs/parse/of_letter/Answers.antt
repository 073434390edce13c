-- `parse::of_letter` meets its contract: by how many words the form asks, and how many there are.
-- Assumes nothing.
use Rattle.std.proofs.Common.{◌≡◌, length, sym, ◌∙◌, arith}
use Rattle.script.specs.Words.{words_of}
use Rattle.script.specs.Calls.{form_of, word_count}
use Rattle.script.proofs.Forms.{image-count}
use Rattle.script.proofs.Lines.{counted_none, counted-wrong, counted-right, text-wrong, text-right, text-other}
use Rattle.script.proofs.parse.of_letter.Goals as goal

pub returns-then-wanted-eq0 : goal.returns-then-wanted-eq0
returns-then-wanted-eq0 c =
    let a = c.args in
    let count = c.words_of-wanted in
    let ws = words_of a.line.text.now in
    let f = form_of a.letter in
    let none = sym count.ensures ∙ c.if-wanted-eq0.true in
    record { value = counted_none f ws none; text = text-other f ws a.text.now (λ e. omega (arith, none, e)) (image-count f (λ e. omega (arith, none, e))) }

pub returns-then-line-wanted : goal.returns-then-line-wanted
returns-then-line-wanted c =
    let a = c.args in
    let count = c.words_of-wanted in
    let if1 = c.if-wanted-eq0 in
    let ws = words_of a.line.text.now in
    let f = form_of a.letter in
    let wanted = count.ensures in
    let some : word_count f ≡ 0 → ⊥ = λ e. if1.false (wanted ∙ e) in
    let wrong : length ws ≡ word_count f → ⊥ = λ e. c.if-line-wanted.true (a.line.counted ∙ e ∙ sym wanted) in
    record { value = counted-wrong f ws some wrong; text = text-wrong f ws a.text.now wrong }

pub returns : goal.returns
returns c =
    let a = c.args in
    let count = c.words_of-wanted in
    let if1 = c.if-wanted-eq0 in
    let if2 = c.if-line-wanted in
    let ws = words_of a.line.text.now in
    let f = form_of a.letter in
    let wanted = count.ensures in
    let some : word_count f ≡ 0 → ⊥ = λ e. if1.false (wanted ∙ e) in
    let right = sym a.line.counted ∙ if2.false ∙ wanted in
    record { value = c.of_form.ensures.value ∙ counted-right f ws some right; text = c.of_form.ensures.text ∙ text-right f ws a.text.now right }
