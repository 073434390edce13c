-- `parse::of_form` meets its contract: an image by its letter, the others by how many words the form asks.
-- Assumes nothing.
use Rattle.std.proofs.Common.{◌≡◌, sym, ap, ◌∙◌, arith, ne_eqb}
use Rattle.std.specs.Prelude.{Ok}
use Rattle.script.specs.declared.call.Call.{Call}
use Rattle.script.specs.Words.{words_of}
use Rattle.script.specs.Numbers.{unsigned_of}
use Rattle.script.specs.Calls.{form_of, word_count, on_number, number_call}
use Rattle.script.proofs.Forms.{image-count, image-other, formed-alone, formed-number, formed-save, formed-load, formed-string}
use Rattle.script.proofs.Forms.{text-string, text-load, text-kept}
use Rattle.script.proofs.parse.of_form.Goals as goal

pub returns-then-wanted-eq1 : goal.returns-then-wanted-eq1
returns-then-wanted-eq1 c =
    let a = c.args in
    let pre = c.requires in
    let ws = words_of a.line.text.now in
    let f = form_of a.letter in
    let one : word_count f ≡ 1 = sym pre.wanted_value ∙ c.if-wanted-eq1.true in
    record { value = ap (λ (z : Call). Ok z) c.plain.ensures ∙ sym (formed-alone ws f one); text = sym (text-kept ws a.text.now f (λ e. omega (arith, one, e)) (image-count f (λ e. omega (arith, one, e)))) }

pub returns-then-letter-eq76 : goal.returns-then-letter-eq76
returns-then-letter-eq76 c =
    let a = c.args in
    let if2 = c.if-letter-eq76 in
    let ws = words_of a.line.text.now in
    record { value = c.load.ensures.value ∙ formed-load ws a.letter if2.true; text = c.load.ensures.text ∙ text-load ws a.text.now a.letter if2.true }

pub returns-then-wanted-eq2 : goal.returns-then-wanted-eq2
returns-then-wanted-eq2 c =
    let a = c.args in
    let pre = c.requires in
    let if2 = c.if-letter-eq76 in
    let if3 = c.if-wanted-eq2 in
    let word = c.word in
    let unsigned = c.unsigned in
    let ws = words_of a.line.text.now in
    let f = form_of a.letter in
    let two : word_count f ≡ 2 = sym pre.wanted_value ∙ if3.true in
    let other = image-other a.letter (ne_eqb a.letter 76 if2.false) in
    let number = unsigned.ensures ∙ ap unsigned_of word.ensures in
    record { value = c.with_number.ensures ∙ ap (on_number (number_call f)) number ∙ sym (formed-number ws f two other); text = sym (text-kept ws a.text.now f (λ e. omega (arith, two, e)) other) }

pub returns-then-wanted-eq3 : goal.returns-then-wanted-eq3
returns-then-wanted-eq3 c =
    let a = c.args in
    let pre = c.requires in
    let if4 = c.if-wanted-eq3 in
    let ws = words_of a.line.text.now in
    let f = form_of a.letter in
    let three : word_count f ≡ 3 = sym pre.wanted_value ∙ if4.true in
    record { value = c.save.ensures ∙ sym (formed-save ws f three); text = sym (text-kept ws a.text.now f (λ e. omega (arith, three, e)) (image-count f (λ e. omega (arith, three, e)))) }

pub returns : goal.returns
returns c =
    let a = c.args in
    let pre = c.requires in
    let if1 = c.if-wanted-eq1 in
    let if3 = c.if-wanted-eq2 in
    let if4 = c.if-wanted-eq3 in
    let ws = words_of a.line.text.now in
    let f = form_of a.letter in
    let some : word_count f ≡ 0 → ⊥ = λ e. pre.not_wanted (pre.wanted_value ∙ e) in
    let more : word_count f ≡ 1 → ⊥ = λ e. if1.false (pre.wanted_value ∙ e) in
    let second : word_count f ≡ 2 → ⊥ = λ e. if3.false (pre.wanted_value ∙ e) in
    let most : word_count f ≡ 3 → ⊥ = λ e. if4.false (pre.wanted_value ∙ e) in
    record { value = c.string.ensures.value ∙ sym (formed-string ws f some more second most); text = c.string.ensures.text ∙ sym (text-string ws a.text.now f some more second most) }
