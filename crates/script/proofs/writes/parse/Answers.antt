-- `writes::parse` meets its contract: an output, a cell, or a field by its name.
-- Assumes nothing.
use Rattle.std.proofs.Common.{ℕ, ◌-◌, ◌≤◌, List, sym, ap, ◌∙◌, arith, leb-true}
use Rattle.laws.specs.Text.{bytes}
use Rattle.laws.proofs.Tests.{both_left}
use Rattle.script.specs.Words.{words_of, same_bytes, place_of}
use Rattle.script.specs.Writes.{field_names, field_of, address_of, is_cell, cell_of}
use Rattle.script.proofs.Naming.{same_as}
use Rattle.script.proofs.RawWrites.{numbers-output, numbers-cell, numbers-kept, write-output, write_cell, write-unknown, write-field}
use Rattle.script.proofs.writes.parse.Goals as goal

pub returns-then-same : goal.returns-then-same
unfolding bytes
returns-then-same c =
    let a = c.args in
    let word = c.word-name in
    let same = c.same in
    let if1 = c.if-same in
    let ws = words_of a.line.text.now in
    let test = same_as same.result word.result.now (bytes "out") same.ensures.0 same.ensures.1 in
    let name = ap (λ (n : List ℕ). same_bytes n (bytes "out")) (sym word.ensures) ∙ sym test in
    let out = name ∙ if1.true in
    record { value = c.of_output.ensures ∙ write-output ws out; numbers = numbers-output ws a.numbers.now out }

pub overflow_sub-at : goal.overflow_sub-at
unfolding is_cell
overflow_sub-at c =
    let address = c.address-at in
    let is-cell = c.is_cell in
    let low : 100 ≤ address.result = leb-true 100 address.result (both_left _ _ (sym is-cell.ensures ∙ c.if-is_cell.true)) in
    omega arith

pub returns-then-is_cell : goal.returns-then-is_cell
unfolding bytes
returns-then-is_cell c =
    let a = c.args in
    let word = c.word-name in
    let same = c.same in
    let if1 = c.if-same in
    let address = c.address-at in
    let is-cell = c.is_cell in
    let if2 = c.if-is_cell in
    let ws = words_of a.line.text.now in
    let test = same_as same.result word.result.now (bytes "out") same.ensures.0 same.ensures.1 in
    let name = ap (λ (n : List ℕ). same_bytes n (bytes "out")) (sym word.ensures) ∙ sym test in
    let at = address.ensures ∙ ap address_of word.ensures in
    let cell = ap is_cell (sym at) ∙ sym is-cell.ensures in
    let inside = cell ∙ if2.true in
    record { value = c.of_cell.ensures.value ∙ ap (λ (n : ℕ). cell_of ws (n - 100)) at ∙ write_cell ws (name ∙ if1.false) inside; numbers = c.of_cell.ensures.numbers ∙ numbers-cell ws a.numbers.now inside }

pub returns-then-place-ge-COUNT : goal.returns-then-place-ge-COUNT
unfolding bytes
returns-then-place-ge-COUNT c =
    let a = c.args in
    let word = c.word-name in
    let same = c.same in
    let if1 = c.if-same in
    let address = c.address-at in
    let is-cell = c.is_cell in
    let if2 = c.if-is_cell in
    let found = c.place_of-place in
    let ws = words_of a.line.text.now in
    let test = same_as same.result word.result.now (bytes "out") same.ensures.0 same.ensures.1 in
    let name = ap (λ (n : List ℕ). same_bytes n (bytes "out")) (sym word.ensures) ∙ sym test in
    let at = address.ensures ∙ ap address_of word.ensures in
    let cell = ap is_cell (sym at) ∙ sym is-cell.ensures in
    let place = found.ensures ∙ ap (λ (n : List ℕ). place_of n field_names) word.ensures in
    let outside = cell ∙ if2.false in
    record { value = write-unknown ws (name ∙ if1.false) outside (omega (arith, place)); numbers = numbers-kept ws a.numbers.now outside }

pub returns : goal.returns
unfolding bytes
returns c =
    let a = c.args in
    let word = c.word-name in
    let same = c.same in
    let if1 = c.if-same in
    let address = c.address-at in
    let is-cell = c.is_cell in
    let if2 = c.if-is_cell in
    let found = c.place_of-place in
    let ws = words_of a.line.text.now in
    let test = same_as same.result word.result.now (bytes "out") same.ensures.0 same.ensures.1 in
    let name = ap (λ (n : List ℕ). same_bytes n (bytes "out")) (sym word.ensures) ∙ sym test in
    let at = address.ensures ∙ ap address_of word.ensures in
    let cell = ap is_cell (sym at) ∙ sym is-cell.ensures in
    let place = found.ensures ∙ ap (λ (n : List ℕ). place_of n field_names) word.ensures in
    let outside = cell ∙ if2.false in
    record { value = c.of_field.ensures ∙ ap (field_of ws) place ∙ write-field ws (name ∙ if1.false) outside (omega (arith, place)); numbers = numbers-kept ws a.numbers.now outside }
