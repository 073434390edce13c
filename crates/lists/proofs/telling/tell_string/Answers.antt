-- `telling::tell_string` meets its contract: the answer is written where it stays, then the two bytes before it.
-- Assumes nothing.
use Rattle.std.proofs.Common.{◌≡◌, ℕ, ◌+◌, ◌-◌, ◌<◌, List, [], ◌∷◌, ◌++◌, length, set, take, drop, refl, ap, ◌∙◌, arith, rules}
use Rattle.laws.proofs.Writing.{put-append, put_as}
use Rattle.operations.specs.Results.{number_of}
use Rattle.lists.proofs.Strings.{string-refused, answer-short, not-refused, string-carried}
use Rattle.lists.proofs.telling.tell_string.Goals as goal

pub returns-then-room-lt64-clause-carries : goal.returns-then-room-lt64-clause-carries
unfolding number_of
returns-then-room-lt64-clause-carries c =
    string-refused _ _ _ c.requires.machine_value c.if-room-lt64.true
    (put-append (put_as (ap (λ (n : ℕ). n ∷ []) c.number.ensures) c.put_byte-begun.ensures) c.put_byte.ensures)

pub unwrap-length-requires : goal.unwrap-length-requires
unwrap-length-requires c =
    let a = c.args in
    let s = c.string in
    let k : a.at + 66 - (a.at + 2) ≡ 64 = omega arith in
    not-refused _ a.buffer.now _ _ a.at _ _ _ c.requires.at_in_bounds k c.if-room-lt64.false c.requires.machine_value s.auto.buffer s.ensures

pub overflow_cast-length : goal.overflow_cast-length
overflow_cast-length c =
    let a = c.args in
    let s = c.string in
    let k : a.at + 66 - (a.at + 2) ≡ 64 = omega arith in
    omega (arith, answer-short _ a.buffer.now _ _ a.at _ _ _ c.requires.at_in_bounds k c.if-room-lt64.false c.requires.machine_value s.auto.buffer s.ensures c.unwrap-length.ensures)

pub overflow_add-result-2 : goal.overflow_add-result-2
overflow_add-result-2 c =
    let a = c.args in
    let s = c.string in
    let k : a.at + 66 - (a.at + 2) ≡ 64 = omega arith in
    let fits : length a.buffer.now < 18446744073709551616 = search (rules, c.well_formed) in
    omega (arith, fits, answer-short _ a.buffer.now _ _ a.at _ _ _ c.requires.at_in_bounds k c.if-room-lt64.false c.requires.machine_value s.auto.buffer s.ensures c.unwrap-length.ensures)

pub returns-clause-carries : goal.returns-clause-carries
returns-clause-carries c =
    let a = c.args in
    let s = c.string in
    let k : a.at + 66 - (a.at + 2) ≡ 64 = omega arith in
    let part = take (a.at + 2) a.buffer.now ++ (s.new.buffer ++ drop (a.at + 66 - (a.at + 2)) (drop (a.at + 2) a.buffer.now)) in
    let later = c.put_byte-3.ensures.now ∙ ap (λ (x : List ℕ). set x (a.at + 1) c.unwrap-length.result) c.put_byte-2.ensures.now in
    string-carried _ a.buffer.now _ _ a.at _ _ _ c.requires.at_in_bounds k c.if-room-lt64.false c.requires.machine_value s.auto.buffer s.ensures c.unwrap-length.ensures later refl

pub returns-clause-room : goal.returns-clause-room
returns-clause-room c =
    let a = c.args in
    let s = c.string in
    let k : a.at + 66 - (a.at + 2) ≡ 64 = omega arith in
    omega (arith, answer-short _ a.buffer.now _ _ a.at _ _ _ c.requires.at_in_bounds k c.if-room-lt64.false c.requires.machine_value s.auto.buffer s.ensures c.unwrap-length.ensures)
