-- `numbers::unsigned` meets its contract: one digit more at each turn.
-- Assumes nothing.
use Rattle.std.proofs.Common.{◌≡◌, ℕ, zero, suc, ◌+◌, ◌-◌, ◌*◌, ◌<◌, ◌≤◌, false, eqb, ◌⊎◌, inl, inr, List, length, get_or, drop, sym, ap, ◌∙◌, arith, le-leb, eqb-true}
use Rattle.std.specs.Prelude.{None}
use borrow.Author.Tests.{lt-leb}
use Rattle.laws.specs.Tests.{choose}
use Rattle.decimal.specs.Parsing.{value_from}
use Rattle.script.proofs.Turns.{unsigned-none, unsigned-some, value-turn, value-large, value-end}
use Rattle.script.proofs.numbers.unsigned.Goals as goal

some-of : (n : ℕ) → false ≡ eqb n 0 → 0 < n
some-of zero e = cc
some-of (suc n) e = omega arith

-- a digit, and a byte that is none
value_on :
    (word : List ℕ) (a i : ℕ) → i < length word → 48 ≤ get_or word i 0 → get_or word i 0 ≤ 57 →
    value_from a (drop i word) ≡ value_from (a * 10 + (get_or word i 0 - 48)) (drop (i + 1) word)
unfolding choose
value_on word a i h low high = value-turn a word i h ∙ simp (le-leb 48 (get_or word i 0) low, le-leb (get_or word i 0) 57 high)

value-none :
    (word : List ℕ) (a i : ℕ) → i < length word → (get_or word i 0 < 48) ⊎ (57 < get_or word i 0) → value_from a (drop i word) ≡ None
unfolding choose
value-none word a i h (inl low) = value-turn a word i h ∙ simp (lt-leb 48 (get_or word i 0) low)
value-none word a i h (inr high) =
    value-turn a word i h ∙ simp (le-leb 48 (get_or word i 0) (omega arith), lt-leb (get_or word i 0) 57 high)

pub returns-then-is_empty : goal.returns-then-is_empty
returns-then-is_empty c = sym (unsigned-none c.args.word.now (eqb-true _ _ (sym c.is_empty.ensures ∙ c.if-is_empty.true)))

pub loop-byte-init : goal.loop-byte-init
loop-byte-init c =
    let word = c.args.word.now in
    (omega arith, unsigned-some word (some-of (length word) (sym c.if-is_empty.false ∙ c.is_empty.ensures)))

pub returns-then-not-is_ascii_digit : goal.returns-then-not-is_ascii_digit
returns-then-not-is_ascii_digit c =
    let l = c.loop-byte in
    sym (l.invariant.1 ∙ value-none c.args.word.now l.value l.byte-index (omega arith) c.if-not-is_ascii_digit.ensures.cases)

pub returns-then-value-gt4294967295 : goal.returns-then-value-gt4294967295
returns-then-value-gt4294967295 c =
    let l = c.loop-byte in
    let word = c.args.word.now in
    let digit = c.if-not-is_ascii_digit.ensures.cases in
    let turn = value_on word l.value l.byte-index (omega arith) (omega (arith, digit)) (omega (arith, digit)) in
    sym (l.invariant.1 ∙ turn ∙ value-large _ (drop (l.byte-index + 1) word) (omega (arith, c.from.ensures)))

pub loop-byte-preserved : goal.loop-byte-preserved
loop-byte-preserved c =
    let l = c.loop-byte in
    let word = c.args.word.now in
    let digit = c.if-not-is_ascii_digit.ensures.cases in
    let turn = value_on word l.value l.byte-index (omega arith) (omega (arith, digit)) (omega (arith, digit)) in
    let value = ap (λ (d : ℕ). value_from (l.value * 10 + d) (drop (l.byte-index + 1) word)) (sym c.from.ensures) in
    (omega arith, l.invariant.1 ∙ turn ∙ value)

pub returns : goal.returns
returns c =
    let l = c.loop-byte in
    sym (l.invariant.1 ∙ value-end l.value c.args.word.now l.byte-index (omega arith) l.invariant.0)
