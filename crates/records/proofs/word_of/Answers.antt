-- `word_of` meets its contract: one input more at each turn, in its place.
-- Assumes nothing.
use Prim.Native.Nat.{ℕ, ◌+◌, ◌*◌, ◌%◌, ◌^◌}
use native.Mathlib.Omega.{arith}
use mathlib.Core.Path.{◌≡◌, refl, ap, ap₂, ◌∙◌}
use mathlib.Core.Bool.{false}
use lib.ListN.{length, get_or}
use borrow.Author.Rules.{rules}
use Rattle.records.specs.Records.{inputs_word}
use Rattle.records.proofs.InputWords.{word_small, bit_placed, bit-shifted, word-next}
use Rattle.records.proofs.word_of.Goals as goal

pub loop-i-init : goal.loop-i-init
unfolding inputs_word
loop-i-init c = refl

pub overflow_add-word : goal.overflow_add-word
overflow_add-word c =
    let l = c.args.inputs in
    let i = c.loop-i.i in
    let b = get_or l i false in
    omega (arith, c.loop-i.invariant, word_small l i (omega arith), ap (λ (x : ℕ). x * 2 ^ i % 2 ^ 32) c.bit.ensures, bit-shifted b i (omega arith), bit_placed b i (omega arith))

pub loop-i-preserved : goal.loop-i-preserved
loop-i-preserved c =
    let l = c.args.inputs in
    let i = c.loop-i.i in
    let size : length l ≡ 11 = search rules in
    ap₂ (λ (w b : ℕ). w + b * 2 ^ i % 2 ^ 32) c.loop-i.invariant c.bit.ensures ∙ word-next l i size (omega arith)
