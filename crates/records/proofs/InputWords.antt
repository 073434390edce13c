-- The word of some inputs: one more above them, and how large it is.
-- Assumes nothing.
use Prim.Native.Nat.{ℕ, zero, suc, ◌+◌, ◌*◌, ◌%◌, ◌^◌, ◌≤◌, ◌<◌}
use native.Mathlib.Nat.{pow-suc}
use native.Mathlib.Numerals.{add-one}
use native.Mathlib.Omega.{arith}
use mathlib.Core.Path.{◌≡◌, ap, subst, sym, ◌∙◌}
use mathlib.Core.Bool.{Bool, true, false}
use mathlib.Core.List.{List, [], ◌∷◌}
use lib.Dec.{lit≤}
use lib.ListN.{length, take, get_or, length-take}
use lib.Pow.{pow_pos}
use Rattle.std.proofs.Math.Nat.{mod-eq_of_lt}
use Rattle.std.proofs.Math.Pow.{pow_mono}
use Rattle.instruction.specs.Numbers.{bit_of}
use Rattle.records.specs.Records.{inputs_word}

bit-small : (b : Bool) → bit_of b ≤ 1
bit-small true = lit≤ tt
bit-small false = lit≤ tt

below : (k : ℕ) (l : List Bool) → length l ≤ k → inputs_word l < 2 ^ k
unfolding inputs_word
below k [] h = pow_pos k
below zero (b ∷ bs) h = absurd (omega arith)
below (suc k) (b ∷ bs) h =
    let rest : inputs_word bs < 2 ^ k = below k bs (omega arith) in
    let bit = bit-small b in
    subst (λ (x : ℕ). 2 * inputs_word bs + bit_of b < x) (sym (pow-suc 2 k)) (omega arith)

pub word_small : (l : List Bool) (i : ℕ) → i ≤ 10 → inputs_word (take i l) < 2 ^ 10
word_small l i h = below 10 (take i l) (rw (length-take i l) (omega arith))

-- a bit at its place in the word
pub bit_placed : (b : Bool) (i : ℕ) → i ≤ 10 → bit_of b * 2 ^ i ≤ 2 ^ 10
bit_placed true i h = let p : 2 ^ i ≤ 2 ^ 10 = pow_mono h in omega arith
bit_placed false i h = omega arith

pub bit-shifted : (b : Bool) (i : ℕ) → i ≤ 10 → bit_of b * 2 ^ i % 2 ^ 32 ≡ bit_of b * 2 ^ i
bit-shifted b i h = let small = bit_placed b i h in mod-eq_of_lt (omega arith)

word_upon : (l : List Bool) (i : ℕ) → i < length l → inputs_word (take (suc i) l) ≡ inputs_word (take i l) + bit_of (get_or l i false) * 2 ^ i
unfolding inputs_word
word_upon [] i h = absurd (omega arith)
word_upon (b ∷ bs) zero h = omega arith
word_upon (b ∷ bs) (suc i) h =
    let rest = word_upon bs i (omega arith) in
    rw (pow-suc 2 i) (omega (arith, rest))

pub word-next :
    (l : List Bool) (i : ℕ) → length l ≡ 11 → i < 11 →
    inputs_word (take i l) + bit_of (get_or l i false) * 2 ^ i % 2 ^ 32 ≡ inputs_word (take (i + 1) l)
word-next l i e h =
    ap (λ (x : ℕ). inputs_word (take i l) + x) (bit-shifted (get_or l i false) i (omega arith))
    ∙ sym (ap (λ (k : ℕ). inputs_word (take k l)) (add-one i) ∙ word_upon l i (omega arith))
