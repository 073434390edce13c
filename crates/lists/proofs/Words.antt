-- The words of a list: the one in front, then those behind it.
-- Assumes nothing.
use Prim.Native.Nat.{ℕ, zero, suc, ◌+◌, ◌-◌, ◌<◌, ◌≤◌}
use native.Mathlib.Nat.{not-suc-le-zero}
use native.Mathlib.Omega.{arith}
use mathlib.Core.Path.{◌≡◌, refl, ap, ◌∙◌}
use mathlib.Core.Bool.{true, false}
use mathlib.Core.List.{List, [], ◌∷◌}
use lib.ListN.{length, take, drop, length-drop}
use lib.Seq.{drop-drop}
use Rattle.encoding.specs.Words.{head_of, size_of}
use Rattle.encoding.specs.declared.Head.{Head}
use Rattle.encoding.specs.declared.Head.TheVariants.{NoWord, Text, Inputs, Millisecond, Step, AtSpeed, Halted, Wait, Order, Travel}
use Rattle.lists.specs.Listing.{Word, string_of, small_word, whole_word, word_of, words_from}
use Rattle.lists.specs.Giving.{is_whole}

-- passing bytes over is leaving them out
words-skip : (k : ℕ) (l : List ℕ) → words_from k l ≡ words_from 0 (drop k l)
unfolding words_from
words-skip zero l = refl
words-skip (suc k) [] = refl
words-skip (suc k) (b ∷ l) = words-skip k l

-- no word is left
pub words-end : (l : List ℕ) → length l ≡ 0 → words_from 0 l ≡ []
unfolding words_from
words-end [] e = refl
words-end (b ∷ l) e = absurd (omega (arith, e))

pub turn : (l : List ℕ) → 0 < length l → 1 ≤ size_of (head_of l) → words_from 0 l ≡ word_of (head_of l) l ∷ words_from 0 (drop (size_of (head_of l)) l)
unfolding words_from
turn [] p q = absurd (not-suc-le-zero p)
turn (b ∷ l) p q =
    let s = size_of (head_of (b ∷ l)) in
    let e : suc (s - 1) ≡ s = omega arith in
    ap (λ (ws : List Word). word_of (head_of (b ∷ l)) (b ∷ l) ∷ ws) (words-skip (s - 1) l ∙ ap (λ (k : ℕ). words_from 0 (drop k (b ∷ l))) e)

-- the word at a place, then those behind it
pub words-next :
    (list : List ℕ) (at : ℕ) → at < length list → 1 ≤ size_of (head_of (drop at list)) →
    words_from 0 (drop at list) ≡ word_of (head_of (drop at list)) (drop at list) ∷ words_from 0 (drop (at + size_of (head_of (drop at list))) list)
words-next list at p q =
    let l = drop at list in
    let r : 0 < length l = omega (arith, length-drop at list) in
    turn l r q ∙ ap (λ (x : List ℕ). word_of (head_of l) l ∷ words_from 0 x) (drop-drop (size_of (head_of l)) at list)

-- ---- words that need the whole drive, and the others

pub whole_word_lem : (h : Head) (l : List ℕ) → is_whole h ≡ true → word_of h l ≡ whole_word h l
unfolding is_whole word_of whole_word
whole_word_lem NoWord l t = refl
whole_word_lem (Text room n) l t = refl
whole_word_lem (Inputs w) l t = cc
whole_word_lem Millisecond l t = cc
whole_word_lem Step l t = cc
whole_word_lem AtSpeed l t = cc
whole_word_lem Halted l t = cc
whole_word_lem (Wait n) l t = refl
whole_word_lem Order l t = cc
whole_word_lem (Travel n) l t = cc

pub small_word_lem : (h : Head) (l : List ℕ) → is_whole h ≡ false → word_of h l ≡ small_word h
unfolding is_whole word_of small_word
small_word_lem NoWord l t = refl
small_word_lem (Text room n) l t = cc
small_word_lem (Inputs w) l t = refl
small_word_lem Millisecond l t = refl
small_word_lem Step l t = refl
small_word_lem AtSpeed l t = refl
small_word_lem Halted l t = refl
small_word_lem (Wait n) l t = cc
small_word_lem Order l t = refl
small_word_lem (Travel n) l t = refl

-- ---- a string's text

text-behind : (n : ℕ) (l : List ℕ) → take n (drop 4 (take (suc (suc (suc (suc n)))) l)) ≡ take n (drop 4 l)
text-behind n [] = refl
text-behind n (a ∷ []) = refl
text-behind n (a ∷ b ∷ []) = refl
text-behind n (a ∷ b ∷ c ∷ []) = refl
text-behind n (a ∷ b ∷ c ∷ d ∷ l) = take_twice n l
  where
    take_twice : (n : ℕ) (l : List ℕ) → take n (take n l) ≡ take n l
    take_twice zero l = refl
    take_twice (suc n) [] = refl
    take_twice (suc n) (x ∷ l) = ap (λ (r : List ℕ). x ∷ r) (take_twice n l)

text-within : (n : ℕ) (l : List ℕ) → take n (drop 4 (take (4 + n) l)) ≡ take n (drop 4 l)
text-within n l =
    let e : 4 + n ≡ suc (suc (suc (suc n))) = omega arith in
    ap (λ (k : ℕ). take n (drop 4 (take k l))) e ∙ text-behind n l

-- the bytes of a word are enough to tell it
pub word-within : (h : Head) (l : List ℕ) → whole_word h (take (size_of h) l) ≡ whole_word h l
unfolding size_of whole_word string_of
word-within NoWord l = refl
word-within (Text room n) l = rw (text-within n l)
word-within (Inputs w) l = refl
word-within Millisecond l = refl
word-within Step l = refl
word-within AtSpeed l = refl
word-within Halted l = refl
word-within (Wait n) l = refl
word-within Order l = refl
word-within (Travel n) l = refl
