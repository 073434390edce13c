-- One word of a list after the other: what `refusal_from` makes of the word in front, and what is known of each word of a list that is not refused.
-- Assumes nothing.
use Prim.Native.Nat.{ℕ, zero, suc, ◌+◌, ◌-◌, ◌<◌, ◌≤◌}
use native.Mathlib.Nat.{eq-zero-or-pos, not-suc-le-zero}
use native.Mathlib.Omega.{arith}
use mathlib.Core.Path.{◌≡◌, refl, sym, ap, ◌∙◌}
use mathlib.Core.Logic.{⊎_elim}
use mathlib.Core.List.{List, [], ◌∷◌}
use lib.Dec.{eqb, ltb}
use lib.ListN.{length, take, drop, length-drop}
use lib.Seq.{take_all, drop-drop, drop-length}
use borrow.Author.Tests.{lt-ltb, le-ltb, ltb-false, eq-eqb, ne_eqb, eqb-false}
use Rattle.std.specs.Prelude.{Result, Ok, Err}
use Rattle.laws.specs.Tests.{choose}
use Rattle.laws.proofs.Tests.{choose-by, choose-true, choose-false}
use Rattle.encoding.specs.Words.{head_of, size_of, room_of}
use Rattle.encoding.specs.Refusing.{judged, refusal_from, refusal_of}
use Rattle.encoding.specs.declared.Head.{Head}
use Rattle.encoding.specs.declared.Refusal.{Refusal}
use Rattle.encoding.specs.declared.Refusal.TheVariants.{NoWord, CutShort, ShortBuffer}

-- a slice from a place on is what is left of the list there
pub part_left : (list : List ℕ) (at : ℕ) → take (length list - at) (drop at list) ≡ drop at list
part_left list at =
    let q : length (drop at list) ≤ length list - at = omega (arith, length-drop at list) in
    take_all _ _ q

-- passing bytes over is leaving them out
pub refusal-skip : (k n : ℕ) (l : List ℕ) → refusal_from k n l ≡ refusal_from 0 n (drop k l)
unfolding refusal_from
refusal-skip zero n l = refl
refusal-skip (suc k) n [] = refl
refusal-skip (suc k) n (b ∷ l) = refusal-skip k n l

-- ---- the word in front is judged

module _ (n : ℕ) (l : List ℕ) (h : Head) (others : Result (Unit {0}) Refusal) where
  judged-none : size_of h ≡ 0 → judged n l h others ≡ Err NoWord
  unfolding judged
  judged-none e = choose-true _ _ _ (eq-eqb _ _ e)

  judged-size : 0 < size_of h → judged n l h others ≡ choose (ltb (length l) (size_of h)) (Err CutShort) (choose (ltb n (room_of h)) (Err ShortBuffer) others)
  unfolding judged
  judged-size p = choose-false _ _ _ (ne_eqb _ _ (λ (e : size_of h ≡ 0). omega arith))

  judged-cut : 0 < size_of h → length l < size_of h → judged n l h others ≡ Err CutShort
  judged-cut p q = judged-size p ∙ choose-true _ _ _ (lt-ltb _ _ q)

  judged-short : 0 < size_of h → size_of h ≤ length l → n < room_of h → judged n l h others ≡ Err ShortBuffer
  judged-short p q r = judged-size p ∙ choose-false _ _ _ (le-ltb _ _ q) ∙ choose-true _ _ _ (lt-ltb _ _ r)

  judged-on : 0 < size_of h → size_of h ≤ length l → room_of h ≤ n → judged n l h others ≡ others
  judged-on p q r = judged-size p ∙ choose-false _ _ _ (le-ltb _ _ q) ∙ choose-false _ _ _ (le-ltb _ _ r)

-- the words that follow count only where there is a word
judged-under : (n : ℕ) (l : List ℕ) (h : Head) {o p : Result (Unit {0}) Refusal} → (0 < size_of h → o ≡ p) → judged n l h o ≡ judged n l h p
judged-under n l h {o} {p} f =
    ⊎_elim (λ (e : size_of h ≡ 0). judged-none n l h o e ∙ sym (judged-none n l h p e)) (λ (q : 0 < size_of h). ap (λ (x : Result (Unit {0}) Refusal). judged n l h x) (f q))
    (eq-zero-or-pos (size_of h))

-- the word in front, then those behind it
turn : (n : ℕ) (l : List ℕ) → 0 < length l → refusal_from 0 n l ≡ judged n l (head_of l) (refusal_from 0 (n - room_of (head_of l)) (drop (size_of (head_of l)) l))
unfolding refusal_from
turn n [] p = absurd (not-suc-le-zero p)
turn n (b ∷ l) p =
    let s = size_of (head_of (b ∷ l)) in
    let m = n - room_of (head_of (b ∷ l)) in
    judged-under n (b ∷ l) (head_of (b ∷ l)) (λ (q : 0 < s).
    let e : suc (s - 1) ≡ s = omega arith in
    refusal-skip (s - 1) m l ∙ ap (λ (k : ℕ). refusal_from 0 m (drop k (b ∷ l))) e)

-- the same of what is left of a list at a place
turn_at :
    (list : List ℕ) (at n : ℕ) → at < length list →
    refusal_from 0 n (drop at list) ≡
    judged n (drop at list) (head_of (drop at list)) (refusal_from 0 (n - room_of (head_of (drop at list))) (drop (at + size_of (head_of (drop at list))) list))
turn_at list at n p =
    let l = drop at list in
    let q : 0 < length l = omega (arith, length-drop at list) in
    turn n l q ∙ ap (λ (r : List ℕ). judged n l (head_of l) (refusal_from 0 (n - room_of (head_of l)) r)) (drop-drop (size_of (head_of l)) at list)

-- ---- a list that is not refused

-- the word at a place stands whole, its bytes have room, and the words behind it are not refused
pub record Whole (list : List ℕ) (at left : ℕ) : Type 0 where
  pub size : 1 ≤ size_of (head_of (drop at list))
  pub within : at + size_of (head_of (drop at list)) ≤ length list
  pub room : room_of (head_of (drop at list)) ≤ left
  pub rest : refusal_from 0 (left - room_of (head_of (drop at list))) (drop (at + size_of (head_of (drop at list))) list) ≡ Ok tt

-- what it says that nothing is wrong
record Taken (n : ℕ) (l : List ℕ) (h : Head) (others : Result (Unit {0}) Refusal) : Type 0 where
  size : 1 ≤ size_of h
  within : size_of h ≤ length l
  room : room_of h ≤ n
  rest : others ≡ Ok tt

taken : (n : ℕ) (l : List ℕ) (h : Head) (others : Result (Unit {0}) Refusal) → judged n l h others ≡ Ok tt → Taken n l h others
unfolding judged
taken n l h others =
    choose-by (λ (x : Result (Unit {0}) Refusal). x ≡ Ok tt → Taken n l h others) (eqb (size_of h) 0) (λ t e. cc) (λ t.
    choose-by (λ (x : Result (Unit {0}) Refusal). x ≡ Ok tt → Taken n l h others) (ltb (length l) (size_of h)) (λ u e. cc) (λ u.
    choose-by (λ (x : Result (Unit {0}) Refusal). x ≡ Ok tt → Taken n l h others) (ltb n (room_of h)) (λ v e. cc) (λ v e.
    record {
      size = omega (arith, eqb-false (size_of h) 0 t);
      within = ltb-false _ _ u;
      room = ltb-false _ _ v;
      rest = e;
    })))

pub word-whole : (list : List ℕ) (at left : ℕ) → at < length list → refusal_from 0 left (drop at list) ≡ Ok tt → Whole list at left
word-whole list at left p e =
    let t = taken left (drop at list) (head_of (drop at list)) _ (sym (turn_at list at left p) ∙ e) in
    record {
      size = t.size;
      within = omega (arith, t.within, length-drop at list);
      room = t.room;
      rest = t.rest;
    }

-- ---- the loop of `check`

-- what is left of a list at a place decides as the whole list does
pub record Checked (list : List ℕ) (space at left : ℕ) : Type 0 where
  pub within : at ≤ length list
  pub rest : refusal_from 0 left (drop at list) ≡ refusal_of space list

pub checked-start : (list : List ℕ) (space : ℕ) → Checked list space 0 space
unfolding refusal_of
checked-start list space = record { within = omega arith; rest = refl }

pub checked-end : {list : List ℕ} {space at left : ℕ} → Checked list space at left → length list ≤ at → Ok tt ≡ refusal_of space list
unfolding refusal_from
checked-end {list} {space} {at} {left} w p =
    let e : at ≡ length list = omega (arith, w.within, p) in
    sym (ap (λ (l : List ℕ). refusal_from 0 left l) (ap (λ (k : ℕ). drop k list) e ∙ drop-length list)) ∙ w.rest

-- the word h at a place, read from what is left of the list; its size s
module _ {list : List ℕ} {space at left s : ℕ} {h : Head} (w : Checked list space at left) (p : at < length list)
    (seen : h ≡ head_of (take (length list - at) (drop at list))) (sized : s ≡ size_of h) where
  -- one turn, for the size and the room as the code has them
  judged-here : refusal_of space list ≡ judged left (drop at list) h (refusal_from 0 (left - room_of h) (drop (at + s) list))
  judged-here = sym w.rest ∙ turn_at list at left p
      ∙ ap (λ (x : Head). judged left (drop at list) x (refusal_from 0 (left - room_of x) (drop (at + size_of x) list))) (sym (seen ∙ ap head_of (part_left list at)))
      ∙ ap (λ (k : ℕ). judged left (drop at list) h (refusal_from 0 (left - room_of h) (drop (at + k) list))) (sym sized)

  pub no_word : s ≡ 0 → Err NoWord ≡ refusal_of space list
  no_word e = sym (judged-here ∙ judged-none _ _ _ _ (sym sized ∙ e))

  pub cut_short : (s ≡ 0 → ⊥) → length list - at < s → Err CutShort ≡ refusal_of space list
  cut_short z q = sym (judged-here ∙ judged-cut _ _ _ _ (omega (arith, sized, z)) (omega (arith, sized, length-drop at list)))

  pub short-buffer : {r : ℕ} → r ≡ room_of h → (s ≡ 0 → ⊥) → s ≤ length list - at → left < r → Err ShortBuffer ≡ refusal_of space list
  short-buffer e z q t =
      sym (judged-here ∙ judged-short _ _ _ _ (omega (arith, sized, z)) (omega (arith, sized, length-drop at list)) (omega (arith, e)))

  pub passed : {r : ℕ} → r ≡ room_of h → (s ≡ 0 → ⊥) → s ≤ length list - at → r ≤ left → Checked list space (at + s) (left - r)
  passed {r} e z q t = record {
    within = omega arith;
    rest = ap (λ (k : ℕ). refusal_from 0 (left - k) (drop (at + s) list)) e
        ∙ sym (judged-here ∙ judged-on _ _ _ _ (omega (arith, sized, z)) (omega (arith, sized, length-drop at list)) (omega (arith, e)));
  }
