-- The front that a line keeps of a piece, and what the line is then.
-- Assumes nothing.
use Prim.Native.Nat.{ℕ, ◌+◌, ◌-◌, ◌≤◌, ◌<◌, min}
use native.Mathlib.Omega.{arith}
use mathlib.Core.Path.{◌≡◌, refl, sym, ap, subst, ◌∙◌}
use mathlib.Core.Logic.{⊎_elim}
use mathlib.Core.List.{List, [], ◌++◌, append_assoc, append-nil}
use lib.ListN.{length, take, drop, length-drop, length-append}
use lib.Seq.{length-take-le, take_all, take-length, take-nil, take-append-add, take-append_seam, drop-length, drop-drop, drop-nil}
use Rattle.laws.specs.Writing.{Put}
use Rattle.laws.proofs.Tests.{lt-or-le}
use Rattle.laws.proofs.Writing.{put_front}
use Rattle.lines.specs.Gathering.{gathered, Gathered}

pub take_min : (n : ℕ) (l : List ℕ) → take (min n (length l)) l ≡ take n l
take_min n l = ⊎_elim inside outside (lt-or-le n (length l))
  where
    inside : n < length l → take (min n (length l)) l ≡ take n l
    inside h = let e : min n (length l) ≡ n = omega arith in rw e

    outside : length l ≤ n → take (min n (length l)) l ≡ take n l
    outside h = let e : min n (length l) ≡ length l = omega arith in rw (e, take-length l, take_all n l h)

-- behind a place there is the rest, and nothing past the end
pub behind-place : (k : ℕ) (l : List ℕ) → take (length l - k) (drop k l) ≡ drop k l
behind-place k l = take_all (length l - k) (drop k l) (rw (length-drop k l) (omega arith))

pub behind-end : (k : ℕ) (l : List ℕ) → length l ≤ k → take (length l - length l) (drop (length l) l) ≡ drop k l
behind-end k l h =
    let sum : length l + (k - length l) ≡ k = omega arith in
    rw (drop-length l, take-nil (length l - length l), ← sum, ← drop-drop (k - length l) (length l) l, drop-length l) (sym (drop-nil (k - length l)))

drop-end : (h : ℕ) (l : List ℕ) → drop (length l - h) (drop h l) ≡ []
drop-end h l = rw (← length-drop h l) (drop-length (drop h l))

-- h bytes of the line and k of the piece
gathered-parts : (l p : List ℕ) (n h k : ℕ) → h ≡ min n (length l) → k ≡ min (length l - h) (length p) → gathered l n p ≡ take h l ++ take k p
unfolding gathered
gathered-parts l p n h k eh ek =
    let size : length (take h l) ≡ h = length-take-le h l (omega arith) in
    let whole : length l ≡ length (take h l) + (length l - h) = omega arith in
    ap (λ (x : List ℕ). take (length l) (x ++ p)) (sym (ap (λ (i : ℕ). take i l) eh ∙ take_min n l))
    ∙ ap (λ (i : ℕ). take i (take h l ++ p)) whole
    ∙ take-append-add (take h l) p (length l - h)
    ∙ ap (λ (x : List ℕ). take h l ++ x) (sym (ap (λ (i : ℕ). take i p) ek ∙ take_min (length l - h) p))

-- what a copy of the piece behind the first h bytes leaves
pub gather-copied :
    (l p ys : List ℕ) (n h k : ℕ) → h ≡ min n (length l) → k ≡ min (length l - h) (length p) →
    ys ≡ take k p ++ drop (length (take k p)) (take (length l - h) (drop h l)) →
    Gathered l n p (take h l ++ (ys ++ drop (length l - h) (drop h l))) (h + k)
gather-copied l p ys n h k eh ek e = record { next = sym size; now = now }
  where
    parts : gathered l n p ≡ take h l ++ take k p
    parts = gathered-parts l p n h k eh ek

    size : length (gathered l n p) ≡ h + k
    size =
        ap length parts
        ∙ length-append (take h l) (take k p)
        ∙ rw (length-take-le h l (omega arith), length-take-le k p (omega arith)) refl

    piece : ys ≡ take k p ++ drop (h + k) l
    piece = e ∙ rw (behind-place h l, length-take-le k p (omega arith), drop-drop k h l) refl

    now : take h l ++ (ys ++ drop (length l - h) (drop h l)) ≡ gathered l n p ++ drop (length (gathered l n p)) l
    now = rw (drop-end h l, append-nil ys, piece, size, parts) (sym (append_assoc (take h l) (take k p) (drop (h + k) l)))

-- a text that was written at the front of a buffer, gathered from there
pub gather-written :
    (l : List ℕ) (n : ℕ) (m : List ℕ) (r : ℕ) {t t' p q : List ℕ} {e : ℕ} → Put t t' q 0 e → length q ≤ length t → p ≡ take e t' →
    Gathered l n p m r → Gathered l n q m r
gather-written l n m r {t} {t'} {p} {q} {e} w h f g = subst (λ (x : List ℕ). Gathered l n x m r) (f ∙ text) g
  where
    text : take e t' ≡ q
    text = let f = put_front w h in rw (f.0, f.1) (take-append_seam q (drop (length q) t))
