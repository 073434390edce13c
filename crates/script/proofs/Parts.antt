-- The parts of a text: how many, the first, and the next.
-- Assumes nothing.
use Rattle.std.proofs.Common.{◌≡◌, ℕ, zero, suc, ◌+◌, ◌-◌, ◌<◌, ◌≤◌, Bool, true, false, eqb, List, [], ◌∷◌, length, get_or, take, drop, sym, refl, ap, ◌∙◌, ⊎_elim, add-one, arith, drop_of_length-le, drop-cons, drop-drop, le-ltb, lt-ltb, eq-eqb, ne_eqb}
use lib.Seq.{take-nil, drop-length}
use Rattle.laws.proofs.Tests.{lt-or-le, choose-true, choose-false}
use Rattle.scan.specs.Bytes.{index_after, index_of}
use Rattle.script.specs.Words.{place_from, in_first, parts_from, parts_of, part_at}

-- ---- the place of a byte

pub place_inside : (b from : ℕ) (s : List ℕ) → from < length s → place_from b from s ≡ from + index_of b (drop from s)
unfolding place_from
place_inside b from s h = choose-true _ _ _ (lt-ltb from (length s) h)

pub place-outside : (b from : ℕ) (s : List ℕ) → length s ≤ from → place_from b from s ≡ length s
unfolding place_from
place-outside b from s h = choose-false _ _ _ (le-ltb from (length s) h)

-- ---- the parts

first-in : (b : ℕ) (ps : List (List ℕ)) → get_or (in_first b ps) 0 [] ≡ b ∷ get_or ps 0 []
unfolding in_first
first-in b [] = refl
first-in b (p ∷ ps) = refl

next-in : (b k : ℕ) (ps : List (List ℕ)) → get_or (in_first b ps) (suc k) [] ≡ get_or ps (suc k) []
unfolding in_first
next-in b k [] = refl
next-in b k (p ∷ ps) = refl

first_of :
    (t : Bool) (b s : ℕ) (l : List ℕ) → get_or (parts_of s l) 0 [] ≡ take (index_of s l) l →
    get_or (parts_from t b (parts_of s l)) 0 [] ≡ take (index_after t (index_of s l)) (b ∷ l)
unfolding parts_from index_after
first_of true b s l h = refl
first_of false b s l h = first-in b (parts_of s l) ∙ ap (λ (x : List ℕ). b ∷ x) h

parts_first : (s : ℕ) (l : List ℕ) → get_or (parts_of s l) 0 [] ≡ take (index_of s l) l
unfolding parts_of index_of
parts_first s [] = refl
parts_first s (b ∷ l) = first_of (eqb b s) b s l (parts_first s l)

parts_none : (s k : ℕ) → get_or (parts_of s []) k [] ≡ []
unfolding parts_of
parts_none s zero = refl
parts_none s (suc k) = refl

next_of :
    (t : Bool) (b s : ℕ) (l : List ℕ) (k : ℕ) → get_or (parts_of s l) (suc k) [] ≡ get_or (parts_of s (drop (suc (index_of s l)) l)) k [] →
    get_or (parts_from t b (parts_of s l)) (suc k) [] ≡ get_or (parts_of s (drop (suc (index_after t (index_of s l))) (b ∷ l))) k []
unfolding parts_from index_after
next_of true b s l k h = refl
next_of false b s l k h = next-in b k (parts_of s l) ∙ h

parts_next : (s : ℕ) (l : List ℕ) (k : ℕ) → get_or (parts_of s l) (suc k) [] ≡ get_or (parts_of s (drop (suc (index_of s l)) l)) k []
unfolding parts_of index_of
parts_next s [] k = sym (parts_none s k)
parts_next s (b ∷ l) k = next_of (eqb b s) b s l k (parts_next s l k)

-- ---- how many

from_some : (t : Bool) (b : ℕ) (ps : List (List ℕ)) → 0 < length (parts_from t b ps)
unfolding parts_from in_first
from_some true b ps = omega arith
from_some false b [] = omega arith
from_some false b (p ∷ ps) = omega arith

parts-some : (s : ℕ) (l : List ℕ) → 0 < length (parts_of s l)
unfolding parts_of
parts-some s [] = omega arith
parts-some s (b ∷ l) = from_some (eqb b s) b (parts_of s l)

length-first : (b : ℕ) (ps : List (List ℕ)) → 0 < length ps → length (in_first b ps) ≡ length ps
unfolding in_first
length-first b [] h = absurd (omega arith)
length-first b (p ∷ ps) h = refl

-- a separator begins one more, any other byte none
pub count-separator :
    (s i : ℕ) (l : List ℕ) → i < length l → get_or l i 0 ≡ s →
    length (parts_of s (drop i l)) ≡ suc (length (parts_of s (drop (i + 1) l)))
unfolding parts_of parts_from
count-separator s i l h e = rw (add-one i, drop-cons l i 0 h) (simp (eq-eqb (get_or l i 0) s e))

pub count-other :
    (s i : ℕ) (l : List ℕ) → i < length l → (get_or l i 0 ≡ s → ⊥) →
    length (parts_of s (drop i l)) ≡ length (parts_of s (drop (i + 1) l))
unfolding parts_of parts_from
count-other s i l h n =
    rw (add-one i, drop-cons l i 0 h)
    (simp (ne_eqb (get_or l i 0) s n) (length-first (get_or l i 0) (parts_of s (drop (suc i) l)) (parts-some s (drop (suc i) l))))

pub count-end : (s i : ℕ) (l : List ℕ) → i ≡ length l → length (parts_of s (drop i l)) ≡ 1
unfolding parts_of
count-end s i l e = rw (e, drop-length l)

-- ---- from a place on

-- one part further
pub start-next : (s at k : ℕ) (l : List ℕ) → part_at s (suc k) (drop at l) ≡ part_at s k (drop (place_from s at l + 1) l)
unfolding part_at
start-next s at k l = ⊎_elim inside outside (lt-or-le at (length l))
  where
    inside : at < length l → get_or (parts_of s (drop at l)) (suc k) [] ≡ get_or (parts_of s (drop (place_from s at l + 1) l)) k []
    inside h =
        let more : at + suc (index_of s (drop at l)) ≡ place_from s at l + 1 = omega (arith, place_inside s at l h) in
        parts_next s (drop at l) k
        ∙ ap (λ (x : List ℕ). get_or (parts_of s x) k []) (drop-drop (suc (index_of s (drop at l))) at l)
        ∙ ap (λ (i : ℕ). get_or (parts_of s (drop i l)) k []) more

    outside : length l ≤ at → get_or (parts_of s (drop at l)) (suc k) [] ≡ get_or (parts_of s (drop (place_from s at l + 1) l)) k []
    outside h =
        let past : length l ≤ place_from s at l + 1 = omega (arith, place-outside s at l h) in
        ap (λ (x : List ℕ). get_or (parts_of s x) (suc k) []) (drop_of_length-le l h)
        ∙ parts_none s (suc k)
        ∙ sym (ap (λ (x : List ℕ). get_or (parts_of s x) k []) (drop_of_length-le l past) ∙ parts_none s k)

-- the part that begins at a place
pub part-first : (s from : ℕ) (l : List ℕ) → take (place_from s from l - from) (drop from l) ≡ part_at s 0 (drop from l)
unfolding part_at
part-first s from l = ⊎_elim inside outside (lt-or-le from (length l))
  where
    inside : from < length l → take (place_from s from l - from) (drop from l) ≡ get_or (parts_of s (drop from l)) 0 []
    inside h =
        let size : place_from s from l - from ≡ index_of s (drop from l) = omega (arith, place_inside s from l h) in
        ap (λ (i : ℕ). take i (drop from l)) size ∙ sym (parts_first s (drop from l))

    outside : length l ≤ from → take (place_from s from l - from) (drop from l) ≡ get_or (parts_of s (drop from l)) 0 []
    outside h =
        ap (λ (x : List ℕ). take (place_from s from l - from) x) (drop_of_length-le l h)
        ∙ take-nil (place_from s from l - from)
        ∙ sym (ap (λ (x : List ℕ). get_or (parts_of s x) 0 []) (drop_of_length-le l h) ∙ parts_none s 0)

-- past the end there is none
pub part_none : (s from : ℕ) (l : List ℕ) → place_from s from l < from → [] ≡ part_at s 0 (drop from l)
part_none s from l h =
    let none : place_from s from l - from ≡ 0 = omega arith in
    ap (λ (i : ℕ). take i (drop from l)) (sym none) ∙ part-first s from l
