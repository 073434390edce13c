-- The place of a name in a list, and the names of the record's fields.
-- Assumes nothing.
use Rattle.std.proofs.Common.{◌≡◌, ℕ, suc, ◌+◌, ◌<◌, ◌≤◌, Bool, true, false, ◌⊎◌, List, [], ◌∷◌, ◌++◌, length, get_or, drop, sym, refl, ap, ◌∙◌, inl, inr, add-one, arith, drop-cons, eq-eqb, ne_eqb, eqb-true}
use lib.Seq.{drop-length}
use Rattle.laws.specs.Tests.{both, either}
use Rattle.laws.specs.Text.{bytes}
use Rattle.laws.proofs.Tests.{both_left, both_right}
use Rattle.laws.proofs.Telling.{told}
use Rattle.scan.specs.Bytes.{index_after}
use Rattle.script.specs.Words.{in_first, parts_from, parts_of, words_of, same_bytes, place_of}
use Rattle.script.specs.Writes.{field_names, signed_places, one_of, is_signed}

-- ---- equal bytes

same_refl : (a : List ℕ) → same_bytes a a ≡ true
unfolding same_bytes both
same_refl [] = refl
same_refl (a ∷ s) = rw (eq-eqb a a refl) (same_refl s)

pub same-eq : (a b : List ℕ) → same_bytes a b ≡ true → a ≡ b
unfolding same_bytes
same-eq [] [] t = refl
same-eq [] (b ∷ bs) t = cc
same-eq (a ∷ s) [] t = cc
same-eq (a ∷ s) (b ∷ bs) t =
    let head : a ≡ b = eqb-true a b (both_left _ _ t) in
    let tail : s ≡ bs = same-eq s bs (both_right _ _ t) in
    cc

-- what tells equal bytes is the test
pub same_as : (r : Bool) (a b : List ℕ) → (r ≡ true → a ≡ b) → (a ≡ b → r ≡ true) → r ≡ same_bytes a b
same_as true a b f g = sym (ap (λ (x : List ℕ). same_bytes x b) (f refl) ∙ same_refl b)
same_as false a b f g = otherwise (same_bytes a b) refl
  where
    otherwise : (t : Bool) → same_bytes a b ≡ t → false ≡ t
    otherwise true e = g (same-eq a b e)
    otherwise false e = refl

-- ---- the place of a name

pub place_here :
    (name : List ℕ) (ns : List (List ℕ)) (k : ℕ) → k < length ns → same_bytes (get_or ns k []) name ≡ true →
    place_of name (drop k ns) ≡ 0
unfolding place_of index_after
place_here name ns k h e = rw (drop-cons ns k [] h) (rw e)

pub place-next :
    (name : List ℕ) (ns : List (List ℕ)) (k : ℕ) → k < length ns → same_bytes (get_or ns k []) name ≡ false →
    place_of name (drop k ns) ≡ suc (place_of name (drop (k + 1) ns))
unfolding place_of index_after
place-next name ns k h e = rw (add-one k, drop-cons ns k [] h) (rw e)

pub place_end : (name : List ℕ) (ns : List (List ℕ)) (k : ℕ) → k ≡ length ns → place_of name (drop k ns) ≡ 0
unfolding place_of
place_end name ns k e = rw (e, drop-length ns)

-- ---- the place in two lists, one behind the other

first_of : (t : Bool) (a b n : ℕ) → index_after t a < suc n → (a < n → b ≡ a) → index_after t b ≡ index_after t a
unfolding index_after
first_of true a b n h f = refl
first_of false a b n h f = ap suc (f (omega arith))

later_of : (t : Bool) (a b n m : ℕ) → suc n ≤ index_after t a → (n ≤ a → b ≡ n + m) → index_after t b ≡ suc n + m
unfolding index_after
later_of true a b n m h f = absurd (omega arith)
later_of false a b n m h f = omega (arith, f (omega arith))

pub place-first : (name : List ℕ) (xs ys : List (List ℕ)) → place_of name xs < length xs → place_of name (xs ++ ys) ≡ place_of name xs
unfolding place_of
place-first name [] ys h = absurd (omega arith)
place-first name (x ∷ xs) ys h =
    first_of (same_bytes x name) (place_of name xs) (place_of name (xs ++ ys)) (length xs) h (place-first name xs ys)

pub place-later :
    (name : List ℕ) (xs ys : List (List ℕ)) → length xs ≤ place_of name xs → place_of name (xs ++ ys) ≡ length xs + place_of name ys
unfolding place_of
place-later name [] ys h = omega arith
place-later name (x ∷ xs) ys h =
    later_of (same_bytes x name) (place_of name xs) (place_of name (xs ++ ys)) (length xs) (place_of name ys) h (place-later name xs ys)

pub place-within : (name : List ℕ) (xs : List (List ℕ)) → place_of name xs ≤ length xs
unfolding place_of index_after
place-within name [] = omega arith
place-within name (x ∷ xs) = within_of (same_bytes x name) (place-within name xs)
  where
    within_of : (t : Bool) → place_of name xs ≤ length xs → index_after t (place_of name xs) ≤ suc (length xs)
    within_of true h = omega arith
    within_of false h = omega arith

-- ---- the names of the fields

-- the two lists of the code
abbrev pub earlier : List (List ℕ)
earlier = words_of (bytes "ad in rs es cm pos inp camset campos")

abbrev pub later : List (List ℕ)
later = words_of (bytes "errcode errcell reccell recrest recloop cell phase rest loop mark")

pub names-split : field_names ≡ earlier ++ later
unfolding field_names parts_of parts_from in_first bytes
names-split = refl

pub names_count : (length earlier ≡ 9) × ((length later ≡ 10) × (length field_names ≡ 19))
unfolding field_names parts_of parts_from in_first bytes
names_count = (refl, (refl, refl))

pub signed-places : signed_places ≡ 5 ∷ 8 ∷ 12 ∷ 16 ∷ []
unfolding signed_places place_of same_bytes both index_after field_names parts_of parts_from in_first bytes
signed-places = refl

pub signed-one : (p : ℕ) → (p ≡ 5) ⊎ ((p ≡ 8) ⊎ ((p ≡ 12) ⊎ (p ≡ 16))) → true ≡ is_signed p
unfolding is_signed one_of either
signed-one p (inl e) = rw signed-places (told (one_of (5 ∷ 8 ∷ 12 ∷ 16 ∷ [])) e refl)
signed-one p (inr (inl e)) = rw signed-places (told (one_of (5 ∷ 8 ∷ 12 ∷ 16 ∷ [])) e refl)
signed-one p (inr (inr (inl e))) = rw signed-places (told (one_of (5 ∷ 8 ∷ 12 ∷ 16 ∷ [])) e refl)
signed-one p (inr (inr (inr e))) = rw signed-places (told (one_of (5 ∷ 8 ∷ 12 ∷ 16 ∷ [])) e refl)

pub signed-none : (p : ℕ) → ((p ≡ 5) ⊎ ((p ≡ 8) ⊎ ((p ≡ 12) ⊎ (p ≡ 16))) → ⊥) → false ≡ is_signed p
unfolding is_signed one_of either
signed-none p n =
    rw signed-places
    (simp (
      ne_eqb p 5 (λ e. n (inl e)),
      ne_eqb p 8 (λ e. n (inr (inl e))),
      ne_eqb p 12 (λ e. n (inr (inr (inl e)))),
      ne_eqb p 16 (λ e. n (inr (inr (inr e)))),
    ))
