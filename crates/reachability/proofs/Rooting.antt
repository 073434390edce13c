-- The roots, marked one after the other, and that a search from them finds what can be reached.
-- Assumes nothing.
use Prim.Native.Nat.{ℕ, zero, suc, ◌+◌, ◌<◌, ◌≤◌}
use native.Mathlib.Omega.{arith}
use native.Mathlib.Decide.{ℕ_discrete}
use mathlib.Core.Path.{◌≡◌, refl, sym, ap, ◌∙◌, subst}
use mathlib.Core.Bool.{Bool, true, false, not}
use mathlib.Core.List.{List, [], ◌∷◌}
use mathlib.Core.Logic.{◌⊎◌, inl, inr, ⊎_elim}
use lib.Dec.{ltb}
use lib.ListN.{length, get_or, set, take, replicate, length-set}
use lib.Seq.{get_or-set_same, get_or-set_other}
use borrow.Author.Tests.{lt-ltb, le-ltb}
use Rattle.laws.specs.Tests.{choose}
use Rattle.laws.proofs.Tests.{choose-true, either-true-left, either-true-right, lt-or-le}
use Rattle.cellmap.specs.Marks.{no_marks, is_marked, marked, unmarked}
use Rattle.cellmap.proofs.Counting.{unmarked-less}
use Rattle.instruction.specs.Adding.{is_one_of}
use Rattle.instruction.specs.declared.Cell.{Cell}
use Rattle.machine.proofs.Tests.{clash}
use Rattle.reachability.specs.Graph.{Reached, Counted, is_root}
use Rattle.reachability.specs.Graph.Reached.{from, along}
use Rattle.reachability.specs.Search.{Spread, open_by, Searched, Waiting, marks_with, order_with, count_with}
use Rattle.reachability.specs.Search.Spread.{old, onward}
use Rattle.reachability.proofs.Searching.{marked-here, new-here, one-of-take}

-- the first n places are marked and stand in the order, and nothing else is
pub record Rooted (used : List Bool) (order : List ℕ) (n : ℕ) : Type 0 where
  pub size : length used ≡ 131
  pub long : length order ≡ 131
  pub count : n + unmarked used ≡ 131
  pub marks : (k : ℕ) → is_marked used k ≡ ltb k n
  pub places : (k : ℕ) → k < n → get_or order k 0 ≡ k

off : (n k : ℕ) → get_or (replicate n false) k false ≡ false
off zero k = refl
off (suc n) zero = refl
off (suc n) (suc k) = off n k

pub rooted_none : Rooted no_marks (replicate 131 0) 0
unfolding unmarked choose
rooted_none =
    record {
      size = refl;
      long = refl;
      count = refl;
      marks = λ k. off 131 k ∙ sym (le-ltb k 0 (omega arith));
      places = λ k h. absurd (omega (arith, h));
    }

rooted_next : {used : List Bool} {order : List ℕ} {n : ℕ} → Rooted used order n → n < 131 → Rooted (marked used n) (set order n n) (n + 1)
rooted_next {used} {order} {n} r h =
    let less : unmarked used ≡ suc (unmarked (marked used n)) = unmarked-less used n (omega (arith, h, r.size)) (r.marks n ∙ le-ltb n n (omega arith)) in
    record {
      size = length-set used n true ∙ r.size;
      long = length-set order n n ∙ r.long;
      count = omega (arith, r.count, less);
      marks = λ k. mark k (ℕ_discrete k n);
      places = λ k b. place k b (ℕ_discrete k n);
    }
  where
    mark : (k : ℕ) → Dec (k ≡ n) → is_marked (marked used n) k ≡ ltb k (n + 1)
    mark k (yes e) =
        let b : k < n + 1 = omega (arith, e) in
        subst (λ (j : ℕ). is_marked (marked used n) j ≡ true) (sym e) (marked-here used n (omega (arith, h, r.size))) ∙ sym (lt-ltb k (n + 1) b)
    mark k (no m) = get_or-set_other used n k true false m ∙ r.marks k ∙ one_more (lt-or-le k n)
      where
        one_more : (k < n) ⊎ (n ≤ k) → ltb k n ≡ ltb k (n + 1)
        one_more (inl b) = lt-ltb k n b ∙ sym (lt-ltb k (n + 1) (omega (arith, b)))
        one_more (inr b) = le-ltb k n b ∙ sym (le-ltb k (n + 1) (omega (arith, b, m)))

    place : (k : ℕ) → k < n + 1 → Dec (k ≡ n) → get_or (set order n n) k 0 ≡ k
    place k b (yes e) =
        subst (λ (j : ℕ). get_or (set order n n) j 0 ≡ j) (sym e) (get_or-set_same order n n 0 (omega (arith, h, r.long)))
    place k b (no m) = get_or-set_other order n k n 0 m ∙ r.places k (omega (arith, b, m))

pub room-first : 0 + unmarked no_marks ≤ 131
room-first = omega (arith, rooted_none.count)

-- the place n, which has no mark yet, is found next
pub rooted_more :
    {used used' : List Bool} {order order' : List ℕ} {n c c' : ℕ} → Rooted used order n × (c ≡ n) → n < 131 → c' ≡ count_with used c n →
    used' ≡ marks_with used n → order' ≡ order_with used order c n → Rooted used' order' (n + 1) × (c' ≡ n + 1)
rooted_more {used} {n = n} i h e m o =
    let t = new-here used n h (i.0.marks n ∙ le-ltb n n (omega arith)) in
    rw (m, o, e, i.1, choose-true _ _ _ t, choose-true _ _ _ t, choose-true _ _ _ t) (rooted_next i.0 h, refl)

pub rooted-waiting : {used : List Bool} {order : List ℕ} {n c : ℕ} → Rooted used order n × (c ≡ n) → Waiting used order c
rooted-waiting {used} {order} {n} i =
    let r = i.0 in
    record {
      size = r.size;
      long = r.long;
      room = omega (arith, r.count, i.1);
      on_map = λ t h. ap (is_marked used) (r.places t (omega (arith, h, i.1))) ∙ r.marks t ∙ lt-ltb t n (omega (arith, h, i.1));
    }

-- every cell is open: a root, or one without a mark
opens : {used : List Bool} {order : List ℕ} → Rooted used order 16 → (j : ℕ) → open_by (take 16 order) used j ≡ true
unfolding open_by
opens {used} {order} r j =
    ⊎_elim
    (λ (h : j < 16). let l : j < length order = omega (arith, h, r.long) in
    either-true-left _ _ (subst (λ (k : ℕ). is_one_of (take 16 order) k ≡ true) (r.places j h) (one-of-take order 16 j h l)))
    (λ (h : 16 ≤ j). either-true-right _ _ (ap not (r.marks j ∙ le-ltb j 16 h))) (lt-or-le j 16)

spread-reached :
    (cells : List Cell) {used : List Bool} {order : List ℕ} {k : ℕ} → Rooted used order 16 → Spread cells used (open_by (take 16 order) used) k →
    Reached cells is_root k
unfolding is_root
spread-reached cells {k = k} r (old h t) = from h (sym (r.marks k) ∙ t)
spread-reached cells r (onward h o s x) = along h (spread-reached cells r s) x

reached-spread :
    (cells : List Cell) {used : List Bool} {order : List ℕ} {k : ℕ} → Rooted used order 16 → Reached cells is_root k →
    Spread cells used (open_by (take 16 order) used) k
unfolding is_root
reached-spread cells {k = k} r (from h t) = old h (r.marks k ∙ t)
reached-spread cells r (along {j} h s x) = onward h (opens r j) (reached-spread cells r s) x

rooted-all :
    (cells : List Cell) {used : List Bool} {order : List ℕ} {map : List Bool} → Rooted used order 16 → Searched cells (take 16 order) used map →
    Counted cells is_root map
rooted-all cells r s =
    record {
      size = s.size;
      exactly = λ k h. (λ t. spread-reached cells r ((s.exactly k h).0 t), λ x. (s.exactly k h).1 (reached-spread cells r x));
    }

pub rooted-counted :
    (cells : List Cell) {used : List Bool} {order : List ℕ} {map : List Bool} {n c : ℕ} → Rooted used order n × (c ≡ n) → n ≡ 16 →
    Searched cells (take c order) used map → Counted cells is_root map
rooted-counted cells {used} {order} {map} i e s =
    rooted-all cells (subst (Rooted used order) e i.0) (subst (λ (n : ℕ). Searched cells (take n order) used map) (i.1 ∙ e) s)

-- ---- one cell to follow

some-marked : (used : List Bool) (k : ℕ) → is_marked used k ≡ true → unmarked used < length used
unfolding unmarked choose
some-marked [] k t = clash t
some-marked (true ∷ used) zero t = let h = most used in omega (arith, h)
  where
    most : (used : List Bool) → unmarked used ≤ length used
    most [] = omega arith
    most (true ∷ used) = let h = most used in omega (arith, h)
    most (false ∷ used) = let h = most used in omega (arith, h)
some-marked (false ∷ used) zero t = clash t
some-marked (true ∷ used) (suc k) t = let h = some-marked used k t in omega (arith, h)
some-marked (false ∷ used) (suc k) t = let h = some-marked used k t in omega (arith, h)

pub one-room : (used : List Bool) (k : ℕ) → length used ≡ 131 → is_marked used k ≡ true → 1 + unmarked used ≤ 131
one-room used k l t = omega (arith, some-marked used k t, l)

pub one-waiting : {used : List Bool} {order : List ℕ} {k : ℕ} → length used ≡ 131 → length order ≡ 131 → is_marked used k ≡ true → get_or order 0 0 ≡ k → Waiting used order 1
one-waiting {used} {order} {k} l m t e =
    record {
      size = l;
      long = m;
      room = one-room used k l t;
      on_map = λ i h. let z : i ≡ 0 = omega (arith, h) in ap (λ (j : ℕ). is_marked used (get_or order j 0)) z ∙ ap (is_marked used) e ∙ t;
    }
