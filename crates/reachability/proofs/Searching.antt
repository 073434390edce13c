-- What a search keeps from turn to turn, and that it has found all when no cell is left to follow.
-- Assumes nothing.
use Prim.Native.Nat.{ℕ, zero, suc, ◌+◌, ◌<◌, ◌≤◌}
use native.Mathlib.Omega.{arith}
use native.Mathlib.Decide.{ℕ_discrete}
use mathlib.Core.Path.{◌≡◌, refl, sym, ap, ◌∙◌, subst}
use mathlib.Core.Bool.{Bool, true, false, not}
use mathlib.Core.List.{List, [], ◌∷◌}
use mathlib.Core.Logic.{◌⊎◌, inl, inr, ⊎_elim, ◌↔◌}
use lib.Dec.{eqb, ltb}
use lib.ListN.{length, get_or, set, take, length-set}
use lib.Seq.{get_or-set_same, get_or-set_other}
use borrow.Author.Tests.{eq-eqb, eqb-true, ltb-true, lt-ltb, le-ltb, not-true, not-false}
use Rattle.laws.specs.Tests.{both}
use Rattle.laws.proofs.Tests.{choose-by, choose-true, choose-false, both_left, both_right, both_true, either-true-left, either-true-right, either-cases}
use Rattle.laws.proofs.Joins.{both-on, both-false-left, both-false-right}
use Rattle.cellmap.specs.Marks.{is_marked, marked, unmarked}
use Rattle.cellmap.proofs.Counting.{unmarked-less}
use Rattle.instruction.specs.Adding.{is_one_of}
use Rattle.instruction.specs.declared.Cell.{Cell}
use Rattle.machine.specs.Record.{null_cell}
use Rattle.machine.proofs.Tests.{clash}
use Rattle.reachability.specs.Graph.{next_place, jump_place, leads, Link, Reached}
use Rattle.reachability.specs.Graph.Link.{by_next, by_jump}
use Rattle.reachability.specs.Graph.Reached.{from, along}
use Rattle.reachability.specs.Search.{Spread, open_by, Waiting, is_new, marks_with, order_with, count_with}
use Rattle.reachability.specs.Search.Spread.{old, onward}

-- ---- marks

-- a mark lies within the map
pub inside : (used : List Bool) (k : ℕ) → is_marked used k ≡ true → k < length used
inside [] k t = clash t
inside (x ∷ used) zero t = omega arith
inside (x ∷ used) (suc k) t = let h = inside used k t in omega (arith, h)

pub marked-here : (used : List Bool) (k : ℕ) → k < length used → is_marked (marked used k) k ≡ true
marked-here used k h = get_or-set_same used k true false h

pub marked-still : (used : List Bool) (k j : ℕ) → is_marked used j ≡ true → is_marked (marked used k) j ≡ true
marked-still used k j t = by (ℕ_discrete k j)
  where
    by : Dec (k ≡ j) → is_marked (marked used k) j ≡ true
    by (yes e) = subst (λ (i : ℕ). is_marked (marked used k) i ≡ true) e (marked-here used k (subst (λ (i : ℕ). i < length used) (sym e) (inside used j t)))
    by (no n) = get_or-set_other used k j true false (λ e. n (sym e)) ∙ t

-- a mark is the new one, or was there
pub marked-before : (used : List Bool) (k j : ℕ) → is_marked (marked used k) j ≡ true → (j ≡ k) ⊎ (is_marked used j ≡ true)
marked-before used k j t = by (ℕ_discrete k j)
  where
    by : Dec (k ≡ j) → (j ≡ k) ⊎ (is_marked used j ≡ true)
    by (yes e) = inl (sym e)
    by (no n) = inr (sym (get_or-set_other used k j true false (λ e. n (sym e))) ∙ t)

-- ---- ways, and what is reached

pub leads-link : (cells : List Cell) (j k : ℕ) → leads (get_or cells j null_cell) k ≡ true → Link cells j k
leads-link cells j k t =
    ⊎_elim (λ (e : eqb (next_place (get_or cells j null_cell)) k ≡ true). subst (Link cells j) (eqb-true _ k e) by_next)
    (λ (e : eqb (jump_place (get_or cells j null_cell)) k ≡ true). subst (Link cells j) (eqb-true _ k e) by_jump) (either-cases _ _ t)

pub reached-small : {cells : List Cell} {start : ℕ → Bool} {k : ℕ} → Reached cells start k → k < 131
reached-small (from h t) = h
reached-small (along h r x) = h

-- ---- what is found

pub new-beyond : (used : List Bool) (k : ℕ) → 131 ≤ k → is_new used k ≡ false
unfolding is_new
new-beyond used k h = both-false-left _ _ (le-ltb k 131 h)

pub new-marked : (used : List Bool) (k : ℕ) → is_marked used k ≡ true → is_new used k ≡ false
unfolding is_new
new-marked used k t = both-false-right _ _ (ap not t)

pub new-here : (used : List Bool) (k : ℕ) → k < 131 → is_marked used k ≡ false → is_new used k ≡ true
unfolding is_new
new-here used k h t = both_true (lt-ltb k 131 h) (ap not t)

-- there is room for a cell without a mark
pub room-here : (used : List Bool) (n k : ℕ) → n + unmarked used ≤ 131 → k < length used → is_marked used k ≡ false → n < 131
room-here used n k r h t = omega (arith, r, unmarked-less used k h t)

-- a place below 131 is marked once it is found
found_in : (used : List Bool) (k : ℕ) → length used ≡ 131 → k < 131 → is_marked (marks_with used k) k ≡ true
unfolding is_new
found_in used k l h =
    choose-by (λ (x : List Bool). is_marked x k ≡ true) (both (ltb k 131) (not (is_marked used k)))
    (λ _. marked-here used k (omega (arith, h, l)))
    (λ n. not-false _ (sym (both-on _ _ (lt-ltb k 131 h)) ∙ n))

found_here : (used : List Bool) {used' : List Bool} {j k : ℕ} → used' ≡ marks_with used k → k ≡ j → length used ≡ 131 → j < 131 → is_marked used' j ≡ true
found_here used {j = j} e q l h = rw (e, q) (found_in used j l h)

found-still : (used : List Bool) {used' : List Bool} (j k : ℕ) → used' ≡ marks_with used k → is_marked used j ≡ true → is_marked used' j ≡ true
found-still used j k e t =
    rw e (choose-by (λ (x : List Bool). is_marked x j ≡ true) (is_new used k) (λ _. marked-still used k j t) (λ _. t))

-- what stands in the order is left there
set-still : (order : List ℕ) (n k t : ℕ) → t < n → get_or (set order n k) t 0 ≡ get_or order t 0
set-still order n k t h = get_or-set_other order n t k 0 (λ e. omega (arith, h, e))

order-still : (used : List Bool) (order : List ℕ) (n k t : ℕ) → t < n → get_or (order_with used order n k) t 0 ≡ get_or order t 0
order-still used order n k t h =
    choose-by (λ (x : List ℕ). get_or x t 0 ≡ get_or order t 0) (is_new used k) (λ _. set-still order n k t h) (λ _. refl)

-- ---- a search under way

-- a cell stands in the order from a place on
abbrev pub Waits : List ℕ → ℕ → ℕ → ℕ → Type 0
Waits order n i j = (t : ℕ) × ((i ≤ t) × ((t < n) × (get_or order t 0 ≡ j)))

-- what a cell leads to is marked
abbrev pub Leads : List Cell → List Bool → ℕ → Type 0
Leads cells used j = (k : ℕ) → k < 131 → Link cells j k → is_marked used k ≡ true

-- after the first i cells of the order
pub record Under (cells : List Cell) (first : List Bool) (is_open : ℕ → Bool) (used : List Bool) (order : List ℕ) (n i : ℕ) : Type 0 where
  pub size : length used ≡ 131
  pub long : length order ≡ 131
  pub reached : i ≤ n
  pub room : n + unmarked used ≤ 131
  pub on_map : (t : ℕ) → t < n → is_marked used (get_or order t 0) ≡ true
  pub opens : (t : ℕ) → t < n → is_open (get_or order t 0) ≡ true
  pub fresh : (j : ℕ) → is_marked first j ≡ false → is_open j ≡ true
  pub above : (j : ℕ) → is_marked first j ≡ true → is_marked used j ≡ true
  pub below : (j : ℕ) → is_marked used j ≡ true → Spread cells first is_open j
  pub followed : (j : ℕ) → is_marked used j ≡ true → is_open j ≡ true → Waits order n i j ⊎ Leads cells used j

-- the ways of a cell whose two places are marked
pub leads-both :
    (cells : List Cell) (used : List Bool) (j : ℕ) → (next_place (get_or cells j null_cell) < 131 → is_marked used (next_place (get_or cells j null_cell)) ≡ true) →
    (jump_place (get_or cells j null_cell) < 131 → is_marked used (jump_place (get_or cells j null_cell)) ≡ true) → Leads cells used j
leads-both cells used j f g k h by_next = f h
leads-both cells used j f g k h by_jump = g h

module _ {cells : List Cell} {first : List Bool} {is_open : ℕ → Bool} where
  -- a cell that the present one leads to, and that has no mark
  under-new :
      {used : List Bool} {order : List ℕ} {n i k : ℕ} → Under cells first is_open used order n i → i < n → Link cells (get_or order i 0) k →
      k < 131 → is_marked used k ≡ false → Under cells first is_open (marked used k) (set order n k) (n + 1) i
  under-new {used} {order} {n} {i} {k} u h x small off =
      let less : unmarked used ≡ suc (unmarked (marked used k)) = unmarked-less used k (omega (arith, small, u.size)) off in
      let free : n < 131 = room-here used n k u.room (omega (arith, small, u.size)) off in
      let last : get_or (set order n k) n 0 ≡ k = get_or-set_same order n k 0 (omega (arith, free, u.long)) in
      record {
        size = length-set used k true ∙ u.size;
        long = length-set order n k ∙ u.long;
        reached = omega (arith, u.reached);
        room = omega (arith, u.room, less);
        on_map = λ t b. by_last t b (λ j. is_marked (marked used k) j ≡ true) last (λ c. marked-still used k _ (u.on_map t c)) (marked-here used k (omega (arith, small, u.size)));
        opens = λ t b. by_last t b (λ j. is_open j ≡ true) last (u.opens t) (u.fresh k was-off);
        fresh = u.fresh;
        above = λ j t. marked-still used k j (u.above j t);
        below = λ j t.
            ⊎_elim (λ (e : j ≡ k). subst (Spread cells first is_open) (sym e) (onward small (u.opens i h) (u.below _ (u.on_map i h)) x))
            (λ (g : is_marked used j ≡ true). u.below j g) (marked-before used k j t);
        followed = λ j t o.
            ⊎_elim (λ (e : j ≡ k). inl (n, (omega (arith, u.reached), (omega arith, last ∙ sym e))))
            (λ (g : is_marked used j ≡ true). still j (u.followed j g o)) (marked-before used k j t);
      }
    where
      by_last :
          (t : ℕ) → t < n + 1 → (P : ℕ → Type 0) → get_or (set order n k) n 0 ≡ k → (t < n → P (get_or order t 0)) → P k →
          P (get_or (set order n k) t 0)
      by_last t b P last f p = by (ℕ_discrete t n)
        where
          by : Dec (t ≡ n) → P (get_or (set order n k) t 0)
          by (yes e) = subst (λ (s : ℕ). P (get_or (set order n k) s 0)) (sym e) (subst P (sym last) p)
          by (no m) = let c : t < n = omega (arith, b, m) in subst P (sym (set-still order n k t c)) (f c)

      was-off : is_marked first k ≡ false
      was-off = off-by (is_marked first k) refl
        where
          off-by : (b : Bool) → is_marked first k ≡ b → is_marked first k ≡ false
          off-by true e = clash (sym off ∙ u.above k e)
          off-by false e = e

      still :
          (j : ℕ) → Waits order n i j ⊎ Leads cells used j → Waits (set order n k) (n + 1) i j ⊎ Leads cells (marked used k) j
      still j (inl w) = inl (w.0, (w.1.0, (omega (arith, w.1.1.0), set-still order n k w.0 w.1.1.0 ∙ w.1.1.1)))
      still j (inr f) = inr (λ m b y. marked-still used k m (f m b y))

  -- a cell that the present one leads to
  pub under-found :
      {used : List Bool} {order : List ℕ} {n i k : ℕ} → Under cells first is_open used order n i → i < n → Link cells (get_or order i 0) k →
      Under cells first is_open (marks_with used k) (order_with used order n k) (count_with used n k) i
  unfolding is_new
  under-found {used} {order} {n} {i} {k} u h x = by (is_new used k) refl
    where
      by : (b : Bool) → is_new used k ≡ b → Under cells first is_open (marks_with used k) (order_with used order n k) (count_with used n k) i
      by true e =
          rw (choose-true _ (marked used k) used e, choose-true _ (set order n k) order e, choose-true _ (n + 1) n e)
          (under-new u h x (ltb-true k 131 (both_left _ _ e)) (not-true _ (both_right _ _ e)))
      by false e = rw (choose-false _ (marked used k) used e, choose-false _ (set order n k) order e, choose-false _ (n + 1) n e) u

  -- the present cell's ways are marked
  pub under-passed :
      {used : List Bool} {order : List ℕ} {n i : ℕ} → Under cells first is_open used order n i → i < n → Leads cells used (get_or order i 0) →
      Under cells first is_open used order n (i + 1)
  under-passed {used} {order} {n} {i} u h f =
      record {
        size = u.size;
        long = u.long;
        reached = omega (arith, h);
        room = u.room;
        on_map = u.on_map;
        opens = u.opens;
        fresh = u.fresh;
        above = u.above;
        below = u.below;
        followed = λ j t o. ⊎_elim (later j) (λ (g : Leads cells used j). inr g) (u.followed j t o);
      }
    where
      later : (j : ℕ) → Waits order n i j → Waits order n (i + 1) j ⊎ Leads cells used j
      later j w = by (ℕ_discrete w.0 i)
        where
          by : Dec (w.0 ≡ i) → Waits order n (i + 1) j ⊎ Leads cells used j
          by (yes e) = inr (subst (Leads cells used) (sym (ap (λ (s : ℕ). get_or order s 0) e) ∙ w.1.1.1) f)
          by (no m) = inl (w.0, (omega (arith, w.1.0, m), (w.1.1.0, w.1.1.1)))

  -- a cell of the order is one of the 131
  pub under-place : {used : List Bool} {order : List ℕ} {n i t : ℕ} → Under cells first is_open used order n i → t < n → get_or order t 0 < 131
  under-place {used} {t = t} u h = omega (arith, inside used _ (u.on_map t h), u.size)

  -- one cell's next is found
  pub under-half :
      {used used' : List Bool} {order order' : List ℕ} {n n' i k : ℕ} → Under cells first is_open used order n i → i < n →
      k ≡ next_place (get_or cells (get_or order i 0) null_cell) → n' ≡ count_with used n k → used' ≡ marks_with used k → order' ≡ order_with used order n k →
      Under cells first is_open used' order' n' i
  under-half {order = order} {i = i} u h e en eu eo = rw (en, eu, eo) (under-found u h (subst (Link cells (get_or order i 0)) (sym e) by_next))

  -- then its jump
  pub under-turn :
      {used used' used'' : List Bool} {order order' order'' : List ℕ} {n n' n'' i k m : ℕ} → Under cells first is_open used order n i → i < n →
      k ≡ next_place (get_or cells (get_or order i 0) null_cell) → n' ≡ count_with used n k → used' ≡ marks_with used k → order' ≡ order_with used order n k →
      m ≡ jump_place (get_or cells (get_or order i 0) null_cell) → n'' ≡ count_with used' n' m → used'' ≡ marks_with used' m → order'' ≡ order_with used' order' n' m →
      Under cells first is_open used'' order'' n'' (i + 1)
  under-turn {used} {used'} {used''} {order} {order'} {order''} {n} {n'} {n''} {i} {k} {m} u h e en eu eo f fn fu fo =
      let v : Under cells first is_open used' order' n' i = under-half u h e en eu eo in
      let g : i < n' = subst (λ (y : ℕ). i < y) (sym en) (choose-by (λ (y : ℕ). i < y) (is_new used k) (λ _. omega (arith, h)) (λ _. h)) in
      let s : get_or order' i 0 ≡ get_or order i 0 = ap (λ (y : List ℕ). get_or y i 0) eo ∙ order-still used order n k i h in
      let x : Link cells (get_or order' i 0) m = subst (λ (y : ℕ). Link cells y m) (sym s) (subst (Link cells (get_or order i 0)) (sym f) by_jump) in
      let w : Under cells first is_open used'' order'' n'' i = rw (fn, fu, fo) (under-found v g x) in
      let b : i < n'' = subst (λ (y : ℕ). i < y) (sym fn) (choose-by (λ (y : ℕ). i < y) (is_new used' m) (λ _. omega (arith, g)) (λ _. g)) in
      let z : get_or order'' i 0 ≡ get_or order i 0 = ap (λ (y : List ℕ). get_or y i 0) fo ∙ order-still used' order' n' m i g ∙ s in
      under-passed w b
      (subst (Leads cells used'') (sym z)
      (leads-both cells used'' (get_or order i 0) (λ t. found-still used' _ m fu (found_here used eu e u.size t)) (found_here used' fu f v.size)))

  -- no cell is left to follow
  pub under-ended :
      {used : List Bool} {order : List ℕ} {n i : ℕ} → Under cells first is_open used order n i → n ≤ i → (k : ℕ) → k < 131 →
      (is_marked used k ≡ true) ↔ Spread cells first is_open k
  under-ended {used} {order} {n} {i} u h k small = (u.below k, all)
    where
      all : {k : ℕ} → Spread cells first is_open k → is_marked used k ≡ true
      all (old b t) = u.above _ t
      all {k} (onward {j} b o s x) =
          ⊎_elim (λ (w : Waits order n i j). absurd (omega (arith, w.1.0, w.1.1.0, h))) (λ (f : Leads cells used j). f k b x) (u.followed j (all s) o)

-- ---- where it begins

pub one-of-take : (order : List ℕ) (n t : ℕ) → t < n → t < length order → is_one_of (take n order) (get_or order t 0) ≡ true
unfolding is_one_of
one-of-take [] n t h l = absurd (omega (arith, l))
one-of-take (x ∷ order) zero t h l = absurd (omega (arith, h))
one-of-take (x ∷ order) (suc n) zero h l = either-true-left _ _ (eq-eqb x x refl)
one-of-take (x ∷ order) (suc n) (suc t) h l = either-true-right _ _ (one-of-take order n t (omega (arith, h)) (omega (arith, l)))

one-of-place : (order : List ℕ) (n j : ℕ) → is_one_of (take n order) j ≡ true → (t : ℕ) × ((t < n) × (get_or order t 0 ≡ j))
unfolding is_one_of
one-of-place [] zero j e = clash e
one-of-place [] (suc n) j e = clash e
one-of-place (x ∷ order) zero j e = clash e
one-of-place (x ∷ order) (suc n) j e =
    ⊎_elim (λ (h : eqb j x ≡ true). (0, (omega arith, sym (eqb-true j x h))))
    (λ (h : is_one_of (take n order) j ≡ true). let w = one-of-place order n j h in (suc w.0, (omega (arith, w.1.0), w.1.1)))
    (either-cases (eqb j x) (is_one_of (take n order) j) e)

pub under-start :
    (cells : List Cell) {used : List Bool} {order : List ℕ} {n : ℕ} → Waiting used order n →
    Under cells used (open_by (take n order) used) used order n 0
unfolding open_by
under-start cells {used} {order} {n} w =
    record {
      size = w.size;
      long = w.long;
      reached = omega arith;
      room = w.room;
      on_map = w.on_map;
      opens = λ t h. either-true-left _ _ (one-of-take order n t h (omega (arith, h, w.room, w.long)));
      fresh = λ j e. either-true-right _ _ (ap not e);
      above = λ j t. t;
      below = λ j t. let h : j < 131 = omega (arith, inside used j t, w.size) in old h t;
      followed = λ j t o.
          ⊎_elim (λ (e : is_one_of (take n order) j ≡ true). let p = one-of-place order n j e in inl (p.0, (omega arith, p.1)))
          (λ (e : not (is_marked used j) ≡ true). clash (sym (not-true _ e) ∙ t)) (either-cases _ _ o);
    }
