-- A map that is right for a memory is right for the next one: where no way of a used cell changed, where one was added, and where it was counted.
-- Assumes nothing.
use Prim.Native.Nat.{ℕ, ◌<◌, ◌≤◌}
use native.Mathlib.Omega.{arith}
use native.Mathlib.Decide.{ℕ_discrete}
use mathlib.Core.Path.{◌≡◌, refl, sym, ap, ◌∙◌, subst}
use mathlib.Core.Bool.{Bool, true, false, not}
use mathlib.Core.List.{List, [], ◌∷◌}
use mathlib.Core.Logic.{⊎_elim}
use lib.Dec.{leb}
use lib.ListN.{length, get_or}
use borrow.Author.Tests.{eq-eqb, leb-true, not-true, not-false}
use Rattle.laws.specs.Tests.{either}
use Rattle.laws.proofs.Tests.{both_left, both_right, both_true, either_left, either-right, either-true-left, either-true-right, either-cases}
use Rattle.cellmap.specs.Marks.{is_marked}
use Rattle.instruction.specs.Adding.{is_one_of}
use Rattle.instruction.specs.declared.Cell.{Cell}
use Rattle.machine.specs.Record.{null_cell}
use Rattle.machine.proofs.Tests.{clash, by-test}
use Rattle.reachability.specs.Graph.{next_place, jump_place, Link, Reached, Counted, is_root}
use Rattle.reachability.specs.Graph.Link.{by_next, by_jump}
use Rattle.reachability.specs.Graph.Reached.{from, along}
use Rattle.reachability.specs.Search.{Spread, open_by, Grown}
use Rattle.reachability.specs.Search.Spread.{old, onward}
use Rattle.reachability.proofs.Searching.{leads-link, inside, reached-small}
use Rattle.usage.specs.Updating.{leads_to, loses, idles, Updated}
use Rattle.usage.specs.Updating.Updated.{kept, grown, recounted}

-- the second test alone, where the first fails
pub either-off : {a b : Bool} → a ≡ false → either a b ≡ b
unfolding either
either-off e = rw e

-- ---- ways

-- each way of a cell in one memory is one in the other
abbrev pub Shares : List Cell → List Cell → ℕ → Type 0
Shares before after j = (k : ℕ) → k < 131 → Link before j k → Link after j k

-- a cell that leads to a place has a way there
leads-way : (cells : List Cell) (j k : ℕ) → k < 131 → leads_to (get_or cells j null_cell) k ≡ true → Link cells j k
unfolding leads_to
leads-way cells j k h t =
    ⊎_elim (λ (e : leb 131 k ≡ true). absurd (omega (arith, h, leb-true 131 k e))) (leads-link cells j k) (either-cases (leb 131 k) _ t)

-- no way is taken off
pub shares-kept : (before after : List Cell) (j : ℕ) → loses (get_or before j null_cell) (get_or after j null_cell) ≡ false → Shares before after j
unfolding loses
shares-kept before after j t k h by_next = leads-way after j _ h (both_left _ _ (not-false _ t))
shares-kept before after j t k h by_jump = leads-way after j _ h (both_right _ _ (not-false _ t))

-- the same cell has the same ways
pub shares-same : (before after : List Cell) (j : ℕ) → get_or before j null_cell ≡ get_or after j null_cell → Shares before after j
shares-same before after j e k h by_next = subst (λ (c : Cell). Link after j (next_place c)) (sym e) by_next
shares-same before after j e k h by_jump = subst (λ (c : Cell). Link after j (jump_place c)) (sym e) by_jump

-- each way of a marked cell is one in the other memory
abbrev Keeps : List Cell → List Cell → List Bool → Type 0
Keeps before after used = (j : ℕ) → is_marked used j ≡ true → Shares before after j

-- each way of every cell but one is
abbrev Elsewhere : ℕ → List Cell → List Cell → Type 0
Elsewhere at before after = (j : ℕ) → (j ≡ at → ⊥) → Shares before after j

module _ (before after : List Cell) (used : List Bool) where
  -- ---- no way of a used cell changed

  forth : {k : ℕ} → Counted before is_root used → Keeps before after used → Reached before is_root k → Reached after is_root k
  forth c f (from h t) = from h t
  forth {k} c f (along {j} h r x) = along h (forth c f r) (f j ((c.exactly j (reached-small r)).1 r) k h x)

  back : {k : ℕ} → Counted before is_root used → Keeps after before used → Reached after is_root k → is_marked used k ≡ true
  back {k} c g (from h t) = (c.exactly k h).1 (from h t)
  back {k} c g (along {j} h r x) =
      let t = back c g r in
      (c.exactly k h).1 (along h ((c.exactly j (reached-small r)).0 t) (g j t k h x))

  kept-counted : Counted before is_root used → Keeps before after used → Keeps after before used → Counted after is_root used
  kept-counted c f g = record { size = c.size; exactly = λ k h. (λ t. forth c f ((c.exactly k h).0 t), back c g) }

  -- ---- the cell at a place has more ways

  spread-reached :
      (at : ℕ) {k : ℕ} → Counted before is_root used → Keeps before after used → Spread after used (open_by (at ∷ []) used) k → Reached after is_root k
  spread-reached at {k} c f (old h t) = forth c f ((c.exactly k h).0 t)
  spread-reached at c f (onward h o s x) = along h (spread-reached at c f s) x

  -- a cell that is not open is another than the changed one, and was reached before
  shut : (at j : ℕ) → open_by (at ∷ []) used j ≡ false → (j ≡ at → ⊥) × (is_marked used j ≡ true)
  unfolding open_by is_one_of
  shut at j o = (
    λ e. clash (sym (either_left _ _ (either_left _ _ o)) ∙ eq-eqb j at e),
    not-false _ (either-right _ _ o),
  )

  reached-spread :
      (at : ℕ) {k : ℕ} → Counted before is_root used → Elsewhere at after before → Reached after is_root k → Spread after used (open_by (at ∷ []) used) k
  reached-spread at {k} c g (from h t) = old h ((c.exactly k h).1 (from h t))
  reached-spread at {k} c g (along {j} h r x) =
      by-test (open_by (at ∷ []) used j) (λ o. onward h o (reached-spread at c g r) x)
      (λ o. let s = shut at j o in old h ((c.exactly k h).1 (along h ((c.exactly j (reached-small r)).0 s.1) (g j s.0 k h x))))

  grown-counted :
      (at : ℕ) {map : List Bool} → Counted before is_root used → Keeps before after used → Elsewhere at after before → Grown after at used map →
      Counted after is_root map
  grown-counted at c f g s =
      record {
        size = s.size;
        exactly = λ k h. (λ t. spread-reached at c f ((s.exactly k h).0 t), λ r. (s.exactly k h).1 (reached-spread at c g r));
      }

-- ---- an update

-- the same memory but for one place
abbrev pub Apart : ℕ → List Cell → List Cell → Type 0
Apart at before after = (j : ℕ) → (j ≡ at → ⊥) → get_or before j null_cell ≡ get_or after j null_cell

-- a way of a cell is one of the other where those at the place are
shared :
    (before after : List Cell) (at : ℕ) → Apart at before after → loses (get_or before at null_cell) (get_or after at null_cell) ≡ false →
    (j : ℕ) → Shares before after j
shared before after at same l j = by (ℕ_discrete j at)
  where
    by : Dec (j ≡ at) → Shares before after j
    by (yes e) = subst (Shares before after) (sym e) (shares-kept before after at l)
    by (no n) = shares-same before after j (same j n)

pub updated-counted :
    (before after : List Cell) (at : ℕ) {used map : List Bool} → Apart at before after → Updated before after at used map →
    Counted before is_root used → Counted after is_root map
unfolding idles
updated-counted before after at {used} same (kept t) c =
    ⊎_elim (λ (o : not (is_marked used at) ≡ true).
    kept-counted before after used c (λ j m. shares-same before after j (same j (off o j m))) (λ j m. shares-same after before j (sym (same j (off o j m)))))
    (λ e. kept-counted before after used c (λ j m. shared before after at same (not-true _ (both_left _ _ e)) j)
    (λ j m. shared after before at (λ j n. sym (same j n)) (not-true _ (both_right _ _ e)) j))
    (either-cases (not (is_marked used at)) _ t)
  where
    off : not (is_marked used at) ≡ true → (j : ℕ) → is_marked used j ≡ true → j ≡ at → ⊥
    off o j m e = clash (sym (not-true _ o) ∙ sym (ap (is_marked used) e) ∙ m)
updated-counted before after at {used} same (grown m l g s) c =
    grown-counted before after used at c (λ j t. shared before after at same l j) (λ j n. shares-same after before j (sym (same j n))) s
updated-counted before after at same (recounted m l n) c = n

-- ---- where the map is left alone

pub idle-unused : (c d : Cell) (at : ℕ) (used : List Bool) → is_marked used at ≡ false → idles c d at used ≡ true
unfolding idles
idle-unused c d at used t = either-true-left _ _ (ap not t)

-- beyond its 131 places a map has nothing
pub unmarked-beyond : (used : List Bool) (k : ℕ) → length used ≡ 131 → 131 ≤ k → false ≡ is_marked used k
unmarked-beyond used k l h = by-test (is_marked used k) (λ t. absurd (omega (arith, h, l, inside used k t))) (λ t. sym t)

pub idle-same : (c d : Cell) (at : ℕ) (used : List Bool) → loses c d ≡ false → loses d c ≡ false → idles c d at used ≡ true
unfolding idles
idle-same c d at used l g = either-true-right _ _ (both_true (ap not l) (ap not g))

-- a cell lacks no way of its own
leads-next : (c : Cell) → leads_to c (next_place c) ≡ true
unfolding leads_to
leads-next c = either-true-right _ _ (either-true-left _ _ (eq-eqb (next_place c) (next_place c) refl))

leads-jump : (c : Cell) → leads_to c (jump_place c) ≡ true
unfolding leads_to
leads-jump c = either-true-right _ _ (either-true-right _ _ (eq-eqb (jump_place c) (jump_place c) refl))

loses-none : (c : Cell) → loses c c ≡ false
unfolding loses
loses-none c = ap not (both_true (leads-next c) (leads-jump c))

pub idle-still : (c : Cell) (at : ℕ) (used : List Bool) → idles c c at used ≡ true
idle-still c at used = idle-same c c at used (loses-none c) (loses-none c)
