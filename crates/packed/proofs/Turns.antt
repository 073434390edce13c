-- One turn of each loop over a row.
-- Assumes nothing.
use Prim.Native.Nat.{ℕ, suc, ◌+◌, ◌-◌, ◌≤◌, ◌<◌}
use native.Mathlib.Numerals.{add-one}
use native.Mathlib.Omega.{arith}
use mathlib.Core.Path.{◌≡◌, sym, ap, ◌∙◌}
use mathlib.Core.List.{List, [], ◌++◌}
use lib.Dec.{eqb}
use lib.ListN.{get_or, set, replicate}
use borrow.Author.Tests.{eq-eqb, ne_eqb}
use Rattle.laws.specs.Tests.{choose}
use Rattle.laws.proofs.Tests.{choose-true, choose-false}
use Rattle.std.specs.Prelude.{None}
use Rattle.varint.specs.Groups.{groups, number_at, found}
use Rattle.varint.specs.Signs.{folded, unfolded}
use Rattle.packed.specs.Rows.{row}
use Rattle.packed.specs.Layout.{laid_from, laid, laid_read_from, laid_read}

-- what is left at place i is one and what is left after it
less : (count i : ℕ) → i < count → count - i ≡ suc (count - (i + 1))
less count i h = omega arith

-- what a place's number is turned into, at the place of the sign and at any other
pub turned : (i signed x y : ℕ) {n r : ℕ} → i ≡ signed → r ≡ x → n ≡ r → n ≡ choose (eqb i signed) x y
turned i signed x y e p q = q ∙ p ∙ sym (choose-true _ _ _ (eq-eqb i signed e))

pub plain : (i signed x y : ℕ) {n : ℕ} → (i ≡ signed → ⊥) → n ≡ y → n ≡ choose (eqb i signed) x y
plain i signed x y e q = q ∙ sym (choose-false _ _ _ (ne_eqb i signed e))

none-less : (n : ℕ) → n - 0 ≡ n
none-less n = omega arith

-- writing: all numbers; the number at a place and those after it; none left
pub laid-start : (count signed : ℕ) (vs : List ℕ) → laid_from (count - 0) signed 0 vs ≡ laid count signed vs
unfolding laid
laid-start count signed vs = ap (λ (k : ℕ). laid_from k signed 0 vs) (none-less count)

pub laid_next :
    (count signed i : ℕ) (vs : List ℕ) {n : ℕ} → i < count → n ≡ choose (eqb i signed) (folded (get_or vs i 0)) (get_or vs i 0) →
    laid_from (count - i) signed i vs ≡ groups n ++ laid_from (count - (i + 1)) signed (i + 1) vs
unfolding laid_from
laid_next count signed i vs h e = ap (λ (k : ℕ). laid_from k signed i vs) (less count i h) ∙ rw (e, add-one i)

pub laid_end : (count signed i : ℕ) (vs : List ℕ) → count ≤ i → laid_from (count - i) signed i vs ≡ []
unfolding laid_from
laid_end count signed i vs h = let e : count - i ≡ 0 = omega arith in rw e

-- reading: all numbers; a number is refused, or it is read; none is left
pub read-start :
    (count signed : ℕ) (s : List ℕ) (from : ℕ) → laid_read count signed s from ≡ laid_read_from (count - 0) signed s from 0 (replicate 6 0)
unfolding laid_read
read-start count signed s from = ap (λ (k : ℕ). laid_read_from k signed s from 0 (replicate 6 0)) (sym (none-less count))

pub read-refused :
    (count signed : ℕ) (s vs : List ℕ) (i at : ℕ) → i < count → number_at s at ≡ None → laid_read_from (count - i) signed s at i vs ≡ None
unfolding laid_read_from
read-refused count signed s vs i at h e = ap (λ (k : ℕ). laid_read_from k signed s at i vs) (less count i h) ∙ rw e

pub read_next :
    (count signed : ℕ) (s vs : List ℕ) (i at n next : ℕ) {v : ℕ} → i < count → number_at s at ≡ found n next →
    v ≡ choose (eqb i signed) (unfolded n) n →
    laid_read_from (count - i) signed s at i vs ≡ laid_read_from (count - (i + 1)) signed s next (i + 1) (set vs i v)
unfolding laid_read_from
read_next count signed s vs i at n next h e w = ap (λ (k : ℕ). laid_read_from k signed s at i vs) (less count i h) ∙ rw (e, w, add-one i)

pub read-end :
    (count signed : ℕ) (s vs : List ℕ) (i at : ℕ) → count ≤ i →
    laid_read_from (count - i) signed s at i vs ≡ row vs at
unfolding laid_read_from
read-end count signed s vs i at h = let e : count - i ≡ 0 = omega arith in rw e
