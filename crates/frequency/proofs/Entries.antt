-- The table holds every whole part, rising, and nothing else: one test over its entries, and what follows.
-- Assumes nothing.
use Prim.Native.Nat.{ℕ, zero, suc, ◌≤◌, ◌<◌}
use native.Mathlib.Nat.{not-suc-le-zero, le_of_suc-le-suc}
use native.Mathlib.Decide.{dec_lt}
use native.Mathlib.Omega.{arith}
use mathlib.Core.Path.{◌≡◌, refl, sym, ◌∙◌}
use mathlib.Core.Bool.{Bool, true}
use mathlib.Core.List.{Memᴰ}
use lib.Dec.{eqb, leb, ltb}
use lib.ListN.{length, get_or}
use borrow.Author.Tests.{eqb-true, leb-true, ltb-true}
use Rattle.laws.specs.Tests.{both}
use Rattle.laws.specs.Tables.{every}
use Rattle.laws.proofs.Tests.{both_left, both_right}
use Rattle.laws.proofs.Tables.{every-at}
use Rattle.frequency.specs.Table.{Rule, following, rising, frequencies}
use Rattle.frequency.specs.Rounding.{round_of}
use Rattle.frequency.proofs.Formula.{round-greatest, round-between, round-whole_part, whole_part-low, whole_part-high}

-- what the test computes at each entry: rounding leaves it as it is, it lies from 1 to 4800, and it is less than the next
right : ℕ → Bool
right x = both (eqb (round_of x) x) (both (leb 1 x) (both (leb x 4800) (ltb x (following x))))

table-right : every right frequencies ≡ true
unfolding frequencies rising following round_of right every both
table-right = refl

pub table-length : length frequencies ≡ 599
unfolding frequencies rising
table-length = refl

pub record Entry (x : ℕ) : Type 0 where
  pub fixed : round_of x ≡ x
  pub low : 1 ≤ x
  pub high : x ≤ 4800
  pub less : x < following x

entry : (x : ℕ) → right x ≡ true → Entry x
unfolding right
entry x t =
    let s = both_right _ _ t in
    let u = both_right _ _ s in
    record {
      fixed = eqb-true _ _ (both_left _ _ t);
      low = leb-true _ _ (both_left _ _ s);
      high = leb-true _ _ (both_left _ _ u);
      less = ltb-true _ _ (both_right _ _ u);
    }

pub entry_at : (k : ℕ) → k < 599 → Entry (get_or frequencies k 0)
entry_at k h = entry _ (every-at right 0 frequencies table-right k (rw table-length h))

rising-next : (n v k : ℕ) → suc k < n → get_or (rising n v) (suc k) 0 ≡ following (get_or (rising n v) k 0)
unfolding rising
rising-next zero v k h = absurd (not-suc-le-zero h)
rising-next (suc zero) v k h = absurd (not-suc-le-zero (le_of_suc-le-suc h))
rising-next (suc (suc n)) v zero h = refl
rising-next (suc (suc n)) v (suc k) h = rising-next (suc n) (following v) k (le_of_suc-le-suc h)

pub table-next : (k : ℕ) → suc k < 599 → get_or frequencies (suc k) 0 ≡ following (get_or frequencies k 0)
unfolding frequencies
table-next k h = rising-next 599 1 k h

-- what follows the n numbers from v on
beyond : ℕ → ℕ → ℕ
beyond zero v = v
beyond (suc n) v = beyond n (following v)

-- the place in a list at which f stands: from that number on, below the next
pub record Stands (n v f : ℕ) : Type 0 where
  pub place : ℕ
  pub within : place < n
  pub from : get_or (rising n v) place 0 ≤ f
  pub upto : f < following (get_or (rising n v) place 0)
  pub member : Memᴰ (get_or (rising n v) place 0) (rising n v)

stands-first : (n v f : ℕ) → v ≤ f → f < following v → Stands (suc n) v f
unfolding rising
stands-first n v f l u = record { place = 0; within = omega arith; from = l; upto = u; member = Memᴰ.head refl }

stands-later : (n v f : ℕ) → Stands n (following v) f → Stands (suc n) v f
unfolding rising
stands-later n v f s =
    record { place = suc s.place; within = omega (arith, s.within); from = s.from; upto = s.upto; member = Memᴰ.tail s.member }

locate : (n v f : ℕ) → v ≤ f → f < beyond n v → Stands n v f
unfolding beyond
locate zero v f l u = absurd (omega arith)
locate (suc n) v f l u = by (dec_lt f (following v)) (locate n (following v) f)
  where
    by : Dec (f < following v) → (following v ≤ f → f < beyond n (following v) → Stands n (following v) f) → Stands (suc n) v f
    by (yes h) g = stands-first n v f l h
    by (no h) g = stands-later n v f (g (omega arith) u)

-- every value from 1 to 4800 stands at a place of the table
pub table-stands : (f : ℕ) → 1 ≤ f → f ≤ 4800 → Stands 599 1 f
unfolding beyond following
table-stands f l h = locate 599 1 f l (omega arith)

-- 01: "the table is every whole part of 96,000 / d, d from 20 to 96,000, rising, 599 numbers from 1 to 4800"
pub table-rule : Rule frequencies
unfolding frequencies rising following
table-rule =
    record {
      count = table-length;
      first = refl;
      last = refl;
      rises = λ k h. rw (table-next k h) (entry_at k (omega arith)).less;
      each = λ k h. let e = entry_at k h in rw (← e.fixed) (round-greatest _ e.low e.high).one;
      complete = λ v q.
          let s = table-stands v (whole_part-low v q) (whole_part-high v q) in
          let e : get_or frequencies s.place 0 ≡ v =
          sym (round-between _ v (entry_at s.place s.within).fixed s.from s.upto) ∙ round-whole_part v q in
          rw e at s.member;
    }
