-- Places in the table and the frequencies at them.
-- Assumes nothing.
use Prim.Native.Nat.{ℕ, zero, suc, ◌+◌, ◌-◌, ◌/◌, ◌≤◌, ◌<◌}
use native.Mathlib.Nat.{le_trans, lt_of_lt_of_le}
use native.Mathlib.Nat.{le-div_iff_mul-le, div-lt_iff_lt-mul, mul-div-le}
use native.Mathlib.Decide.{ℕ_discrete, dec_lt}
use native.Mathlib.Numerals.{sub-one}
use native.Mathlib.Omega.{arith}
use mathlib.Core.Path.{◌≡◌, refl, ap, sym, ◌∙◌}
use mathlib.Core.Bool.{true}
use mathlib.Core.List.{List, [], ◌∷◌}
use lib.Dec.{eqb, ltb, lit<}
use lib.ListN.{length, get_or, get_or-eq_default}
use borrow.Author.Tests.{eqb-true, lt-ltb, le-ltb, le-leb, lt-leb}
use Rattle.laws.specs.Tests.{choose, both}
use Rattle.laws.specs.Tables.{every_from}
use Rattle.laws.proofs.Tables.{every_from-at}
use Rattle.frequency.specs.declared.Frequency.{Frequency}
use Rattle.frequency.specs.Table.{following, rising, frequencies}
use Rattle.frequency.specs.Places.{hertz_of, not_above, place_of}
use Rattle.frequency.specs.Rounding.{round_of}
use Rattle.frequency.proofs.Formula.{round-below, round-between}
use Rattle.frequency.proofs.Entries.{entry_at, table-length, table-next, table-rule, table-stands}

-- ---- a frequency from its place

-- up to 309 every number is a frequency, and from there on every divisor from 310 down to 20 gives one
from_place : ℕ → ℕ
from_place k = choose (ltb k 309) (k + 1) (96000 / (618 - k))

table-formula : every_from (λ k x. eqb x (from_place k)) 0 frequencies ≡ true
unfolding frequencies rising following from_place every_from both choose
table-formula = refl

from_place_lem : (f : Frequency) → f.0 < 599 → hertz_of f ≡ from_place f.0
unfolding hertz_of
from_place_lem f h = eqb-true _ _ (every_from-at (λ k x. eqb x (from_place k)) 0 frequencies table-formula f.0 (rw table-length h))

pub hertz-low : (f : Frequency) → f.0 < 309 → hertz_of f ≡ f.0 + 1
unfolding from_place choose
hertz-low f h = from_place_lem f (omega arith) ∙ simp (lt-ltb f.0 309 h)

pub hertz-high : (f : Frequency) → 309 ≤ f.0 → f.0 < 599 → hertz_of f ≡ 96000 / (618 - f.0)
unfolding from_place choose
hertz-high f l h = from_place_lem f h ∙ simp (le-ltb f.0 309 l)

-- past the end of the table there is none
pub hertz-past : (f : Frequency) → 599 ≤ f.0 → hertz_of f ≡ 0
unfolding hertz_of
hertz-past f l = get_or-eq_default frequencies 0 {n = f.0} (rw table-length l)

-- a frequency lies from 1 to 4800
pub hertz-range : (f : Frequency) → f.0 < 599 → (1 ≤ hertz_of f) × (hertz_of f ≤ 4800)
unfolding hertz_of
hertz-range f h = ((entry_at f.0 h).low, (entry_at f.0 h).high)

-- ---- a place from a value

-- where the numbers before place k are not above v and the others are, k of them are not above
not_above-at : (l : List ℕ) (k v : ℕ) → k ≤ length l → ((j : ℕ) → j < k → get_or l j 0 ≤ v) →
    ((j : ℕ) → k ≤ j → j < length l → v < get_or l j 0) → not_above v l ≡ k
unfolding not_above choose
not_above-at [] k v h p q = omega arith
not_above-at (x ∷ xs) zero v h p q =
    let e = not_above-at xs zero v (omega arith) (λ j a. absurd (omega arith)) (λ j a b. q (suc j) (omega arith) (omega arith)) in
    simp (lt-leb x v (q 0 (omega arith) (omega arith)), e)
not_above-at (x ∷ xs) (suc k) v h p q =
    let e = not_above-at xs k v (omega arith) (λ j a. p (suc j) (omega arith)) (λ j a b. q (suc j) (omega arith) (omega arith)) in
    simp (le-leb x v (p 0 (omega arith)), e) (omega arith)

-- a later entry is no smaller
table-rises : (j k : ℕ) → j ≤ k → k < 599 → get_or frequencies j 0 ≤ get_or frequencies k 0
table-rises j zero l h = let e : j ≡ 0 = omega arith in rw e (omega arith)
table-rises j (suc k) l h = by (ℕ_discrete j (suc k)) (table-rises j k)
  where
    by : Dec (j ≡ suc k) → (j ≤ k → k < 599 → get_or frequencies j 0 ≤ get_or frequencies k 0) → get_or frequencies j 0 ≤ get_or frequencies (suc k) 0
    by (yes e) g = rw e (omega arith)
    by (no e) g = omega (arith, g (omega arith) (omega arith), table-rule.rises k h)

-- the place of a value that lies from an entry to below the next
pub place_at : (k v : ℕ) → k < 599 → get_or frequencies k 0 ≤ v → v < following (get_or frequencies k 0) → place_of v ≡ record { 0 = k }
unfolding place_of
place_at k v h l u = rw (not_above-at frequencies (suc k) v (rw table-length h) before after, sub-one (suc k))
  where
    before : (j : ℕ) → j < suc k → get_or frequencies j 0 ≤ v
    before j a = le_trans (table-rises j k (omega arith) h) l

    after : (j : ℕ) → suc k ≤ j → j < length frequencies → v < get_or frequencies j 0
    after j a b =
        let n : j < 599 = rw table-length at b in
        lt_of_lt_of_le (rw (table-next k (omega arith)) u) (table-rises (suc k) j a n)

-- 01: "is stored as the greatest table value not above it": the place of a value holds what the value is rounded to
pub hertz-place : (v : ℕ) → 1 ≤ v → v ≤ 4800 → hertz_of (place_of v) ≡ round_of v
unfolding hertz_of frequencies
hertz-place v l h =
    let s = table-stands v l h in
    ap hertz_of (place_at s.place v s.within s.from s.upto)
    ∙ sym (round-between _ v (entry_at s.place s.within).fixed s.from s.upto)

-- a frequency is rounded to its own place
pub place-hertz : (f : Frequency) → f.0 < 599 → place_of (hertz_of f) ≡ f
unfolding hertz_of
place-hertz f h = place_at f.0 (get_or frequencies f.0 0) h (omega arith) (entry_at f.0 h).less

pub place-below : (v : ℕ) → 1 ≤ v → v ≤ 4800 → (place_of v).0 < 599
unfolding frequencies
place-below v l h =
    let s = table-stands v l h in
    rw (place_at s.place v s.within s.from s.upto) s.within

-- ---- a place by arithmetic

-- the place between the entries that are not above a value and those that are; of 0 the first place
pub place-search : (k v : ℕ) → k < 599 → (0 < k → get_or frequencies k 0 ≤ v) → (k + 1 < 599 → v < get_or frequencies (k + 1) 0) → place_of v ≡ record { 0 = k }
unfolding place_of
place-search k v h p q = by (dec_lt v (get_or frequencies k 0))
  where
    after : (j : ℕ) → k + 1 ≤ j → j < length frequencies → v < get_or frequencies j 0
    after j a b =
        let n : j < 599 = rw table-length at b in
        lt_of_lt_of_le (q (omega arith)) (table-rises (k + 1) j a n)

    by : Dec (v < get_or frequencies k 0) → ◌≡◌ {A = Frequency} (record { 0 = not_above v frequencies - 1 }) (record { 0 = k })
    by (no n) =
        rw (not_above-at frequencies (k + 1) v (rw table-length (omega arith)) (λ j a. le_trans (table-rises j k (omega arith) h) (omega arith)) after)
        (ap (λ (i : ℕ). record { 0 = i }) (omega arith))
    by (yes l) =
        let z : k ≡ 0 = first k p l in
        let e : not_above v frequencies ≡ 0 = not_above-at frequencies 0 v (omega arith) (λ j a. absurd (omega arith)) (λ j a b. lt_of_lt_of_le (rw z at l) (table-rises 0 j (omega arith) (rw table-length at b))) in
        rw (e, z)
      where
        first : (k : ℕ) → (0 < k → get_or frequencies k 0 ≤ v) → v < get_or frequencies k 0 → k ≡ 0
        first zero p l = refl
        first (suc k) p l = absurd (omega (arith, p (omega arith)))

pub place-first : (v : ℕ) → v < 2 → place_of v ≡ record { 0 = 0 }
unfolding hertz_of
place-first v l = place-search 0 v (lit< tt) (λ n. absurd (omega arith)) (λ n. omega (arith, hertz-low (record { 0 = 1 }) (lit< tt)))

-- the first frequencies are 1, 2 and so on
pub place-low : (v : ℕ) → 0 < v → v < 310 → place_of v ≡ record { 0 = v - 1 }
unfolding hertz_of
place-low v l h =
    let k = v - 1 in
    let e : get_or frequencies k 0 ≡ k + 1 = hertz-low (record { 0 = k }) (omega arith) in
    place_at k v (omega arith) (omega arith) (omega (arith, (entry_at k (omega arith)).less))

-- from 310 on the divisor is one more than the whole part of 96,000 / (v + 1)
pub place-high : (v : ℕ) → 310 ≤ v → v < 4800 → (96000 / (v + 1) ≤ 308) × (place_of v ≡ record { 0 = 617 - 96000 / (v + 1) })
unfolding hertz_of round_of
place-high v l h =
    let q = 96000 / (v + 1) in
    let k = 617 - q in
    let a : 20 ≤ q = (le-div_iff_mul-le {k = v + 1} {x = 20} {y = 96000} (omega arith)).1 (omega arith) in
    let b : q < 309 = (div-lt_iff_lt-mul {k = v + 1} {x = 96000} {y = 309} (omega arith)).1 (omega arith) in
    let i : 618 - k ≡ q + 1 = omega arith in
    let j : 618 - (k + 1) ≡ q = omega arith in
    let e : get_or frequencies k 0 ≡ 96000 / (618 - k) = hertz-high (record { 0 = k }) (omega arith) (omega arith) in
    let f : get_or frequencies (k + 1) 0 ≡ 96000 / (618 - (k + 1)) = hertz-high (record { 0 = k + 1 }) (omega arith) (omega arith) in
    let m : v + 1 ≤ 96000 / q = (le-div_iff_mul-le {k = q} {x = v + 1} {y = 96000} (omega arith)).1 (mul-div-le 96000 (v + 1)) in
    (omega arith, place-search k v (omega arith) (λ n. rw (e, i) (round-below v)) (λ n. rw (f, j) (omega arith)))

pub place-last : (v : ℕ) → 4800 ≤ v → place_of v ≡ record { 0 = 598 }
place-last v l = place-search 598 v (lit< tt) (λ n. omega (arith, (entry_at 598 (lit< tt)).high)) (λ n. absurd (omega arith))
