-- One turn of each loop.
-- Assumes nothing.
use Prim.Native.Nat.{ℕ, zero, suc, ◌+◌, ◌-◌, ◌*◌, ◌/◌, ◌%◌, ◌^◌, ◌≤◌, ◌<◌}
use native.Mathlib.Nat.{pow-suc, pow-le-pow_right, suc-mul, mul-le-mul_right, add-mul, mul_assoc}
use native.Mathlib.Numerals.{add-one}
use native.Mathlib.Omega.{arith}
use mathlib.Core.Path.{◌≡◌, refl, sym, ap, ◌∙◌}
use mathlib.Core.Logic.{◌⊎◌, ⊎_elim}
use mathlib.Core.List.{List, [], ◌∷◌}
use lib.ListN.{length, get_or, drop, drop_of_length-le}
use lib.Seq.{drop-cons}
use lib.Dec.{ltb, eqb, lit<}
use borrow.Author.Tests.{lt-ltb, le-ltb, eqb-true, eqb-false}
use Rattle.laws.specs.Tests.{choose}
use Rattle.laws.proofs.Tests.{choose-by, choose-true, choose-false}
use Rattle.varint.specs.Groups.{groups_from, groups, behind, read_from, bounded, number_at, found}
use Rattle.varint.specs.declared.groups.Reading.{Reading}
use Rattle.std.specs.Prelude.{Option, Some, None}

-- writing: the last group, and a group with others behind it
pub groups-last : (f n : ℕ) → n < 128 → groups_from f n ≡ n ∷ []
unfolding groups_from
groups-last zero n h = refl
groups-last (suc f) n h = choose-true _ _ _ (lt-ltb n 128 h)

pub groups-next : (f n : ℕ) → 0 < f → 128 ≤ n → groups_from f n ≡ (128 + n % 128) ∷ groups_from (f - 1) (n / 128)
unfolding groups_from
groups-next zero n h l = absurd (omega arith)
groups-next (suc f) n h l =
    let e : f ≡ suc f - 1 = omega arith in
    choose-false _ _ _ (le-ltb n 128 l) ∙ ap (λ (j : ℕ). (128 + n % 128) ∷ groups_from j (n / 128)) e

-- further groups are not used where these suffice
groups-enough : (f n : ℕ) → n < 128 ^ suc f → groups_from f n ≡ groups_from (suc f) n
unfolding groups_from
groups-enough zero n h = sym (choose-true _ _ _ (lt-ltb n 128 (omega arith)))
groups-enough (suc f) n h =
    let p : n < 128 ^ suc f * 128 = rw (← pow-suc 128 (suc f)) h in
    ap (λ (g : List ℕ). choose (ltb n 128) (n ∷ []) ((128 + n % 128) ∷ g)) (groups-enough f (n / 128) (omega arith))

pub group-last : (n : ℕ) → n < 128 → groups n ≡ n ∷ []
unfolding groups
group-last n h = groups-last 4 n h

pub group-next : (n : ℕ) → n < 2 ^ 32 → 128 ≤ n → groups n ≡ (128 + n % 128) ∷ groups (n / 128)
unfolding groups
group-next n h l =
    groups-next 4 n (omega arith) l ∙ ap (λ (g : List ℕ). (128 + n % 128) ∷ g) (groups-enough 3 (n / 128) (omega arith))

-- reading: groups of the value a were read, the next one weighs w, and the number from there on must be at least l
unfoldable pub after : ℕ → ℕ → ℕ → Option Reading → Option Reading
after a w l (Some r) = choose (ltb r.value l) None (found (a + r.value * w) r.next)
after a w l None = None

-- what the next group must be at least: a 0 behind others is a longer form
unfoldable pub least : ℕ → ℕ
least zero = 0
least (suc k) = 1

pub least_start : least 0 ≡ 0
unfolding least
least_start = refl

pub least_next : (k : ℕ) → least (k + 1) ≡ 1
unfolding least
least_next k = rw add-one

pub least_low : (k b : ℕ) → b ≡ 0 → 0 < k → b < least k
unfolding least
least_low zero b z h = absurd (omega arith)
least_low (suc k) b z h = omega arith

pub least_met : (k b : ℕ) → (b ≡ 0 × k ≤ 0) ⊎ (b ≡ 0 → ⊥) → least k ≤ b
unfolding least
least_met zero b h = omega arith
least_met (suc k) b h = ⊎_elim (λ z. absurd (omega arith)) (λ n. omega arith) h

pub least_up : (k : ℕ) → least k ≤ 1
unfolding least
least_up zero = omega arith
least_up (suc k) = omega arith

pub after-start : (r : Option Reading) → after 0 1 0 r ≡ r
unfolding after
after-start (Some r) =
    let e : 0 + r.value * 1 ≡ r.value = omega arith in
    choose-false _ _ _ (le-ltb r.value 0 (omega arith)) ∙ ap (λ (x : ℕ). found x r.next) e
after-start None = refl

regroup : (a c v w : ℕ) → a + (c + 128 * v) * w ≡ a + c * w + v * (w * 128)
regroup a c v w =
    let e : (c + 128 * v) * w ≡ c * w + 128 * (v * w) = add-mul c (128 * v) w ∙ ap (λ (x : ℕ). c * w + x) (mul_assoc 128 v w) in
    let d : v * (w * 128) ≡ v * w * 128 = sym (mul_assoc v w 128) in
    rw (e, d) (omega arith)

after-behind : (a w l c : ℕ) → l ≤ 1 → (r : Option Reading) → after a w l (behind c r) ≡ after (a + c * w) (w * 128) 1 r
unfolding after behind
after-behind a w l c h None = refl
after-behind a w l c h (Some r) =
    choose-by (λ (x : Option Reading). after a w l x ≡ choose (ltb v 1) None (found (a + c * w + v * (w * 128)) r.next)) (eqb v 0)
    (λ t. let e = eqb-true v 0 t in sym (choose-true _ _ _ (lt-ltb v 1 (omega arith))))
    (λ t. more (eqb-false v 0 t))
  where
    v : ℕ
    v = r.value

    more : (v ≡ 0 → ⊥) → choose (ltb (c + 128 * v) l) None (found (a + (c + 128 * v) * w) r.next)
        ≡ choose (ltb v 1) None (found (a + c * w + v * (w * 128)) r.next)
    more z =
        choose-false _ _ _ (le-ltb (c + 128 * v) l (omega arith))
        ∙ ap (λ (x : ℕ). found x r.next) (regroup a c v w)
        ∙ sym (choose-false _ _ _ (le-ltb v 1 (omega arith)))

pub read-cut : (f at : ℕ) (s : List ℕ) → length s ≤ at → read_from f at (drop at s) ≡ None
unfolding read_from
read-cut zero at s h = refl
read-cut (suc f) at s h = rw (drop_of_length-le s h)

read-last : (f at : ℕ) (s : List ℕ) → 0 < f → at < length s → get_or s at 0 < 128 → read_from f at (drop at s) ≡ found (get_or s at 0) (at + 1)
unfolding read_from
read-last zero at s p h l = absurd (omega arith)
read-last (suc f) at s p h l = rw (add-one at, drop-cons s at 0 h) (choose-true _ _ _ (lt-ltb (get_or s at 0) 128 l))

-- the whole number: cut off, or one group
pub number_cut : (s : List ℕ) (at : ℕ) → length s ≤ at → number_at s at ≡ None
unfolding number_at bounded
number_cut s at h = ap bounded (read-cut 5 at s h)

pub number-one : (s : List ℕ) (at : ℕ) → at < length s → get_or s at 0 < 128 → number_at s at ≡ found (get_or s at 0) (at + 1)
unfolding number_at bounded
number-one s at h l =
    ap bounded (read-last 5 at s (omega arith) h l) ∙ choose-true _ _ _ (lt-ltb (get_or s at 0) (2 ^ 32) (omega arith))

read_more :
    (f at : ℕ) (s : List ℕ) → 0 < f → at < length s → 128 ≤ get_or s at 0 → get_or s at 0 < 256 →
    read_from f at (drop at s) ≡ behind (get_or s at 0 - 128) (read_from (f - 1) (at + 1) (drop (at + 1) s))
unfolding read_from
read_more zero at s p h l u = absurd (omega arith)
read_more (suc f) at s p h l u =
    let e : suc f - 1 ≡ f = omega arith in
    rw (e, add-one at, drop-cons s at 0 h)
    (choose-false _ _ _ (le-ltb (get_or s at 0) 128 l) ∙ choose-true _ _ _ (lt-ltb (get_or s at 0) 256 u))

-- the value stays below the weight
pub value-below : (a c w : ℕ) → c < 128 → a < w → a + c * w < w * 128
value-below a c w h l =
    let e : c * w + w ≤ 128 * w = rw (← suc-mul c w) (mul-le-mul_right w h) in
    omega arith

pub weight-small : (w k : ℕ) → w ≡ 128 ^ k → k < 5 → w ≤ 128 ^ 4
weight-small w k e h =
    let l : k ≤ 4 = omega arith in
    rw e (pow-le-pow_right (lit< tt) l)

-- the last group: below the least, too large with those before, and good
end_after :
    (f at : ℕ) (s : List ℕ) (a w l : ℕ) → 0 < f → at < length s → get_or s at 0 < 128 →
    bounded (after a w l (read_from f at (drop at s))) ≡ bounded (after a w l (found (get_or s at 0) (at + 1)))
end_after f at s a w l p h b = ap (λ (r : Option Reading). bounded (after a w l r)) (read-last f at s p h b)

pub end_low :
    (f at : ℕ) (s : List ℕ) (a w l : ℕ) → 0 < f → at < length s → get_or s at 0 < 128 → get_or s at 0 < l →
    bounded (after a w l (read_from f at (drop at s))) ≡ None
unfolding after bounded
end_low f at s a w l p h b m = end_after f at s a w l p h b ∙ ap bounded (choose-true _ _ _ (lt-ltb (get_or s at 0) l m))

pub end-wide :
    (f at : ℕ) (s : List ℕ) (a w l : ℕ) → 0 < f → at < length s → get_or s at 0 < 128 → l ≤ get_or s at 0 → 4294967295 < a + get_or s at 0 * w →
    bounded (after a w l (read_from f at (drop at s))) ≡ None
unfolding after bounded
end-wide f at s a w l p h b m x =
    end_after f at s a w l p h b ∙ ap bounded (choose-false _ _ _ (le-ltb (get_or s at 0) l m))
    ∙ choose-false _ _ _ (le-ltb (a + get_or s at 0 * w) (2 ^ 32) (omega arith))

pub end-found :
    (f at : ℕ) (s : List ℕ) (a w l : ℕ) → 0 < f → at < length s → get_or s at 0 < 128 → l ≤ get_or s at 0 → a + get_or s at 0 * w ≤ 4294967295 →
    bounded (after a w l (read_from f at (drop at s))) ≡ found (a + get_or s at 0 * w) (at + 1)
unfolding after bounded
end-found f at s a w l p h b m x =
    end_after f at s a w l p h b ∙ ap bounded (choose-false _ _ _ (le-ltb (get_or s at 0) l m))
    ∙ choose-true _ _ _ (lt-ltb (a + get_or s at 0 * w) (2 ^ 32) (omega arith))

-- a group with others behind it
pub turn :
    (f at : ℕ) (s : List ℕ) (a w l : ℕ) → 0 < f → at < length s → 128 ≤ get_or s at 0 → get_or s at 0 < 256 → l ≤ 1 →
    after a w l (read_from f at (drop at s)) ≡ after (a + (get_or s at 0 - 128) * w) (w * 128) 1 (read_from (f - 1) (at + 1) (drop (at + 1) s))
turn f at s a w l p h b u m = ap (after a w l) (read_more f at s p h b u) ∙ after-behind a w l (get_or s at 0 - 128) m _
