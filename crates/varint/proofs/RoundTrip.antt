-- What is written is read back, whatever follows; what is read is what is written for the number read. A number has one to five groups.
-- Assumes nothing.
use Prim.Native.Nat.{ℕ, zero, suc, ◌+◌, ◌-◌, ◌*◌, ◌/◌, ◌%◌, ◌^◌, ◌≤◌, ◌<◌}
use native.Mathlib.Nat.{pow-suc}
use native.Mathlib.Omega.{arith}
use mathlib.Core.Path.{◌≡◌, refl, sym, ap, ◌∙◌}
use mathlib.Core.Logic.{⊎_elim}
use mathlib.Core.List.{List, [], ◌∷◌, ◌++◌}
use lib.ListN.{length, drop}
use lib.Seq.{drop-append_seam, drop-drop}
use lib.Dec.{ltb, eqb}
use borrow.Author.Tests.{lt-ltb, le-ltb, ltb-true, ltb-false, eqb-false, ne_eqb}
use Rattle.laws.proofs.Tests.{choose-by, choose-true, choose-false, lt-or-le}
use Rattle.varint.specs.Groups.{groups_from, groups, behind, read_from, bounded, number_at, found}
use Rattle.varint.specs.declared.groups.Reading.{Reading}
use Rattle.std.specs.Prelude.{Option, Some, None}
use Rattle.std.proofs.lemmas.Option.{same_Some}
use Rattle.varint.proofs.Turns.{groups-last, groups-next}

-- ---- how many groups

length_from : (f n : ℕ) → (1 ≤ length (groups_from f n)) × (length (groups_from f n) ≤ suc f)
unfolding groups_from
length_from zero n = (omega arith, omega arith)
length_from (suc f) n =
    choose-by (λ (g : List ℕ). (1 ≤ length g) × (length g ≤ suc (suc f))) (ltb n 128)
    (λ t. (omega arith, omega arith))
    (λ t. let r = length_from f (n / 128) in (omega arith, omega arith))

pub length-groups : (n : ℕ) → (1 ≤ length (groups n)) × (length (groups n) ≤ 5)
unfolding groups
length-groups n = length_from 4 n

-- ---- what is written is read

behind-found : (c v next : ℕ) → 0 < v → behind c (found v next) ≡ found (c + 128 * v) next
unfolding behind
behind-found c v next h = choose-false _ _ _ (ne_eqb v 0 (λ e. omega arith))

from_last : (f at n : ℕ) (rest : List ℕ) → n < 128 → read_from (suc f) at (n ∷ rest) ≡ found n (at + 1)
unfolding read_from
from_last f at n rest h = choose-true _ _ _ (lt-ltb n 128 h) ∙ ap (found n) (omega arith)

from_more :
    (f at c : ℕ) (s : List ℕ) → c < 128 → read_from (suc f) at ((128 + c) ∷ s) ≡ behind c (read_from f (suc at) s)
unfolding read_from
from_more f at c s h =
    let e : 128 + c - 128 ≡ c = omega arith in
    choose-false _ _ _ (le-ltb (128 + c) 128 (omega arith)) ∙ choose-true _ _ _ (lt-ltb (128 + c) 256 (omega arith))
    ∙ ap (λ (x : ℕ). behind x (read_from f (suc at) s)) e

-- a group with others behind it, which are read back
more-back :
    (f at n : ℕ) (rest : List ℕ) → 128 ≤ n →
    read_from (suc f) (suc at) (groups_from f (n / 128) ++ rest) ≡ found (n / 128) (suc at + length (groups_from f (n / 128))) →
    read_from (suc (suc f)) at (groups_from (suc f) n ++ rest) ≡ found n (at + length (groups_from (suc f) n))
more-back f at n rest l back =
    let d : suc f - 1 ≡ f = omega arith in
    let g = groups_from f (n / 128) in
    let e : groups_from (suc f) n ≡ (128 + n % 128) ∷ g = groups-next (suc f) n (omega arith) l ∙ rw d in
    let v : n % 128 + 128 * (n / 128) ≡ n = omega arith in
    let x : suc at + length g ≡ at + length (groups_from (suc f) n) = omega (arith, ap length e) in
    ap (λ (z : List ℕ). read_from (suc (suc f)) at (z ++ rest)) e
    ∙ from_more (suc f) at (n % 128) (g ++ rest) (omega arith)
    ∙ ap (behind (n % 128)) back
    ∙ behind-found (n % 128) (n / 128) (suc at + length g) (omega arith)
    ∙ ap (λ (z : ℕ). found z (suc at + length g)) v
    ∙ ap (found n) x

one-back : (f at n : ℕ) (rest : List ℕ) → n < 128 → read_from (suc f) at (groups_from f n ++ rest) ≡ found n (at + length (groups_from f n))
one-back f at n rest h = rw (groups-last f n h) (from_last f at n rest h)

from_back :
    (f at n : ℕ) (rest : List ℕ) → n < 128 ^ suc f →
    read_from (suc f) at (groups_from f n ++ rest) ≡ found n (at + length (groups_from f n))
from_back zero at n rest h = one-back zero at n rest (omega arith)
from_back (suc f) at n rest h =
    let p : n < 128 ^ suc f * 128 = rw (← pow-suc 128 (suc f)) h in
    ⊎_elim (one-back (suc f) at n rest) (λ l. more-back f at n rest l (from_back f (suc at) (n / 128) rest (omega arith))) (lt-or-le n 128)

-- at any place of a string, whatever follows
pub number-back :
    (n : ℕ) (pre rest : List ℕ) → n < 2 ^ 32 → number_at (pre ++ (groups n ++ rest)) (length pre) ≡ found n (length pre + length (groups n))
unfolding number_at groups bounded
number-back n pre rest h =
    ap (λ (s : List ℕ). bounded (read_from 5 (length pre) s)) (drop-append_seam pre (groups_from 4 n ++ rest))
    ∙ ap bounded (from_back 4 (length pre) n rest (omega arith))
    ∙ choose-true _ _ _ (lt-ltb n (2 ^ 32) h)

-- ---- what is read was written

record Behind (c v next : ℕ) (r : Option Reading) : Type 0 where
  high : ℕ
  read : r ≡ found high next
  some : 0 < high
  sum : v ≡ c + 128 * high

-- the parts of equal readings
found_parts : (v next : ℕ) (r : Reading) → Some r ≡ found v next → (r.value ≡ v) × (r.next ≡ next)
found_parts v next r e =
    let same = same_Some r (record { value = v; next = next }) e in
    (ap (λ (x : Reading). x.value) same, ap (λ (x : Reading). x.next) same)

behind-inv : (c v next : ℕ) (r : Option Reading) → behind c r ≡ found v next → Behind c v next r
unfolding behind
behind-inv c v next None = λ e. absurd (cc)
behind-inv c v next (Some r) =
    choose-by (λ (x : Option Reading). x ≡ found v next → Behind c v next (Some r)) (eqb r.value 0)
    (λ t e. absurd (cc))
    (λ t e. let p = found_parts v next (record { value = c + 128 * r.value; next = r.next }) e in
    let q = eqb-false r.value 0 t in
    record { high = r.value; read = ap (λ (n : ℕ). found r.value n) p.1; some = omega arith; sum = sym p.0 })

-- the number v, up to the place next, stands at the front of s, which begins at place at
record Front (f at : ℕ) (s : List ℕ) (v next : ℕ) : Type 0 where
  end : next ≡ at + length (groups_from f v)
  bytes : s ≡ groups_from f v ++ drop (length (groups_from f v)) s

front-last : (f at b : ℕ) (s : List ℕ) (v next : ℕ) → b < 128 → found b (suc at) ≡ found v next → Front f at (b ∷ s) v next
front-last f at b s v next h e =
    let p = found_parts v next (record { value = b; next = suc at }) e in
    let i = p.0 in
    let j = p.1 in
    let g : groups_from f v ≡ b ∷ [] = rw (← i) (groups-last f b h) in
    record { end = omega (arith, ap length g); bytes = rw g }

front-more :
    (f at b high : ℕ) (s : List ℕ) (v next : ℕ) → 128 ≤ b → b < 256 → 0 < high → v ≡ b - 128 + 128 * high →
    Front f (suc at) s high next → Front (suc f) at (b ∷ s) v next
front-more f at b high s v next l u p e r =
    let d : suc f - 1 ≡ f = omega arith in
    let q : v / 128 ≡ high = omega arith in
    let m : 128 + v % 128 ≡ b = omega arith in
    let g : groups_from (suc f) v ≡ b ∷ groups_from f high = groups-next (suc f) v (omega arith) (omega arith) ∙ rw (d, q, m) in
    record { end = omega (arith, ap length g, r.end); bytes = rw g (ap (λ (z : List ℕ). b ∷ z) r.bytes) }

none_found : (v next : ℕ) {A : Type 0} → None ≡ found v next → A
none_found v next e = absurd (cc)

read-zero : (at : ℕ) (s : List ℕ) (c : ℕ) → behind c (read_from 0 at s) ≡ None
unfolding read_from behind
read-zero at s c = refl

-- what is read of a string with the first byte b, for a front of which the case of others behind is given
from-cases :
    (f at b : ℕ) (s : List ℕ) (v next : ℕ) →
    (128 ≤ b → b < 256 → behind (b - 128) (read_from f (suc at) s) ≡ found v next → Front f at (b ∷ s) v next) →
    read_from (suc f) at (b ∷ s) ≡ found v next → Front f at (b ∷ s) v next
unfolding read_from
from-cases f at b s v next more =
    choose-by (λ (r : Option Reading). r ≡ found v next → Front f at (b ∷ s) v next) (ltb b 128)
    (λ t. front-last f at b s v next (ltb-true b 128 t))
    (λ t. choose-by (λ (r : Option Reading). r ≡ found v next → Front f at (b ∷ s) v next) (ltb b 256)
    (λ u. more (ltb-false b 128 t) (ltb-true b 256 u)) (λ u. none_found v next))

from_empty : (f at : ℕ) → read_from f at [] ≡ None
unfolding read_from
from_empty zero at = refl
from_empty (suc f) at = refl

from_front : (f at : ℕ) (s : List ℕ) (v next : ℕ) → read_from (suc f) at s ≡ found v next → Front f at s v next
from_front f at [] v next e = none_found v next (sym (from_empty (suc f) at) ∙ e)
from_front zero at (b ∷ s) v next e =
    from-cases zero at b s v next (λ l u q. none_found v next (sym (read-zero (suc at) s (b - 128)) ∙ q)) e
from_front (suc f) at (b ∷ s) v next e =
    from-cases (suc f) at b s v next (λ l u q.
    let i = behind-inv (b - 128) v next (read_from (suc f) (suc at) s) q in
    front-more f at b i.high s v next l u i.some i.sum (from_front f (suc at) s i.high next i.read)) e

-- a number read at a place: it is below 2 ^ 32, its groups stand there, and the place after them is handed back
pub record Stands (s : List ℕ) (at v next : ℕ) : Type 0 where
  pub small : v < 2 ^ 32
  pub end : next ≡ at + length (groups v)
  pub bytes : drop at s ≡ groups v ++ drop next s

bounded-inv : (r : Option Reading) (v next : ℕ) → bounded r ≡ found v next → (v < 2 ^ 32) × (r ≡ found v next)
unfolding bounded
bounded-inv None v next = none_found v next
bounded-inv (Some r) v next =
    choose-by (λ (x : Option Reading). x ≡ found v next → (v < 2 ^ 32) × (Some r ≡ found v next)) (ltb r.value (2 ^ 32))
    (λ t e. let p = found_parts v next r e in (omega (arith, ltb-true r.value (2 ^ 32) t, p.0), e))
    (λ t. none_found v next)

pub number-stands : (s : List ℕ) (at v next : ℕ) → number_at s at ≡ found v next → Stands s at v next
unfolding number_at groups
number-stands s at v next e =
    let b = bounded-inv (read_from 5 at (drop at s)) v next e in
    let r = from_front 4 at (drop at s) v next b.1 in
    record {
      small = b.0;
      end = r.end;
      bytes = r.bytes ∙ ap (λ (z : List ℕ). groups_from 4 v ++ z)
          (drop-drop (length (groups_from 4 v)) at s ∙ ap (λ (k : ℕ). drop k s) (sym r.end));
    }
