-- What is written of a row is read back, at any place and whatever follows; what is read of a row is what is written for its values.
-- Assumes nothing.
use Prim.Native.Nat.{ℕ, suc, ◌+◌, ◌*◌, ◌^◌, ◌≤◌, ◌<◌}
use native.Mathlib.Omega.{arith}
use mathlib.Core.Path.{◌≡◌, refl, sym, ap, ◌∙◌}
use mathlib.Core.Bool.{Bool, true, false}
use mathlib.Core.List.{List, [], ◌∷◌, ◌++◌, append_assoc}
use lib.ListN.{length, take, drop, set, replicate, length-append}
use lib.Seq.{sets, length-sets}
use Rattle.laws.specs.Tests.{choose}
use Rattle.laws.specs.Tables.{every}
use Rattle.laws.proofs.Tests.{choose-by, both_left, both_right}
use Rattle.laws.proofs.Writing.{sets-front}
use Rattle.fields.specs.Kinds.{is_signed}
use Rattle.fields.specs.Rows.{all_good, all_valid}
use Rattle.fields.specs.declared.kinds.Kind.{Kind}
use Rattle.std.specs.Prelude.{Option, Some, None}
use Rattle.std.proofs.lemmas.Option.{same_Some}
use Rattle.fields.proofs.Bounds.{valid-small}
use Rattle.varint.specs.Groups.{groups, number_at, found}
use Rattle.varint.specs.Signs.{folded, unfolded}
use Rattle.varint.specs.declared.groups.Reading.{Reading}
use Rattle.packed.specs.declared.rows.Row.{Row}
use Rattle.varint.proofs.RoundTrip.{length-groups, number-back, number-stands}
use Rattle.varint.proofs.Folding.{folded-small, unfold-fold, fold-unfold}
use Rattle.packed.specs.Rows.{number_for, value_for, row_bytes, row, on_reading, row_from, read_row}

-- ---- how many bytes

pub length-row : (ks : List Kind) (vs : List ℕ) → length (row_bytes ks vs) ≤ 5 * length ks
unfolding row_bytes
length-row [] vs = omega arith
length-row (k ∷ ks) [] = omega arith
length-row (k ∷ ks) (v ∷ vs) =
    let g = groups (number_for k v) in
    omega (arith, length-append g (row_bytes ks vs), (length-groups (number_for k v)).1, length-row ks vs)

-- ---- one number

number_small : (k : Kind) (v : ℕ) → v < 2 ^ 32 → number_for k v < 2 ^ 32
unfolding number_for
number_small k v h = choose-by (λ (x : ℕ). x < 2 ^ 32) (is_signed k) (λ t. folded-small v h) (λ t. h)

either-back : (b : Bool) (v : ℕ) → v < 2 ^ 32 → choose b (unfolded (choose b (folded v) v)) (choose b (folded v) v) ≡ v
unfolding choose
either-back true v h = unfold-fold v h
either-back false v h = refl

either-forth : (b : Bool) (n : ℕ) → n < 2 ^ 32 → choose b (folded (choose b (unfolded n) n)) (choose b (unfolded n) n) ≡ n
unfolding choose
either-forth true n h = fold-unfold n h
either-forth false n h = refl

value-number : (k : Kind) (v : ℕ) → v < 2 ^ 32 → value_for k (number_for k v) ≡ v
unfolding number_for value_for
value-number k v h = either-back (is_signed k) v h

number-value : (k : Kind) (n : ℕ) → n < 2 ^ 32 → number_for k (value_for k n) ≡ n
unfolding number_for value_for
number-value k n h = either-forth (is_signed k) n h

-- ---- what is written is read

from_step :
    (k : Kind) (ks : List Kind) (s vs : List ℕ) (at i n next : ℕ) {v : ℕ} → number_at s at ≡ found n next → v ≡ value_for k n →
    row_from (k ∷ ks) s at i vs ≡ row_from ks s next (suc i) (set vs i v)
unfolding row_from
from_step k ks s vs at i n next e w = rw (e, ← w)

from_back :
    (ks : List Kind) (vs pre rest l : List ℕ) (i : ℕ) → all_good ks ≡ true → all_valid ks vs ≡ true →
    row_from ks (pre ++ (row_bytes ks vs ++ rest)) (length pre) i l
    ≡ row (sets l i (take (length ks) vs)) (length pre + length (row_bytes ks vs))
unfolding row_from row_bytes all_good every all_valid
from_back [] vs pre rest l i g t = ap (row l) (omega arith)
from_back (k ∷ ks) [] pre rest l i g t = absurd (cc)
from_back (k ∷ ks) (v ∷ vs) pre rest l i g t =
    let d = groups (number_for k v) in
    let p = row_bytes ks vs in
    let long : length (pre ++ d) ≡ length pre + length d = length-append pre d in
    let h : v < 2 ^ 32 = valid-small k v (both_left _ _ g) (both_left _ _ t) in
    let after = from_back ks vs (pre ++ d) rest (set l i v) (suc i) (both_right _ _ g) (both_right _ _ t) in
    ap (λ (x : List ℕ). row_from (k ∷ ks) (pre ++ x) (length pre) i l) (append_assoc d p rest)
    ∙ from_step k ks (pre ++ (d ++ (p ++ rest))) l (length pre) i (number_for k v) (length pre + length d)
    (number-back (number_for k v) pre (p ++ rest) (number_small k v h)) (sym (value-number k v h))
    ∙ ap (λ (x : List ℕ). row_from ks x (length pre + length d) (suc i) (set l i v)) (sym (append_assoc pre d (p ++ rest)))
    ∙ ap (λ (a : ℕ). row_from ks ((pre ++ d) ++ (p ++ rest)) a (suc i) (set l i v)) (sym long)
    ∙ after
    ∙ ap (row (sets (set l i v) (suc i) (take (length ks) vs))) (omega (arith, long, length-append d p))

pub row_back :
    (ks : List Kind) (vs pre rest : List ℕ) → all_good ks ≡ true → all_valid ks vs ≡ true → length ks ≤ 6 → length ks ≤ length vs →
    read_row ks (pre ++ (row_bytes ks vs ++ rest)) (length pre)
    ≡ row (sets (replicate 6 0) 0 (take (length ks) vs)) (length pre + length (row_bytes ks vs))
unfolding read_row
row_back ks vs pre rest g t few long = from_back ks vs pre rest (replicate 6 0) 0 g t

-- ---- what is read was written

-- the values ws, stored in l from place i on, are those of the bytes from place at to the place reached
record Held (ks : List Kind) (s : List ℕ) (at i : ℕ) (l : List ℕ) (p : Row) : Type 0 where
  ws : List ℕ
  many : length ks ≡ length ws
  stored : p.values ≡ sets l i ws
  bytes : drop at s ≡ row_bytes ks ws ++ drop p.next s

held-step :
    (k : Kind) (ks : List Kind) (s l : List ℕ) (at i n next : ℕ) (p : Row) → number_at s at ≡ found n next →
    Held ks s next (suc i) (set l i (value_for k n)) p → Held (k ∷ ks) s at i l p
unfolding row_bytes
held-step k ks s l at i n next p e h =
    let d = number-stands s at n next e in
    let w = value_for k n in
    let b = row_bytes ks h.ws in
    let same : groups n ≡ groups (number_for k w) = ap groups (sym (number-value k n d.small)) in
    record {
      ws = w ∷ h.ws;
      many = ap suc h.many;
      stored = h.stored;
      bytes =
          d.bytes ∙ ap (λ (z : List ℕ). groups n ++ z) h.bytes ∙ sym (append_assoc (groups n) b (drop p.next s))
          ∙ ap (λ (z : List ℕ). (z ++ b) ++ drop p.next s) same;
    }

-- a row's result, by the cases of the first number; f is what follows it
on-held :
    (k : Kind) (ks : List Kind) (s l : List ℕ) (at i : ℕ) (p : Row) (f : ℕ → ℕ → Option Row) →
    ((n next : ℕ) → f n next ≡ Some p → Held ks s next (suc i) (set l i (value_for k n)) p) →
    (r : Option Reading) → number_at s at ≡ r → on_reading r f ≡ Some p → Held (k ∷ ks) s at i l p
on-held k ks s l at i p f h None e t = absurd (cc)
on-held k ks s l at i p f h (Some r) e t = held-step k ks s l at i r.value r.next p e (h r.value r.next t)

from-held : (ks : List Kind) (s l : List ℕ) (at i : ℕ) (p : Row) → row_from ks s at i l ≡ Some p → Held ks s at i l p
unfolding row_from row_bytes
from-held [] s l at i p t =
    let e = same_Some (record { values = l; next = at }) p t in
    record {
      ws = [];
      many = refl;
      stored = sym (ap (λ (r : Row). r.values) e);
      bytes = ap (λ (r : Row). drop r.next s) e;
    }
from-held (k ∷ ks) s l at i p t =
    on-held k ks s l at i p (λ n next. row_from ks s next (suc i) (set l i (value_for k n)))
    (λ n next. from-held ks s (set l i (value_for k n)) next (suc i) p) (number_at s at) refl t

-- values past a row are not written
bytes-front : (ks : List Kind) (ws rest : List ℕ) → length ks ≡ length ws → row_bytes ks (ws ++ rest) ≡ row_bytes ks ws
unfolding row_bytes
bytes-front [] ws rest n = refl
bytes-front (k ∷ ks) [] rest n = absurd (omega arith)
bytes-front (k ∷ ks) (w ∷ ws) rest n = ap (λ (z : List ℕ). groups (number_for k w) ++ z) (bytes-front ks ws rest (omega arith))

-- a row that is read: its values are six, and what is written for them stands there. Whether the kinds admit them is not asked
pub record RowStands (ks : List Kind) (s : List ℕ) (at : ℕ) (p : Row) : Type 0 where
  pub six : length p.values ≡ 6
  pub bytes : drop at s ≡ row_bytes ks p.values ++ drop p.next s

pub row-stands : (ks : List Kind) (s : List ℕ) (at : ℕ) (p : Row) → length ks ≤ 6 → read_row ks s at ≡ Some p → RowStands ks s at p
unfolding read_row
row-stands ks s at p h t =
    let q = from-held ks s (replicate 6 0) at 0 p t in
    let zeros : List ℕ = drop (length q.ws) (replicate 6 0) in
    let e = q.stored ∙ sets-front (replicate 6 0) q.ws (omega (arith, q.many)) in
    record {
      six = ap length q.stored ∙ length-sets (replicate 6 0) 0 q.ws;
      bytes = q.bytes ∙ ap (λ (z : List ℕ). z ++ drop p.next s) (sym (ap (row_bytes ks) e ∙ bytes-front ks q.ws zeros q.many));
    }
