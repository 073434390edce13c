-- What is printed parses to the values it was printed from: one field of each kind, and every list of kinds. So printing is injective.
-- Assumes nothing.
use Prim.Native.Nat.{ℕ, zero, suc, ◌+◌, ◌≤◌, ◌<◌}
use native.Mathlib.Nat.{div-add-mod'}
use native.Mathlib.Omega.{arith}
use mathlib.Core.Path.{◌≡◌, refl, sym, ap, ◌∙◌}
use mathlib.Core.Bool.{true}
use mathlib.Core.Logic.{⊎_elim}
use mathlib.Core.List.{List, [], ◌∷◌, ◌++◌, append_assoc, append-nil}
use lib.ListN.{length, get_or, take, drop, set, replicate, length-append}
use lib.Seq.{sets, take_at}
use borrow.Author.Tests.{ltb-true, le-ltb, eq-eqb, ne_eqb}
use Rattle.laws.specs.Tests.{choose}
use Rattle.laws.specs.Tables.{every}
use Rattle.laws.proofs.Tests.{both_left, both_right}
use Rattle.laws.proofs.Writing.{sets-front}
use Rattle.decimal.proofs.RoundTrip.{fixed-digits, number-decimal, within-value, signed-signed, optional-signed}
use Rattle.std.specs.declared.option.Option.{Option}
use Rattle.std.specs.declared.option.Option.TheVariants.{Some, None}
use Rattle.fields.specs.Reader.{Ends}
use Rattle.fields.specs.Names.{pair_of, list_of, place_from}
use Rattle.fields.specs.Kinds.{next_of, sign_of, multiplier_digit, multiplier_of, name_of, parse_field, letters_of, print_field, good, valid}
use Rattle.fields.specs.Rows.{parsed, fields_from, parse_fields, ended, parse_all, print_fields, all_good, all_valid}
use Rattle.fields.specs.declared.names.Names.{Names}
use Rattle.fields.specs.declared.kinds.Kind.{Kind}
use Rattle.fields.specs.declared.kinds.Kind.TheVariants.{Fixed, Next, Count, Signed, Optional, Sign, Multiplier, Name}
use Rattle.fields.specs.declared.rows.Parsed.{Parsed}
use Rattle.fields.proofs.Reading.{field_at-plain, part-plain}
use Rattle.fields.proofs.Naming.{place-name}
use Rattle.fields.proofs.Bounds.{good-fixed, good-count, valid-between, valid-next, valid-signed, valid-name}
use Rattle.fields.proofs.Plain.{plain-field}
use Rattle.fields.proofs.Turns.{fields-step}

next-back : (v : ℕ) → valid Next v ≡ true → next_of (Some v) ≡ Some v
unfolding next_of choose
next-back v t =
    ⊎_elim (λ e. simp (eq-eqb v 0 e) (ap Some (sym e)))
    (λ r. simp (ne_eqb v 0 (λ e. omega arith)) (within-value 100 230 v r.0 r.1)) (valid-next v t)

-- what holds of both numbers below two
below_two : (P : ℕ → Type 0) → P 0 → P 1 → (v : ℕ) → v < 2 → P v
below_two P p q zero h = p
below_two P p q (suc zero) h = q
below_two P p q (suc (suc v)) h = absurd (omega arith)

sign-back : (v : ℕ) → v < 2 → sign_of (print_field Sign v) ≡ Some v
unfolding sign_of print_field choose
sign-back = below_two (λ v. sign_of (print_field Sign v) ≡ Some v) refl refl

multiplier-back : (v : ℕ) → v < 2 → multiplier_of (print_field Multiplier v) ≡ Some v
unfolding multiplier_of multiplier_digit print_field choose
multiplier-back = below_two (λ v. multiplier_of (print_field Multiplier v) ≡ Some v) refl refl

name_back : (names : Names) (v : ℕ) → v < length (list_of names) → name_of names (letters_of (get_or (list_of names) v 0)) ≡ Some v
unfolding name_of letters_of pair_of choose
name_back names v h =
    ap (place_from (list_of names) 0) (div-add-mod' (get_or (list_of names) v 0) 256) ∙ place-name names v h

-- one field of each kind
pub field_back : (k : Kind) (v : ℕ) → good k ≡ true → valid k v ≡ true → parse_field k (print_field k v) ≡ Some v
unfolding parse_field print_field good valid
field_back (Fixed w low high) v g t =
    let b = good-fixed w low high g in
    let r = valid-between low high v t in
    rw (fixed-digits w v b.0 b.1.0 (omega arith) (omega arith)) (within-value low high v r.0 r.1)
field_back Next v g t =
    let small : v < 1000 = ⊎_elim (λ e. omega arith) (λ r. omega arith) (valid-next v t) in
    rw (fixed-digits 3 v (omega arith) (omega arith) small (omega arith)) (next-back v t)
field_back (Count low high) v g t =
    let r = valid-between low high v t in
    rw (number-decimal v (omega (arith, good-count low high g))) (within-value low high v r.0 r.1)
field_back (Signed below above) v g t = let r = valid-signed below above v t in signed-signed below above v r.0 r.1.0 r.1.1
field_back (Optional below above) v g t = let r = valid-signed below above v t in optional-signed below above v r.0 r.1.0 r.1.1
field_back Sign v g t = sign-back v (ltb-true v 2 t)
field_back Multiplier v g t = multiplier-back v (ltb-true v 2 t)
field_back (Name names) v g t = name_back names v (valid-name names v t)

ends-print : (ks : List Kind) (vs rest : List ℕ) → Ends rest → Ends (print_fields ks vs ++ rest)
unfolding Ends print_fields
ends-print [] vs rest e = e
ends-print (k ∷ ks) [] rest e = e
ends-print (k ∷ ks) (v ∷ vs) rest e = refl

from_back :
    (ks : List Kind) (vs pre rest l : List ℕ) (i : ℕ) → all_good ks ≡ true → all_valid ks vs ≡ true → length ks ≡ length vs → Ends rest →
    fields_from ks (pre ++ (print_fields ks vs ++ rest)) (length pre) i l
    ≡ parsed (length pre + length (print_fields ks vs)) (sets l i vs)
unfolding fields_from print_fields all_good every all_valid
from_back [] [] pre rest l i g t n e = ap (λ (a : ℕ). parsed a l) (omega arith)
from_back [] (v ∷ vs) pre rest l i g t n e = absurd (omega arith)
from_back (k ∷ ks) [] pre rest l i g t n e = absurd (omega arith)
from_back (k ∷ ks) (v ∷ vs) pre rest l i g t n e =
    let f = print_field k v in
    let p = print_fields ks vs in
    let front = pre ++ 44 ∷ f in
    let long : length front ≡ length pre + 1 + length f = omega (arith, length-append pre (44 ∷ f)) in
    let back = field_back k v (both_left _ _ g) (both_left _ _ t) in
    let after = from_back ks vs front rest (set l i v) (suc i) (both_right _ _ g) (both_right _ _ t) (omega arith) e in
    ap (λ (x : List ℕ). fields_from (k ∷ ks) (pre ++ 44 ∷ x) (length pre) i l) (append_assoc f p rest)
    ∙ fields-step k ks (pre ++ 44 ∷ (f ++ (p ++ rest))) l (length pre) i (length pre + 1) (length pre + 1 + length f) v
    (field_at-plain pre f (p ++ rest) (plain-field k v (both_left _ _ t)) (ends-print ks vs rest e))
    (ap (parse_field k) (part-plain pre f (p ++ rest)) ∙ back)
    ∙ ap (λ (x : List ℕ). fields_from ks x (length pre + 1 + length f) (suc i) (set l i v)) (sym (append_assoc pre (44 ∷ f) (p ++ rest)))
    ∙ ap (λ (a : ℕ). fields_from ks (front ++ (p ++ rest)) a (suc i) (set l i v)) (sym long)
    ∙ after
    ∙ ap (λ (a : ℕ). parsed a (sets (set l i v) (suc i) vs)) (omega (arith, long, length-append f p))

-- every list of kinds: what is printed, at any place of a string and before what may follow, is read back
pub fields_back :
    (ks : List Kind) (vs pre rest : List ℕ) → all_good ks ≡ true → all_valid ks vs ≡ true → length ks ≡ length vs → Ends rest →
    parse_fields ks (pre ++ (print_fields ks vs ++ rest)) (length pre)
    ≡ parsed (length pre + length (print_fields ks vs)) (sets (replicate 6 0) 0 vs)
unfolding parse_fields
fields_back ks vs pre rest g t n e = from_back ks vs pre rest (replicate 6 0) 0 g t n e

pub all_back :
    (ks : List Kind) (vs pre : List ℕ) → all_good ks ≡ true → all_valid ks vs ≡ true → length ks ≡ length vs →
    parse_all ks (pre ++ print_fields ks vs) (length pre)
    ≡ parsed (length pre + length (print_fields ks vs)) (sets (replicate 6 0) 0 vs)
unfolding parse_all ended Ends choose
all_back ks vs pre g t n =
    let p = print_fields ks vs in
    let q = fields_back ks vs pre [] g t n tt in
    let whole : pre ++ (p ++ []) ≡ pre ++ p = ap (λ (x : List ℕ). pre ++ x) (append-nil p) in
    ap (ended (pre ++ p)) (ap (λ (x : List ℕ). parse_fields ks x (length pre)) (sym whole) ∙ q)
    ∙ simp (le-ltb (length pre + length p) (length (pre ++ p)) (omega (arith, length-append pre p)))

-- the values stand at the front of the six places
values-front : (vs : List ℕ) (n : ℕ) → length vs ≡ n → n ≤ 6 → take n (sets (replicate 6 0) 0 vs) ≡ vs
values-front vs n e h = ap (take n) (sets-front (replicate 6 0) vs (omega arith)) ∙ take_at vs (drop (length vs) (replicate 6 0)) n e

values_in : Option Parsed → List ℕ
values_in (Some p) = p.values
values_in None = []

pub print-injective :
    (ks : List Kind) (vs ws : List ℕ) → all_good ks ≡ true → all_valid ks vs ≡ true → all_valid ks ws ≡ true →
    length ks ≡ length vs → length ks ≡ length ws → length ks ≤ 6 → print_fields ks vs ≡ print_fields ks ws → vs ≡ ws
unfolding values_in
print-injective ks vs ws g t u m n h e =
    let p = sym (all_back ks vs [] g t m) ∙ ap (λ (x : List ℕ). parse_all ks x 0) e ∙ all_back ks ws [] g u n in
    let q = ap (λ (r : Option Parsed). take (length ks) (values_in r)) p in
    sym (values-front vs (length ks) (sym m) h) ∙ q ∙ values-front ws (length ks) (sym n) h
