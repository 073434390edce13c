-- What parses is valid: one field of each kind, and the fields of a row.
-- Assumes nothing.
use Prim.Native.Nat.{ℕ, zero, suc, ◌+◌, ◌-◌, ◌%◌, ◌^◌, ◌≤◌, ◌<◌}
use native.Mathlib.Nat.{mod-eq_of_lt}
use native.Mathlib.Omega.{arith}
use mathlib.Core.Path.{◌≡◌, refl, sym, ap, ◌∙◌, subst}
use mathlib.Core.Bool.{Bool, true, false}
use mathlib.Core.List.{List, [], ◌∷◌}
use lib.ListN.{length, get_or, take, drop, set, replicate, length-set}
use lib.Seq.{drop-cons, get_or-take, get_or-set_same, take-take, take-set-le}
use lib.Dec.{ltb}
use borrow.Author.Tests.{leb-true, lt-ltb}
use Rattle.laws.specs.Tests.{choose}
use Rattle.laws.specs.Tables.{every}
use Rattle.laws.proofs.Tests.{both_left, both_right, both_true, choose-by}
use Rattle.decimal.specs.Parsing.{number_of, fixed_of, within, negated, signed_of, optional_of}
use Rattle.std.specs.declared.option.Option.{Option}
use Rattle.std.specs.declared.option.Option.TheVariants.{Some, None}
use Rattle.fields.specs.Names.{pair_of, list_of, place_from}
use Rattle.fields.specs.Kinds.{next_of, sign_of, multiplier_digit, multiplier_of, name_of, parse_field, good_signed, good, valid_signed, valid}
use Rattle.fields.specs.Reader.{field_at}
use Rattle.fields.specs.Rows.{on_field, on_value, part, fields_from, parse_fields, ended, parse_all, all_good, all_valid}
use Rattle.fields.specs.declared.reader.Extent.{Extent}
use Rattle.fields.specs.declared.rows.Parsed.{Parsed}
use Rattle.fields.specs.declared.names.Names.{Names}
use Rattle.fields.specs.declared.kinds.Kind.{Kind}
use Rattle.fields.specs.declared.kinds.Kind.TheVariants.{Fixed, Next, Count, Signed, Optional, Sign, Multiplier, Name}
use Rattle.fields.proofs.Bounds.{good-signed, between-valid, next-zero, next-valid, signed_above, signed_below}

-- each value that a number can have passes a test; a bad number has none
Only : (ℕ → Bool) → Option ℕ → Type 0
Only f x = (v : ℕ) → x ≡ Some v → f v ≡ true

only-bad : (f : ℕ → Bool) → Only f None
unfolding Only
only-bad f v e = cc

only-value : (f : ℕ → Bool) (n : ℕ) → f n ≡ true → Only f (Some n)
unfolding Only
only-value f n t v e = let m : n ≡ v = cc in ap f (sym m) ∙ t

-- of a choice, by its branches
only-choose : (f : ℕ → Bool) (b : Bool) (x y : Option ℕ) → (b ≡ true → Only f x) → (b ≡ false → Only f y) → Only f (choose b x y)
only-choose f b x y p q = choose-by (Only f) b p q

only-within : (f : ℕ → Bool) (low high : ℕ) (x : Option ℕ) → ((v : ℕ) → low ≤ v → v ≤ high → f v ≡ true) → Only f (within low high x)
unfolding within
only-within f low high None p = only-bad f
only-within f low high (Some v) p =
    only-choose f _ _ _ (λ l. only-choose f _ _ _ (λ h. only-value f v (p v (leb-true _ _ l) (leb-true _ _ h))) (λ h. only-bad f)) (λ l. only-bad f)

only-negated : (f : ℕ → Bool) (x : Option ℕ) → Only (λ v. f ((2 ^ 32 - v) % 2 ^ 32)) x → Only f (negated x)
unfolding negated Only
only-negated f None p v e = cc
only-negated f (Some n) p v e = let m : (2 ^ 32 - n) % 2 ^ 32 ≡ v = cc in ap f (sym m) ∙ p n refl

-- minus a number of at most `below`
negated-valid : (below above v : ℕ) → below ≤ 2 ^ 31 → v ≤ below → valid_signed below above ((2 ^ 32 - v) % 2 ^ 32) ≡ true
negated-valid below above zero h l = signed_above below above 0 (omega arith) (omega arith)
negated-valid below above (suc v) h l =
    let m : (2 ^ 32 - suc v) % 2 ^ 32 ≡ 2 ^ 32 - suc v = mod-eq_of_lt (omega arith) in
    ap (valid_signed below above) m ∙ signed_below below above (2 ^ 32 - suc v) (omega arith) (omega arith) (omega arith)

above-valid : (below above : ℕ) (s : List ℕ) → above < 2 ^ 31 → Only (valid_signed below above) (within 0 above (number_of s))
above-valid below above s h = only-within _ 0 above (number_of s) (λ v l u. signed_above below above v (omega arith) u)

signed_of-valid : (below above : ℕ) (s : List ℕ) → good_signed below above ≡ true → Only (valid_signed below above) (signed_of below above s)
unfolding signed_of
signed_of-valid below above [] g = only-bad _
signed_of-valid below above (b ∷ s) g =
    let h = good-signed below above g in
    only-choose _ _ _ _ (λ t. above-valid below above s h.1) (λ t. only-choose _ _ _ _
    (λ u. only-negated _ _ (only-within _ 0 below (number_of s) (λ v l m. negated-valid below above v h.0 m))) (λ u. only-bad _))

optional_of-valid : (below above : ℕ) (s : List ℕ) → good_signed below above ≡ true → Only (valid_signed below above) (optional_of below above s)
unfolding optional_of
optional_of-valid below above [] g = only-bad _
optional_of-valid below above (b ∷ s) g =
    only-choose _ _ _ _ (λ t. signed_of-valid below above (b ∷ s) g) (λ t. above-valid below above (b ∷ s) (good-signed below above g).1)

next_of-valid : (x : Option ℕ) → Only (valid Next) (next_of x)
unfolding next_of
next_of-valid None = only-bad _
next_of-valid (Some v) = only-choose _ _ _ _ (λ t. only-value _ 0 next-zero) (λ t. only-within _ 100 230 (Some v) next-valid)

-- below two
two : ℕ → Bool
two v = ltb v 2

sign_of-valid : (s : List ℕ) → Only two (sign_of s)
unfolding sign_of two
sign_of-valid s =
    only-choose two _ _ _ (λ t. only-choose two _ _ _ (λ u. only-value two 0 refl)
    (λ u. only-choose two _ _ _ (λ w. only-value two 1 refl) (λ w. only-bad two))) (λ t. only-bad two)

multiplier_digit-valid : (b : ℕ) → Only two (multiplier_digit b)
unfolding multiplier_digit two
multiplier_digit-valid b =
    only-choose two _ _ _ (λ t. only-value two 0 refl) (λ t. only-choose two _ _ _ (λ u. only-value two 1 refl) (λ u. only-bad two))

multiplier_of-valid : (s : List ℕ) → Only two (multiplier_of s)
unfolding multiplier_of
multiplier_of-valid s =
    only-choose two _ _ _ (λ t. only-choose two _ _ _ (λ u. multiplier_digit-valid _)
    (λ u. only-choose two _ _ _ (λ w. multiplier_digit-valid _) (λ w. only-bad two))) (λ t. only-bad two)

place_from-valid : (l : List ℕ) (i x n : ℕ) → i + length l ≤ n → Only (λ v. ltb v n) (place_from l i x)
unfolding place_from
place_from-valid [] i x n h = only-bad _
place_from-valid (y ∷ l) i x n h =
    only-choose _ _ _ _ (λ t. only-value (λ v. ltb v n) i (lt-ltb i n (omega arith))) (λ t. place_from-valid l (suc i) x n (omega arith))

name_of-valid : (names : Names) (s : List ℕ) → Only (valid (Name names)) (name_of names s)
unfolding name_of valid
name_of-valid names s =
    only-choose _ _ _ _ (λ t. place_from-valid (list_of names) 0 (pair_of s) (length (list_of names)) (omega arith)) (λ t. only-bad _)

parse-only : (k : Kind) (s : List ℕ) → good k ≡ true → Only (valid k) (parse_field k s)
unfolding parse_field good valid two
parse-only (Fixed w low high) s g = only-within _ low high (fixed_of w s) (between-valid low high)
parse-only Next s g = next_of-valid (fixed_of 3 s)
parse-only (Count low high) s g = only-within _ low high (number_of s) (between-valid low high)
parse-only (Signed below above) s g = signed_of-valid below above s g
parse-only (Optional below above) s g = optional_of-valid below above s g
parse-only Sign s g = sign_of-valid s
parse-only Multiplier s g = multiplier_of-valid s
parse-only (Name names) s g = name_of-valid names s

-- one field of each kind
pub parse-valid : (k : Kind) (s : List ℕ) (v : ℕ) → good k ≡ true → parse_field k s ≡ Some v → valid k v ≡ true
unfolding Only
parse-valid k s v g e = parse-only k s g v e

-- a row's result, by the cases of a field and of its value
pub on_field-by : (P : Option Parsed → Type 0) (x : Option Extent) {f : ℕ → ℕ → Option Parsed} → ((start end : ℕ) → P (f start end)) → P None → P (on_field x f)
on_field-by P (Some e) p q = p e.start e.end
on_field-by P None p q = q

pub on_value-by : (P : Option Parsed → Type 0) (x : Option ℕ) {f : ℕ → Option Parsed} → ((v : ℕ) → x ≡ Some v → P (f v)) → P None → P (on_value x f)
on_value-by P (Some v) p q = p v refl
on_value-by P None p q = q

-- values ws, stored from place i on over vs, are valid, and those before place i are as they were
record Stored (ks : List Kind) (i : ℕ) (vs ws : List ℕ) : Type 0 where
  long : length ws ≡ length vs
  kept : take i ws ≡ take i vs
  valued : all_valid ks (drop i ws) ≡ true

stored-step :
    (k : Kind) (ks : List Kind) (i v : ℕ) (vs ws : List ℕ) → i < length vs → valid k v ≡ true →
    Stored ks (suc i) (set vs i v) ws → Stored (k ∷ ks) i vs ws
unfolding all_valid
stored-step k ks i v vs ws h t r =
    let same : length ws ≡ length vs = r.long ∙ length-set vs i v in
    let here : get_or ws i 0 ≡ v = sym (get_or-take (suc i) ws i 0 (omega arith)) ∙ ap (λ (l : List ℕ). get_or l i 0) r.kept
    ∙ get_or-take (suc i) (set vs i v) i 0 (omega arith) ∙ get_or-set_same vs i v 0 h in
    record {
      long = same;
      kept = sym (take-take i (suc i) ws (omega arith)) ∙ ap (take i) r.kept
          ∙ take-take i (suc i) (set vs i v) (omega arith) ∙ take-set-le i vs i v (omega arith);
      valued = rw (drop-cons ws i 0 (omega arith), here) (both_true t r.valued);
    }

-- what is parsed to the end is what is parsed
pub ended-some : (s : List ℕ) (x : Option Parsed) (p : Parsed) → ended s x ≡ Some p → x ≡ Some p
unfolding ended
ended-some s (Some q) p = choose-by (λ (y : Option Parsed). y ≡ Some p → Some q ≡ Some p) (ltb q.at (length s)) (λ t e. cc) (λ t e. e)
ended-some s None p = λ e. cc

-- what holds of what is parsed, where it is
Whole : (Parsed → Type 0) → Option Parsed → Type 0
Whole P (Some p) = P p
Whole P None = Unit {0}

whole_of : (P : Parsed → Type 0) {p : Parsed} {x : Option Parsed} → Whole P x → x ≡ Some p → P p
unfolding Whole
whole_of P w e = subst (Whole P) e w

from-valid :
    (ks : List Kind) (s vs : List ℕ) (at i : ℕ) → all_good ks ≡ true → i + length ks ≤ length vs →
    Whole (λ p. Stored ks i vs p.values) (fields_from ks s at i vs)
unfolding Whole fields_from all_good every all_valid
from-valid [] s vs at i g h = record { long = refl; kept = refl; valued = refl }
from-valid (k ∷ ks) s vs at i g h =
    on_field-by Right (field_at s at) (λ start end. on_value-by Right (parse_field k (part s start end))
    (λ v e. later start end v e _ (from-valid ks s (set vs i v) end (suc i) (both_right _ _ g) (rw (length-set vs i v) (omega arith)))) tt) tt
  where
    Right : Option Parsed → Type 0
    Right x = Whole (λ p. Stored (k ∷ ks) i vs p.values) x

    later : (start end v : ℕ) → parse_field k (part s start end) ≡ Some v → (x : Option Parsed) →
        Whole (λ p. Stored ks (suc i) (set vs i v) p.values) x → Right x
    later start end v e (Some p) w = stored-step k ks i v vs _ (omega arith) (parse-valid k _ v (both_left _ _ g) e) w
    later start end v e None w = tt

-- the fields of a row
pub fields-valid :
    (ks : List Kind) (s : List ℕ) (from : ℕ) (p : Parsed) → all_good ks ≡ true → length ks ≤ 6 →
    parse_fields ks s from ≡ Some p → all_valid ks p.values ≡ true
unfolding parse_fields
fields-valid ks s from p g h e = (whole_of (λ q. Stored ks 0 (replicate 6 0) q.values) (from-valid ks s (replicate 6 0) from 0 g (omega arith)) e).valued

pub all_valid_lem :
    (ks : List Kind) (s : List ℕ) (from : ℕ) (p : Parsed) → all_good ks ≡ true → length ks ≤ 6 →
    parse_all ks s from ≡ Some p → all_valid ks p.values ≡ true
unfolding parse_all
all_valid_lem ks s from p g h e = fields-valid ks s from p g h (ended-some s _ p e)
