-- One turn of each loop, and each case of a field.
-- Assumes nothing.
use Prim.Native.Nat.{ℕ, zero, suc, ◌+◌, ◌≤◌, ◌<◌}
use native.Mathlib.Numerals.{add-one}
use native.Mathlib.Omega.{arith}
use mathlib.Core.Path.{◌≡◌, refl, ap, sym, ◌∙◌}
use mathlib.Core.Bool.{Bool, true, false}
use mathlib.Core.List.{List, [], ◌∷◌, ◌++◌}
use lib.ListN.{length, get_or, drop, set, length-take, drop_of_length-le}
use lib.Seq.{drop-cons, length-take-le, get_or-take}
use borrow.Author.Tests.{eq-eqb, ne_eqb}
use Rattle.laws.specs.Tests.{choose}
use Rattle.laws.proofs.Tests.{both_left, both_right}
use Rattle.laws.proofs.Tables.{every-at}
use Rattle.std.specs.declared.option.Option.TheVariants.{Some, None}
use Rattle.fields.specs.Names.{listed, list_of, place_from}
use Rattle.fields.specs.Reader.{field, field_at}
use Rattle.fields.specs.Kinds.{parse_field, print_field, good, valid}
use Rattle.fields.specs.Rows.{part, parsed, fields_from, print_fields, all_good, all_valid}
use Rattle.fields.specs.declared.kinds.Kind.{Kind}
use Rattle.fields.specs.declared.kinds.Kind.TheVariants.{Fixed, Sign, Multiplier}
use Rattle.fields.specs.declared.names.Names.{Names}
use Rattle.fields.specs.declared.names.Names.TheVariants.{Settable, Outputs, Conditions, Inputs, Presets, Resolutions}

-- looking for a name
pub length-list_of : (names : Names) → length (list_of names) ≤ 16
unfolding list_of listed
length-list_of Settable = omega arith
length-list_of Outputs = omega arith
length-list_of Conditions = omega arith
length-list_of Inputs = omega arith
length-list_of Presets = omega arith
length-list_of Resolutions = omega arith

pub place_here : (l : List ℕ) (i v x : ℕ) → i < length l → x ≡ get_or l i 0 → place_from (drop i l) v x ≡ Some v
unfolding place_from choose
place_here l i v x h e = rw (drop-cons l i 0 h) (simp (eq-eqb x (get_or l i 0) e))

pub place-next : (l : List ℕ) (i v x : ℕ) → i < length l → (x ≡ get_or l i 0 → ⊥) → place_from (drop i l) v x ≡ place_from (drop (i + 1) l) (v + 1) x
unfolding place_from choose
place-next l i v x h e = rw (add-one i, add-one v, drop-cons l i 0 h) (simp (ne_eqb x (get_or l i 0) e))

pub place_end : (l : List ℕ) (i v x : ℕ) → length l ≤ i → place_from (drop i l) v x ≡ None
unfolding place_from
place_end l i v x h = rw (drop_of_length-le l h)

-- printing one field: the same for the same kind, and each case of a sign and of a multiplier
pub print-same : {k k' : Kind} (v : ℕ) → k ≡ k' → print_field k v ≡ print_field k' v
print-same v e = ap (λ (k : Kind). print_field k v) e

pub print-plus : (v : ℕ) → v ≡ 0 → print_field Sign v ≡ 43 ∷ []
unfolding print_field choose
print-plus v e = simp (eq-eqb v 0 e)

pub print-minus : (v : ℕ) → (v ≡ 0 → ⊥) → print_field Sign v ≡ 45 ∷ []
unfolding print_field choose
print-minus v e = simp (ne_eqb v 0 e)

pub print-one : (v : ℕ) → v ≡ 0 → print_field Multiplier v ≡ 120 ∷ 49 ∷ []
unfolding print_field choose
print-one v e = simp (eq-eqb v 0 e)

pub print-four : (v : ℕ) → (v ≡ 0 → ⊥) → print_field Multiplier v ≡ 120 ∷ 52 ∷ []
unfolding print_field choose
print-four v e = simp (ne_eqb v 0 e)

-- what stands past a row's last kind
abbrev pub no_kind : Kind
no_kind = Fixed 0 0 0

-- parsing a row: the field is missing, it is wrong, it has a value; no kind is left
pub fields-missing : (ks : List Kind) (s vs : List ℕ) (i at : ℕ) → i < length ks → field_at s at ≡ None → fields_from (drop i ks) s at i vs ≡ None
unfolding fields_from
fields-missing ks s vs i at h e = rw (drop-cons ks i no_kind h, e)

pub fields-bad :
    (ks : List Kind) (s vs : List ℕ) (i at start end : ℕ) → i < length ks → field_at s at ≡ field start end →
    parse_field (get_or ks i no_kind) (part s start end) ≡ None → fields_from (drop i ks) s at i vs ≡ None
unfolding fields_from
fields-bad ks s vs i at start end h e w = rw (drop-cons ks i no_kind h, e, w)

pub fields-step :
    (k : Kind) (ks : List Kind) (s vs : List ℕ) (at i start end v : ℕ) → field_at s at ≡ field start end → parse_field k (part s start end) ≡ Some v →
    fields_from (k ∷ ks) s at i vs ≡ fields_from ks s end (suc i) (set vs i v)
unfolding fields_from
fields-step k ks s vs at i start end v e w = rw (e, w)

pub fields-next :
    (ks : List Kind) (s vs : List ℕ) (i at start end v : ℕ) → i < length ks → field_at s at ≡ field start end →
    parse_field (get_or ks i no_kind) (part s start end) ≡ Some v →
    fields_from (drop i ks) s at i vs ≡ fields_from (drop (i + 1) ks) s end (i + 1) (set vs i v)
fields-next ks s vs i at start end v h e w = rw (add-one i, drop-cons ks i no_kind h) (fields-step _ _ s vs at i start end v e w)

pub fields-end : (ks : List Kind) (s vs : List ℕ) (i at : ℕ) → length ks ≤ i → fields_from (drop i ks) s at i vs ≡ parsed at vs
unfolding fields_from
fields-end ks s vs i at h = rw (drop_of_length-le ks h)

-- printing a row: what a place's kind and value are, the fields from a place on, and no kind left
pub good-at : (ks : List Kind) (i : ℕ) → all_good ks ≡ true → i < length ks → good (get_or ks i no_kind) ≡ true
unfolding all_good
good-at ks i t h = every-at good no_kind ks t i h

pub valid-at :
    (ks : List Kind) (vs : List ℕ) (i : ℕ) → all_valid ks vs ≡ true → i < length ks →
    (i < length vs) × (valid (get_or ks i no_kind) (get_or vs i 0) ≡ true)
unfolding all_valid
valid-at [] vs i t h = absurd (omega arith)
valid-at (k ∷ ks) [] i t h = let z : ◌≡◌ {A = ℕ} 0 1 = cc in absurd (omega arith)
valid-at (k ∷ ks) (v ∷ vs) zero t h = (omega arith, both_left _ _ t)
valid-at (k ∷ ks) (v ∷ vs) (suc i) t h =
    let r = valid-at ks vs i (both_right _ _ t) (omega arith) in
    (omega (arith, r.0), r.1)

pub print-next :
    (ks : List Kind) (vs : List ℕ) (i : ℕ) → i < length ks → i < length vs → print_fields (drop i ks) (drop i vs)
    ≡ 44 ∷ (print_field (get_or ks i no_kind) (get_or vs i 0) ++ print_fields (drop (i + 1) ks) (drop (i + 1) vs))
unfolding print_fields
print-next ks vs i h g = rw (add-one i, drop-cons ks i no_kind h, drop-cons vs i 0 g)

pub print-end : (ks : List Kind) (vs : List ℕ) (i : ℕ) → length ks ≤ i → print_fields (drop i ks) (drop i vs) ≡ []
unfolding print_fields
print-end ks vs i h = rw (drop_of_length-le ks h)
