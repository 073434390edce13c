-- From one test over the table of formats to the rule at each code.
-- Assumes nothing.
use Prim.Native.Nat.{ℕ, ◌≤◌}
use native.Mathlib.Omega.{arith}
use mathlib.Core.Path.{◌≡◌, refl, ap, ◌∙◌}
use mathlib.Core.Bool.{Bool, true, false}
use mathlib.Core.List.{List, [], ◌∷◌}
use mathlib.Core.Logic.{⊎_elim}
use lib.Dec.{eqb, leb}
use lib.ListN.{length}
use borrow.Author.Tests.{eqb-true, leb-true}
use Rattle.laws.specs.Tests.{both}
use Rattle.laws.specs.Tables.{every}
use Rattle.laws.proofs.Tests.{both_left, both_right, either-cases, choose-by}
use Rattle.std.specs.declared.option.Option.{Option}
use Rattle.std.specs.declared.option.Option.TheVariants.{Some, None}
use Rattle.fields.specs.Kinds.{good, good_signed}
use Rattle.fields.specs.Rows.{all_good}
use Rattle.fields.specs.declared.kinds.Kind.{Kind}
use Rattle.format.specs.Formats.{Entry, formats, fields_in, fields_of, known_in, known, format_of}

-- what holds of each entry's fields, and of none, holds of every code's fields
fields_in-by : (f : List Kind → Bool) (es : List Entry) (code : ℕ) → f [] ≡ true → every (λ (e : Entry). f e.fields) es ≡ true →
    f (fields_in es code) ≡ true
unfolding fields_in every
fields_in-by f [] code n t = n
fields_in-by f (e ∷ es) code n t =
    choose-by (λ (ks : List Kind). f ks ≡ true) (eqb code e.code) (λ u. both_left _ _ t) (λ u. fields_in-by f es code n (both_right _ _ t))

-- the same, of the table
pub fields-by : (f : List Kind → Bool) (code : ℕ) → f [] ≡ true → every (λ (e : Entry). f e.fields) formats ≡ true → f (fields_of code) ≡ true
unfolding fields_of
fields-by f code n t = fields_in-by f formats code n t

-- every field has a printed form
pub formats-good : (code : ℕ) → all_good (fields_of code) ≡ true
unfolding all_good every both good good_signed
formats-good code = fields-by all_good code refl refl

-- at most six fields
few : List Kind → Bool
few ks = leb (length ks) 6

pub formats-few : (code : ℕ) → length (fields_of code) ≤ 6
unfolding few every both
formats-few code = leb-true _ _ (fields-by few code refl refl)

-- what the format of a code tells: whether there is such a code, and its fields
pub unknown-format : (code : ℕ) → None ≡ format_of code → known code ≡ false
unfolding format_of
unknown-format code = choose-by (λ (x : Option (List Kind)). None ≡ x → known code ≡ false) (known code) (λ t e. cc) (λ t e. t)

pub known-format : (code : ℕ) {ks : List Kind} → Some ks ≡ format_of code → (known code ≡ true) × (ks ≡ fields_of code)
unfolding format_of
known-format code {ks} =
    choose-by (λ (x : Option (List Kind)). Some ks ≡ x → (known code ≡ true) × (ks ≡ fields_of code)) (known code) (λ t e. (t, cc)) (λ t e. cc)

-- what holds of each code of the table holds of every known code
known_in-by : (f : ℕ → Bool) (es : List Entry) (code : ℕ) → every (λ (e : Entry). f e.code) es ≡ true → known_in es code ≡ true → f code ≡ true
unfolding known_in every
known_in-by f [] code t h = cc
known_in-by f (e ∷ es) code t h =
    ⊎_elim (λ (u : eqb code e.code ≡ true). ap f (eqb-true _ _ u) ∙ both_left _ _ t)
    (λ u. known_in-by f es code (both_right _ _ t) u) (either-cases _ _ h)

pub known_by : (f : ℕ → Bool) (code : ℕ) → every (λ (e : Entry). f e.code) formats ≡ true → known code ≡ true → f code ≡ true
unfolding known
known_by f code t h = known_in-by f formats code t h
