-- The values that a kind admits, and that what a cell holds of them is the whole value.
-- Assumes nothing.
use Prim.Native.Nat.{ℕ, zero, suc, ◌-◌, ◌^◌, ◌≤◌, ◌<◌}
use native.Mathlib.Nat.{mod-eq_of_lt}
use native.Mathlib.Omega.{arith}
use mathlib.Core.Path.{◌≡◌, refl, ap, sym, ◌∙◌}
use mathlib.Core.Bool.{Bool, true, false}
use mathlib.Core.List.{List, [], ◌∷◌}
use mathlib.Core.Logic.{⊎_elim}
use lib.Dec.{ltb, lit<}
use lib.IntN.{nat_abs}
use lib.ListN.{length, get_or}
use mir.Syntax.{w32}
use mir.Val.{to_z}
use mir.Facts.{to_z_pos}
use borrow.Author.Tests.{ltb-true, leb-true, lt-ltb, le-leb}
use Rattle.laws.specs.Tests.{choose}
use Rattle.laws.proofs.Tests.{both_left, both_right, both_true, lt-or-le}
use Rattle.units.specs.Limits.{step_limit}
use Rattle.units.specs.Bits.{steps_of, bits_of}
use Rattle.units.specs.declared.Steps.{Steps}
use Rattle.units.proofs.Integers.{sfits-nat_abs}
use Rattle.units.proofs.Complement.{bits-steps, steps-bits, to_z-high}
use Rattle.frequency.specs.Places.{hertz_of, place_of}
use Rattle.frequency.specs.declared.Frequency.{Frequency}
use Rattle.frequency.proofs.Placing.{hertz-past, hertz-range, place-hertz, place-below}
use Rattle.fields.specs.Names.{list_of}
use Rattle.fields.specs.Kinds.{valid}
use Rattle.fields.specs.Rows.{all_valid}
use Rattle.fields.specs.declared.kinds.Kind.{Kind}
use Rattle.fields.specs.declared.kinds.Kind.TheVariants.{Fixed, Next, Count, Signed, Optional, Sign, Multiplier, Name}
use Rattle.fields.proofs.Bounds.{valid-between, between-valid, valid-next, valid-signed, valid-name}
use Rattle.format.specs.Formats.{hertz, steps, count}
use Rattle.instruction.specs.Numbers.{bit_of, is_one, travel_backward, travel_x4, travel_of, byte_of, word_of}
use Rattle.instruction.specs.Soundness.{steps_within}
use Rattle.instruction.specs.declared.Travel.{Travel}
use Rattle.instruction.specs.declared.Travel.TheVariants.{Forward, ForwardX4, Backward, BackwardX4}

-- ---- the number back from what is held

-- what a cell holds of a number, as a number again: the same, below a bound
pub record Holder : Type 0 where
  pub held : ℕ → ℕ
  pub below : ℕ
  pub keeps : (v : ℕ) → v < below → held v ≡ v

pub keeps-byte : (v : ℕ) → v < 256 → byte_of v ≡ v
keeps-byte v h = mod-eq_of_lt h

pub keeps-word : (v : ℕ) → v < 65536 → word_of v ≡ v
keeps-word v h = mod-eq_of_lt h

pub keeps-bit : (v : ℕ) → v < 2 → bit_of (is_one v) ≡ v
keeps-bit zero h = refl
keeps-bit (suc zero) h = refl
keeps-bit (suc (suc v)) h = absurd (omega arith)

pub keeps-bits : (v : ℕ) → v < 2 ^ 32 → bits_of (steps_of v) ≡ v
keeps-bits v h = bits-steps v (record { fits = h })

abbrev pub byte : Holder
byte = record { held = byte_of; below = 256; keeps = keeps-byte }

abbrev pub word : Holder
word = record { held = word_of; below = 65536; keeps = keeps-word }

abbrev pub bit : Holder
bit = record { held = λ v. bit_of (is_one v); below = 2; keeps = keeps-bit }

abbrev pub bits : Holder
bits = record { held = λ v. bits_of (steps_of v); below = 2 ^ 32; keeps = keeps-bits }

-- the greatest value of a kind
unfoldable pub greatest : Kind → ℕ
greatest (Fixed w low high) = high
greatest Next = 230
greatest (Count low high) = high
greatest (Signed below above) = 2 ^ 32 - 1
greatest (Optional below above) = 2 ^ 32 - 1
greatest Sign = 1
greatest Multiplier = 1
greatest (Name names) = length (list_of names) - 1

valid-greatest : (k : Kind) (v : ℕ) → valid k v ≡ true → v ≤ greatest k
unfolding greatest valid
valid-greatest (Fixed w low high) v t = (valid-between low high v t).1
valid-greatest Next v t = ⊎_elim (λ e. omega arith) (λ r. omega arith) (valid-next v t)
valid-greatest (Count low high) v t = (valid-between low high v t).1
valid-greatest (Signed below above) v t = omega (arith, (valid-signed below above v t).0)
valid-greatest (Optional below above) v t = omega (arith, (valid-signed below above v t).0)
valid-greatest Sign v t = omega (arith, ltb-true v 2 t)
valid-greatest Multiplier v t = omega (arith, ltb-true v 2 t)
valid-greatest (Name names) v t = omega (arith, valid-name names v t)

-- ---- what is held back from its number

pub one_bit : (b : Bool) → is_one (bit_of b) ≡ b
one_bit true = refl
one_bit false = refl

pub travel-bits : (t : Travel) → travel_of (is_one (bit_of (travel_backward t))) (is_one (bit_of (travel_x4 t))) ≡ t
unfolding travel_of choose
travel-bits Forward = refl
travel-bits ForwardX4 = refl
travel-bits Backward = refl
travel-bits BackwardX4 = refl

pub backward-travel : (s x : Bool) → travel_backward (travel_of s x) ≡ s
unfolding travel_of choose
backward-travel true true = refl
backward-travel true false = refl
backward-travel false true = refl
backward-travel false false = refl

pub x4-travel : (s x : Bool) → travel_x4 (travel_of s x) ≡ x
unfolding travel_of choose
x4-travel true true = refl
x4-travel true false = refl
x4-travel false true = refl
x4-travel false false = refl

pub steps-bits-within : (n : Steps) → steps_within n ≡ true → steps_of (bits_of n) ≡ n
unfolding steps_within
steps-bits-within n t = steps-bits n (sfits-nat_abs w32 n.0 step_limit (leb-true _ _ t) (lit< tt))

within_low : (v : ℕ) → v ≤ step_limit → steps_within (steps_of v) ≡ true
unfolding steps_within
within_low v h = le-leb (nat_abs (to_z w32 v)) step_limit (rw (to_z_pos w32 {n = v} (omega arith)) h)

within-high : (v : ℕ) → 2 ^ 31 ≤ v → v < 2 ^ 32 → 2 ^ 32 - v ≤ step_limit → steps_within (steps_of v) ≡ true
unfolding steps_within
within-high v l u h = le-leb (nat_abs (to_z w32 v)) step_limit (rw (to_z-high v l) (omega arith))

-- 01: "n is ±nnn within 8,388,607 each way"
pub within-steps : (v : ℕ) → valid steps v ≡ true → steps_within (steps_of v) ≡ true
unfolding valid
within-steps v t =
    let r = valid-signed step_limit step_limit v t in
    ⊎_elim (λ (l : v < 2 ^ 31). within_low v (r.1.0 l)) (λ (l : 2 ^ 31 ≤ v). within-high v l r.0 (r.1.1 l)) (lt-or-le v (2 ^ 31))

-- 01, of the 05: "nnn", "0 to 8,388,607"
pub within_count : (v : ℕ) → valid count v ≡ true → steps_within (steps_of v) ≡ true
unfolding valid
within_count v t = within_low v (valid-between 0 step_limit v t).1

-- a frequency that 21 or 22 may hold is in the table
pub place-hertz-valid : (f : Frequency) → valid hertz (hertz_of f) ≡ true → place_of (hertz_of f) ≡ f
unfolding valid
place-hertz-valid f t =
    ⊎_elim (λ (l : f.0 < 599). place-hertz f l)
    (λ (l : 599 ≤ f.0). absurd (omega (arith, hertz-past f l, valid-between 1 4800 (hertz_of f) t))) (lt-or-le f.0 599)

-- 01: "FFFF 0001 to 4800 is stored as the greatest table value not above it", which is again one from 1 to 4800
pub hertz-place-valid : (v : ℕ) → valid hertz v ≡ true → valid hertz (hertz_of (place_of v)) ≡ true
unfolding valid
hertz-place-valid v t =
    let r = valid-between 1 4800 v t in
    let h = hertz-range (place_of v) (place-below v r.0 r.1) in
    between-valid 1 4800 (hertz_of (place_of v)) h.0 h.1

-- ---- a row's values, one by one

-- each value is one that its kind admits
unfoldable pub Admitted : List Kind → List ℕ → Type 0
Admitted ks vs = (i : ℕ) → ltb i (length ks) ≡ true → valid (get_or ks i Next) (get_or vs i 0) ≡ true

pub admitted : (ks : List Kind) (vs : List ℕ) → all_valid ks vs ≡ true → Admitted ks vs
unfolding Admitted all_valid
admitted [] vs t i h = absurd (omega (arith, ltb-true i 0 h))
admitted (k ∷ ks) [] t i h = let z : ◌≡◌ {A = ℕ} 0 1 = cc in absurd (omega arith)
admitted (k ∷ ks) (v ∷ vs) t zero h = both_left _ _ t
admitted (k ∷ ks) (v ∷ vs) t (suc i) h =
    admitted ks vs (both_right _ _ t) i (lt-ltb i (length ks) (omega (arith, ltb-true (suc i) (suc (length ks)) h)))

-- a holder is wide enough for the kind at a place
unfoldable pub wide_at : Holder → List Kind → ℕ → Bool
wide_at h [] i = false
wide_at h (k ∷ ks) zero = ltb (greatest k) h.below
wide_at h (k ∷ ks) (suc i) = wide_at h ks i

-- each value comes back from a holder that is wide enough
unfoldable pub Kept : List Kind → List ℕ → Type 0
Kept ks vs = (h : Holder) (i : ℕ) → wide_at h ks i ≡ true → h.held (get_or vs i 0) ≡ get_or vs i 0

pub kept : (ks : List Kind) (vs : List ℕ) → all_valid ks vs ≡ true → Kept ks vs
unfolding Kept wide_at all_valid
kept [] vs t h i w = cc
kept (k ∷ ks) [] t h i w = cc
kept (k ∷ ks) (v ∷ vs) t h zero w = h.keeps v (omega (arith, valid-greatest k v (both_left _ _ t), ltb-true (greatest k) h.below w))
kept (k ∷ ks) (v ∷ vs) t h (suc i) w = kept ks vs (both_right _ _ t) h i w

-- the same values, at least in the row's places
pub valid_same : (ks : List Kind) (vs ws : List ℕ) → length ks ≤ length ws → ((i : ℕ) → i < length ks → get_or vs i 0 ≡ get_or ws i 0) →
    all_valid ks vs ≡ true → all_valid ks ws ≡ true
unfolding all_valid
valid_same [] vs ws h e t = refl
valid_same (k ∷ ks) [] ws h e t = cc
valid_same (k ∷ ks) (v ∷ vs) [] h e t = absurd (omega arith)
valid_same (k ∷ ks) (v ∷ vs) (w ∷ ws) h e t =
    both_true (ap (valid k) (sym (e 0 (omega arith))) ∙ both_left _ _ t)
    (valid_same ks vs ws (omega arith) (λ i l. e (suc i) (omega arith)) (both_right _ _ t))
