-- The tests of a whole row, one law for each shape of row: what the code joins is what the definition joins.
-- Assumes nothing.
use Prim.Native.Nat.{ℕ}
use mathlib.Core.Path.{◌≡◌, ◌∙◌}
use mathlib.Core.Bool.{Bool, true, ◌&&◌}
use mathlib.Core.List.{[], ◌∷◌}
use Rattle.laws.specs.Tests.{both}
use Rattle.laws.proofs.Joins.{and_both, both-start, both_end, both-assoc, both-comm, both-under-right}
use Rattle.units.specs.declared.Steps.{Steps}
use Rattle.units.specs.Bits.{bits_of}
use Rattle.fields.specs.Kinds.{valid}
use Rattle.fields.specs.Rows.{all_valid}
use Rattle.fields.specs.declared.kinds.Kind.{Kind}
use Rattle.fields.specs.declared.kinds.Kind.TheVariants.{Next, Sign, Multiplier}
use Rattle.format.specs.Formats.{steps, bit}
use Rattle.instruction.specs.Numbers.{bit_of, six}
use Rattle.instruction.specs.Soundness.{steps_within}
use Rattle.instruction.proofs.TestsFields.{valid-sign, valid-multiplier, valid-value, valid-steps}

-- tests joined one after the other, with no bits among them
ruleset joined = (and_both, both-start, both_end, both-assoc, valid-sign, valid-multiplier, valid-value)

-- 69, which has no fields
pub row-none : (w : Bool) → w ≡ both (all_valid [] (six 0 0 0 0 0 0)) w
unfolding all_valid
row-none w = simp both-start

-- 00 and 60
pub row_next : (d : ℕ) {b : Bool} → b ≡ valid Next d → b ≡ both (all_valid (Next ∷ []) (six d 0 0 0 0 0)) true
unfolding all_valid
row_next d q = simp (q, joined)

-- 70
pub row-value : (v : Bool) (d : ℕ) {b : Bool} → b ≡ valid Next d → b ≡ both (all_valid (bit ∷ Next ∷ []) (six (bit_of v) d 0 0 0 0)) true
unfolding all_valid
row-value v d q = simp (q, joined)

-- 61, 62 and 65
pub row_one : (k : Kind) (f d : ℕ) {a b : Bool} → a ≡ valid k f → b ≡ valid Next d →
    a && b ≡ both (all_valid (k ∷ Next ∷ []) (six f d 0 0 0 0)) true
unfolding all_valid
row_one k f d p q = simp (p, q, joined)

-- 58
pub row-one-value : (k : Kind) (f d : ℕ) (v : Bool) {a b : Bool} → a ≡ valid k f → b ≡ valid Next d →
    a && b ≡ both (all_valid (k ∷ bit ∷ Next ∷ []) (six f (bit_of v) d 0 0 0)) true
unfolding all_valid
row-one-value k f d v p q = simp (p, q, joined)

-- 63
pub row-jump : (k l : Kind) (f e d : ℕ) (v : Bool) {a b c : Bool} → a ≡ valid k f → c ≡ valid l e → b ≡ valid Next d →
    (a && c) && b ≡ both (all_valid (k ∷ bit ∷ l ∷ Next ∷ []) (six f (bit_of v) e d 0 0)) true
unfolding all_valid
row-jump k l f e d v p r q = simp (p, q, r, joined)

-- 57
pub row-cam : (k : Kind) (f d : ℕ) (v w : Bool) {b c : Bool} → b ≡ valid Next d → c ≡ both (valid k f) w →
    b && c ≡ both (all_valid (bit ∷ k ∷ Next ∷ []) (six (bit_of v) f d 0 0 0)) w
unfolding all_valid
row-cam k f d v w q r =
    simp (q, r, and_both, ← both-assoc) (both-under-right w (λ t. both-comm (valid Next d) (valid k f) ∙ simp joined))

-- 12 and 22
pub row-free : (k : Kind) (f d : ℕ) (s x : Bool) {a b : Bool} → a ≡ valid k f → b ≡ valid Next d →
    a && b ≡ both (all_valid (k ∷ Sign ∷ Multiplier ∷ Next ∷ []) (six f (bit_of s) (bit_of x) d 0 0)) true
unfolding all_valid
row-free k f d s x p q = simp (p, q, joined)

-- 02 and 32
pub row-free-ramp : (k l : Kind) (f r d : ℕ) (s x : Bool) {a b : Bool} → a ≡ both (valid k f) (valid l r) → b ≡ valid Next d →
    a && b ≡ both (all_valid (k ∷ l ∷ Sign ∷ Multiplier ∷ Next ∷ []) (six f r (bit_of s) (bit_of x) d 0)) true
unfolding all_valid
row-free-ramp k l f r d s x p q = simp (p, q, joined)

-- 03
pub row-search : (k l m : Kind) (f r g d : ℕ) (s : Bool) {a b c : Bool} →
    a ≡ both (valid k f) (valid l r) → c ≡ valid m g → b ≡ valid Next d →
    (a && c) && b ≡ both (all_valid (k ∷ l ∷ Sign ∷ m ∷ Next ∷ []) (six f r (bit_of s) g d 0)) true
unfolding all_valid
row-search k l m f r g d s p t q = simp (p, q, t, joined)

-- 11 and 21
pub row-indexed : (k : Kind) (f d : ℕ) (n : Steps) (x : Bool) {a b c : Bool} → a ≡ valid k f → b ≡ valid Next d → c ≡ steps_within n →
    (a && b) && c ≡ both (all_valid (k ∷ steps ∷ Multiplier ∷ Next ∷ []) (six f (bits_of n) (bit_of x) d 0 0)) (steps_within n)
unfolding all_valid
row-indexed k f d n x p q r = simp (p, q, r, and_both) (both-under-right (steps_within n) (λ t. simp (valid-steps n t, joined)))

-- 01 and 31
pub row-indexed-ramp : (k l : Kind) (f r d : ℕ) (n : Steps) (x : Bool) {a b c : Bool} →
    a ≡ both (valid k f) (valid l r) → b ≡ valid Next d → c ≡ steps_within n →
    (a && b) && c ≡ both (all_valid (k ∷ l ∷ steps ∷ Multiplier ∷ Next ∷ []) (six f r (bits_of n) (bit_of x) d 0)) (steps_within n)
unfolding all_valid
row-indexed-ramp k l f r d n x p q s = simp (p, q, s, and_both) (both-under-right (steps_within n) (λ t. simp (valid-steps n t, joined)))

-- 05
pub row-stop : (k l m : Kind) (f r d : ℕ) (n : Steps) (s x : Bool) {a b c : Bool} →
    a ≡ both (valid k f) (valid l r) → b ≡ valid Next d → c ≡ both (valid m (bits_of n)) (steps_within n) →
    (a && b) && c
    ≡ both (all_valid (k ∷ l ∷ Sign ∷ m ∷ Multiplier ∷ Next ∷ []) (six f r (bit_of s) (bits_of n) (bit_of x) d)) (steps_within n)
unfolding all_valid
row-stop k l m f r d n s x p q t =
    simp (p, q, t, and_both, ← both-assoc) (both-under-right (steps_within n) (λ u. simp (both-comm (valid Next d) (valid m (bits_of n)), joined)))
