-- What a good kind and a valid value say in numbers.
-- Assumes nothing.
use Prim.Native.Nat.{ℕ, ◌-◌, ◌^◌, ◌≤◌, ◌<◌}
use native.Mathlib.Omega.{arith}
use mathlib.Core.Path.{◌≡◌, refl, sym, ◌∙◌}
use mathlib.Core.Bool.{true}
use mathlib.Core.Logic.{◌⊎◌, inl, inr, ⊎_elim}
use lib.ListN.{length}
use lib.Dec.{ltb, leb, eqb}
use borrow.Author.Tests.{ltb-true, leb-true, eqb-true, lt-ltb, le-ltb, le-leb}
use Rattle.laws.specs.Tests.{both, either}
use Rattle.laws.proofs.Tests.{both_left, both_right, both_true, either-true-right, either-cases, choose-true, choose-false}
use Rattle.fields.specs.Names.{list_of}
use Rattle.fields.specs.Kinds.{good_signed, good, valid_signed, valid}
use Rattle.fields.specs.declared.names.Names.{Names}
use Rattle.fields.specs.declared.kinds.Kind.{Kind}
use Rattle.fields.specs.declared.kinds.Kind.TheVariants.{Fixed, Next, Count, Signed, Optional, Sign, Multiplier, Name}
use Rattle.fields.proofs.Turns.{length-list_of}

pub good-fixed : (w low high : ℕ) → good (Fixed w low high) ≡ true → (1 ≤ w) × ((w ≤ 10) × ((high < 10 ^ w) × (high < 2 ^ 32)))
unfolding good
good-fixed w low high t =
    let u = both_right (leb 1 w) _ t in
    let v = both_right (leb w 10) _ u in (
      leb-true 1 w (both_left _ _ t),
      (
        leb-true w 10 (both_left _ _ u),
        (ltb-true high (10 ^ w) (both_left _ _ v), ltb-true high (2 ^ 32) (both_right _ _ v)),
      ),
    )

pub good-count : (low high : ℕ) → good (Count low high) ≡ true → high < 2 ^ 32
unfolding good
good-count low high t = ltb-true high (2 ^ 32) t

pub good-signed : (below above : ℕ) → good_signed below above ≡ true → (below ≤ 2 ^ 31) × (above < 2 ^ 31)
unfolding good_signed
good-signed below above t = (leb-true below (2 ^ 31) (both_left _ _ t), ltb-true above (2 ^ 31) (both_right _ _ t))

-- from low to high
pub valid-between : (low high v : ℕ) → both (leb low v) (leb v high) ≡ true → (low ≤ v) × (v ≤ high)
valid-between low high v t = (leb-true low v (both_left _ _ t), leb-true v high (both_right _ _ t))

pub between-valid : (low high v : ℕ) → low ≤ v → v ≤ high → both (leb low v) (leb v high) ≡ true
between-valid low high v l h = both_true (le-leb low v l) (le-leb v high h)

pub next-zero : valid Next 0 ≡ true
unfolding valid either
next-zero = refl

pub next-valid : (v : ℕ) → 100 ≤ v → v ≤ 230 → valid Next v ≡ true
unfolding valid
next-valid v l h = either-true-right (eqb v 0) _ (between-valid 100 230 v l h)

pub valid-next : (v : ℕ) → valid Next v ≡ true → (v ≡ 0) ⊎ ((100 ≤ v) × (v ≤ 230))
unfolding valid
valid-next v t = ⊎_elim (λ u. inl (eqb-true v 0 u)) (λ u. inr (valid-between 100 230 v u)) (either-cases _ _ t)

pub valid-signed :
    (below above v : ℕ) → valid_signed below above v ≡ true →
    (v < 2 ^ 32) × ((v < 2 ^ 31 → v ≤ above) × (2 ^ 31 ≤ v → 2 ^ 32 - v ≤ below))
unfolding valid_signed
valid-signed below above v t =
    let u = both_right (ltb v (2 ^ 32)) _ t in (
      ltb-true v (2 ^ 32) (both_left _ _ t),
      (
        (λ h. leb-true v above (sym (choose-true _ _ _ (lt-ltb v (2 ^ 31) h)) ∙ u)),
        (λ h. leb-true (2 ^ 32 - v) below (sym (choose-false _ _ _ (le-ltb v (2 ^ 31) h)) ∙ u)),
      ),
    )

pub signed_above : (below above v : ℕ) → v < 2 ^ 31 → v ≤ above → valid_signed below above v ≡ true
unfolding valid_signed
signed_above below above v h l = both_true (lt-ltb v (2 ^ 32) (omega arith)) (choose-true _ _ _ (lt-ltb v (2 ^ 31) h) ∙ le-leb v above l)

pub signed_below : (below above v : ℕ) → v < 2 ^ 32 → 2 ^ 31 ≤ v → 2 ^ 32 - v ≤ below → valid_signed below above v ≡ true
unfolding valid_signed
signed_below below above v h g l = both_true (lt-ltb v (2 ^ 32) h) (choose-false _ _ _ (le-ltb v (2 ^ 31) g) ∙ le-leb (2 ^ 32 - v) below l)

pub valid-name : (names : Names) (v : ℕ) → valid (Name names) v ≡ true → v < length (list_of names)
unfolding valid
valid-name names v t = ltb-true v _ t

-- a value of a good kind has 32 bits
pub valid-small : (k : Kind) (v : ℕ) → good k ≡ true → valid k v ≡ true → v < 2 ^ 32
unfolding good valid
valid-small (Fixed w low high) v g t = omega (arith, (good-fixed w low high g).1.1.1, (valid-between low high v t).1)
valid-small Next v g t = ⊎_elim (λ e. omega arith) (λ r. omega arith) (valid-next v t)
valid-small (Count low high) v g t = omega (arith, good-count low high g, (valid-between low high v t).1)
valid-small (Signed below above) v g t = (valid-signed below above v t).0
valid-small (Optional below above) v g t = (valid-signed below above v t).0
valid-small Sign v g t = omega (arith, ltb-true v 2 t)
valid-small Multiplier v g t = omega (arith, ltb-true v 2 t)
valid-small (Name names) v g t = omega (arith, valid-name names v t, length-list_of names)
