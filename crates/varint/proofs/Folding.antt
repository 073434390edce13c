-- Folding and unfolding undo each other, on numbers of 32 bits.
-- Assumes nothing.
use Prim.Native.Nat.{ℕ, ◌-◌, ◌*◌, ◌/◌, ◌%◌, ◌^◌, ◌≤◌, ◌<◌}
use native.Mathlib.Omega.{arith}
use mathlib.Core.Path.{◌≡◌, ◌∙◌}
use lib.Dec.{ltb, eqb}
use borrow.Author.Tests.{lt-ltb, le-ltb, ltb-true, ltb-false, eqb-true, eqb-false, eq-eqb, ne_eqb}
use Rattle.laws.proofs.Tests.{choose-by, choose-true, choose-false}
use Rattle.varint.specs.Signs.{folded, unfolded}

pub folded-plus : (b : ℕ) → b < 2 ^ 31 → folded b ≡ 2 * b
unfolding folded
folded-plus b h = choose-true _ _ _ (lt-ltb b (2 ^ 31) h)

pub folded-minus : (b : ℕ) → 2 ^ 31 ≤ b → folded b ≡ 2 * (2 ^ 32 - b) - 1
unfolding folded
folded-minus b h = choose-false _ _ _ (le-ltb b (2 ^ 31) h)

pub unfolded-even : (n : ℕ) → n % 2 ≡ 0 → unfolded n ≡ n / 2
unfolding unfolded
unfolded-even n h = choose-true _ _ _ (eq-eqb (n % 2) 0 h)

pub unfolded-odd : (n : ℕ) → (n % 2 ≡ 0 → ⊥) → unfolded n ≡ 2 ^ 32 - 1 - n / 2
unfolding unfolded
unfolded-odd n h = choose-false _ _ _ (ne_eqb (n % 2) 0 h)

pub folded-small : (b : ℕ) → b < 2 ^ 32 → folded b < 2 ^ 32
unfolding folded
folded-small b h =
    choose-by (λ (x : ℕ). x < 2 ^ 32) (ltb b (2 ^ 31)) (λ t. omega (arith, ltb-true b (2 ^ 31) t)) (λ t. omega (arith, ltb-false b (2 ^ 31) t))

pub unfolded-small : (n : ℕ) → n < 2 ^ 32 → unfolded n < 2 ^ 32
unfolding unfolded
unfolded-small n h = choose-by (λ (x : ℕ). x < 2 ^ 32) (eqb (n % 2) 0) (λ t. omega arith) (λ t. omega arith)

pub unfold-fold : (b : ℕ) → b < 2 ^ 32 → unfolded (folded b) ≡ b
unfolding folded
unfold-fold b h =
    choose-by (λ (x : ℕ). unfolded x ≡ b) (ltb b (2 ^ 31))
    (λ t. unfolded-even (2 * b) (omega arith) ∙ omega arith)
    (λ t. minus (ltb-false b (2 ^ 31) t))
  where
    minus : 2 ^ 31 ≤ b → unfolded (2 * (2 ^ 32 - b) - 1) ≡ b
    minus l =
        let e : 2 ^ 32 - 1 - (2 * (2 ^ 32 - b) - 1) / 2 ≡ b = omega arith in
        unfolded-odd (2 * (2 ^ 32 - b) - 1) (λ z. omega arith) ∙ e

pub fold-unfold : (n : ℕ) → n < 2 ^ 32 → folded (unfolded n) ≡ n
unfolding unfolded
fold-unfold n h =
    choose-by (λ (x : ℕ). folded x ≡ n) (eqb (n % 2) 0)
    (λ t. even (eqb-true (n % 2) 0 t))
    (λ t. odd (eqb-false (n % 2) 0 t))
  where
    even : n % 2 ≡ 0 → folded (n / 2) ≡ n
    even z = let e : 2 * (n / 2) ≡ n = omega arith in folded-plus (n / 2) (omega arith) ∙ e

    odd : (n % 2 ≡ 0 → ⊥) → folded (2 ^ 32 - 1 - n / 2) ≡ n
    odd z =
        let e : 2 * (2 ^ 32 - (2 ^ 32 - 1 - n / 2)) - 1 ≡ n = omega arith in
        folded-minus (2 ^ 32 - 1 - n / 2) (omega arith) ∙ e
