-- What the arm of a `match` knows: the value is one of the cases, or, in the last arm, none of those before.
-- Assumes nothing.
use Prim.Native.Nat.{ℕ}
use mathlib.Core.Path.{◌≡◌, sym, ap, ◌∙◌}
use mathlib.Core.Bool.{false}
use mathlib.Core.List.{List, [], ◌∷◌}
use lib.Dec.{eqb}
use borrow.Author.Tests.{ne_eqb}

-- what a function gives of q, it gives of p, which is q
pub told : {A B : Type 0} (f : A → B) {p q : A} {r : B} → p ≡ q → r ≡ f q → r ≡ f p
told f e h = h ∙ sym (ap f e)

-- a number is none of a list, one inequality after another, as a `match` leaves them
abbrev pub Apart : Type 0 → ℕ → List ℕ → Type 0
Apart A code [] = A
Apart A code (k ∷ ks) = Apart (A × (code ≡ k → ⊥)) code ks

-- the same, each as a test that fails
abbrev pub Unequal : ℕ → List ℕ → Type 0
Unequal code [] = Unit {0}
Unequal code (k ∷ ks) = (eqb code k ≡ false) × Unequal code ks

pub unequal-apart : (A : Type 0) (code : ℕ) (ks : List ℕ) → Apart A code ks → A × Unequal code ks
unequal-apart A code [] n = (n, tt)
unequal-apart A code (k ∷ ks) n =
    let m = unequal-apart (A × (code ≡ k → ⊥)) code ks n in
    (m.0.0, (ne_eqb code k m.0.1, m.1))
