-- Each value that an answer shows is one that its field admits.
-- Assumes nothing.
use Prim.Native.Nat.{ℕ}
use native.Mathlib.Omega.{arith}
use mathlib.Core.Path.{◌≡◌, refl}
use mathlib.Core.Bool.{Bool, true, false}
use mathlib.Core.Logic.{⊎_elim}
use lib.Dec.{eqb, ltb}
use borrow.Author.Tests.{leb-true}
use Rattle.laws.specs.Tests.{choose, both}
use Rattle.laws.proofs.Tests.{both_left, both_right, choose-by}
use Rattle.fields.specs.Kinds.{valid}
use Rattle.fields.specs.declared.kinds.Kind.{Kind}
use Rattle.fields.specs.declared.kinds.Kind.TheVariants.{Fixed, Next, Count}
use Rattle.fields.proofs.Bounds.{between-valid, valid-next}
use Rattle.format.specs.Formats.{cell, bit}
use Rattle.instruction.proofs.TestsFields.{valid-value}
use Rattle.machine.specs.Record.{output_at}
use Rattle.machine.specs.Soundness.{presets_sound, fault_sound}
use Rattle.machine.specs.Commands.{preset_kind}
use Rattle.machine.specs.Answers.{preset_value, output_value}
use Rattle.machine.specs.declared.Presets.{Presets}
use Rattle.machine.specs.declared.Fault.{Fault}
use Rattle.machine.specs.declared.State.{State}
use Rattle.machine.proofs.Showing.{within-valid, resolution-placed, fault-small}

-- what holds of both pairs, each under the test, holds of two choices by that test
choose-two : {A B : Type 0} (P : A → B → Type 0) (t : Bool) {x y : A} {u v : B} → (t ≡ true → P x u) → (t ≡ false → P y v) →
    P (choose t x y) (choose t u v)
unfolding choose
choose-two P true f g = f refl
choose-two P false f g = g refl

pub output-valid : (k : ℕ) (s : State) → valid bit (output_value k s) ≡ true
unfolding output_value valid both
output-valid k s =
    choose-by One (ltb k 14) (λ t. valid-value (output_at s k)) (λ t. choose-by One (eqb k 14) (λ u. refl) (λ u. refl))
  where
    One : ℕ → Type 0
    One v = valid bit v ≡ true

pub preset-valid : (k : ℕ) (p : Presets) → presets_sound p ≡ true → valid (preset_kind k) (preset_value k p) ≡ true
unfolding preset_kind preset_value presets_sound valid
preset-valid k p h =
    choose-two Right (eqb k 0) (λ t. between-valid 0 47 p.address.0 (omega arith) (leb-true _ _ (both_left _ _ h)))
    (λ t. choose-two Right (eqb k 1) (λ u. between-valid 0 3 p.current (omega arith) (leb-true _ _ (both_right _ _ h)))
    (λ u. choose-two Right (eqb k 2) (λ w. (resolution-placed p.resolution).1)
    (λ w. choose-by (Right (Count 0 1)) (eqb k 3) (λ x. valid-value p.interlock) (λ x. valid-value p.absolute))))
  where
    Right : Kind → ℕ → Type 0
    Right kind v = valid kind v ≡ true

pub fault-code-valid : (f : Fault) → fault_sound f ≡ true → valid (Fixed 2 0 99) f.code ≡ true
unfolding valid
fault-code-valid f h = within-valid 99 f.code (fault-small f h).0

pub fault-cell-valid : (f : Fault) → fault_sound f ≡ true → valid (Fixed 3 0 999) f.cell.0 ≡ true
unfolding valid
fault-cell-valid f h = within-valid 999 f.cell.0 (fault-small f h).1

-- the cell of a record that is not empty
pub suspended-valid : (v : ℕ) → valid Next v ≡ true → (v ≡ 0 → ⊥) → valid cell v ≡ true
unfolding valid
suspended-valid v h n = ⊎_elim (λ z. absurd (n z)) (λ r. between-valid 100 230 v r.0 r.1) (valid-next v h)
