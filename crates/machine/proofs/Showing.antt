-- Equal texts of a part of the state are texts of equal parts.
-- Assumes nothing.
use Prim.Native.Nat.{ℕ, ◌^◌, ◌≤◌, ◌<◌}
use native.Mathlib.Omega.{arith}
use mathlib.Core.Path.{◌≡◌, refl, ap, sym, ◌∙◌}
use mathlib.Core.Bool.{Bool, true, false}
use mathlib.Core.List.{List, [], ◌∷◌}
use mathlib.Core.Logic.{⊎_elim}
use lib.ListN.{length, get_or}
use lib.Seq.{ext_get_or}
use lib.Dec.{eqb, leb}
use borrow.Author.Tests.{eqb-true, leb-true, ltb-true, lt-ltb}
use Rattle.laws.specs.Tests.{choose, both, either}
use Rattle.laws.specs.Tables.{every}
use Rattle.laws.proofs.Tests.{both_left, both_right, both_true, choose-by, lt-or-le}
use Rattle.decimal.specs.Printing.{digits}
use Rattle.fields.specs.Kinds.{print_field, good, good_signed, valid}
use Rattle.fields.specs.Rows.{print_fields, all_good, all_valid}
use Rattle.fields.proofs.Bounds.{between-valid, signed_above, signed_below}
use Rattle.fields.proofs.RoundTrip.{print-injective}
use Rattle.fields.specs.Names.{list_of, listed}
use Rattle.fields.specs.declared.kinds.Kind.{Kind}
use Rattle.fields.specs.declared.kinds.Kind.TheVariants.{Fixed, Name}
use Rattle.fields.specs.declared.names.Names.TheVariants.{Outputs, Inputs, Presets, Resolutions}
use Rattle.units.specs.declared.position.Position.{Position}
use Rattle.format.specs.Formats.{bit}
use Rattle.instruction.specs.Numbers.{bit_of, is_one}
use Rattle.instruction.proofs.Values.{one_bit}
use Rattle.instruction.proofs.TestsFields.{valid-value}
use Rattle.machine.specs.Record.{input_at, output_at}
use Rattle.machine.specs.Soundness.{presets_sound, is_cell, position_sound, cam_sound, fault_sound}
use Rattle.machine.specs.Commands.{any_signed, preset_kind, resolution_at}
use Rattle.machine.specs.Answers.{resolution_place, preset_value, preset_text, position_text, input_text, output_value, output_text, cam_text}
use Rattle.machine.specs.Answers.{fault_text}
use Rattle.machine.specs.declared.Resolution.{Resolution}
use Rattle.machine.specs.declared.Resolution.TheVariants.{D0, D1, D2, D3, B0, B1, B2, B3}
use Rattle.machine.specs.declared.Presets.{Presets as PresetValues}
use Rattle.machine.specs.declared.Cam.{Cam}
use Rattle.machine.specs.declared.Fault.{Fault}
use Rattle.machine.specs.declared.State.{State}
use Rattle.machine.proofs.Ranges.{preset-good}
use Rattle.machine.proofs.Texts.{later_same, value_same}

-- what a field without a sign admits
pub within-valid : (n v : ℕ) → v ≤ n → both (leb 0 v) (leb v n) ≡ true
within-valid n v h = between-valid 0 n v (omega arith) h

-- ---- bits

bit-injective : (a b : Bool) → bit_of a ≡ bit_of b → a ≡ b
bit-injective a b e = sym (one_bit a) ∙ ap is_one e ∙ one_bit b

-- a bit shown after a name
bit-same :
    (k : Kind) (v : ℕ) (a b : Bool) →
    print_fields (k ∷ bit ∷ []) (v ∷ bit_of a ∷ []) ≡ print_fields (k ∷ bit ∷ []) (v ∷ bit_of b ∷ []) → a ≡ b
unfolding good both
bit-same k v a b e = bit-injective a b (value_same bit (bit_of a) (bit_of b) refl (valid-value a) (valid-value b) (later_same k (bit ∷ []) v _ _ e))

pub inputs-same :
    (s t : State) → length s.inputs ≡ 11 → length t.inputs ≡ 11 → ((k : ℕ) → k < 11 → input_text k s ≡ input_text k t) →
    s.inputs ≡ t.inputs
unfolding input_text
inputs-same s t l r e =
    ext_get_or false s.inputs t.inputs (l ∙ sym r) (λ k h. bit-same (Name Inputs) k (input_at s k) (input_at t k) (e k (omega arith)))

output-is : (k : ℕ) (s : State) → k < 14 → output_value k s ≡ bit_of (output_at s k)
unfolding output_value choose
output-is k s h = rw (lt-ltb k 14 h) refl

pub outputs-same :
    (s t : State) → length s.outputs ≡ 14 → length t.outputs ≡ 14 → ((k : ℕ) → k < 14 → output_text k s ≡ output_text k t) →
    s.outputs ≡ t.outputs
unfolding output_text
outputs-same s t l r e = ext_get_or false s.outputs t.outputs (l ∙ sym r) (λ k h. each k (omega arith))
  where
    each : (k : ℕ) → k < 14 → output_at s k ≡ output_at t k
    each k h =
        bit-same (Name Outputs) k (output_at s k) (output_at t k) (rw (output-is k s h, output-is k t h) at (e k h))

-- ---- presets

preset-same :
    (k : ℕ) (s t : State) → valid (preset_kind k) (preset_value k s.presets) ≡ true → valid (preset_kind k) (preset_value k t.presets) ≡ true →
    preset_text k s ≡ preset_text k t → preset_value k s.presets ≡ preset_value k t.presets
unfolding preset_text all_good every
preset-same k s t p q e = value_same (preset_kind k) _ _ (both_left _ _ (preset-good k)) p q (later_same (Name Presets) (preset_kind k ∷ []) k _ _ e)

-- each value of RS has a place of its own in its list
pub resolution-placed : (r : Resolution) → (resolution_at (resolution_place r) ≡ r) × (valid (Name Resolutions) (resolution_place r) ≡ true)
unfolding resolution_at choose valid list_of listed
resolution-placed D0 = (refl, refl)
resolution-placed D1 = (refl, refl)
resolution-placed D2 = (refl, refl)
resolution-placed D3 = (refl, refl)
resolution-placed B0 = (refl, refl)
resolution-placed B1 = (refl, refl)
resolution-placed B2 = (refl, refl)
resolution-placed B3 = (refl, refl)

resolution-injective : (r q : Resolution) → resolution_place r ≡ resolution_place q → r ≡ q
resolution-injective r q e = sym (resolution-placed r).0 ∙ ap resolution_at e ∙ (resolution-placed q).0

pub presets-small : (p : PresetValues) → presets_sound p ≡ true → (p.address.0 ≤ 47) × (p.current ≤ 3)
unfolding presets_sound
presets-small p h = (leb-true _ _ (both_left _ _ h), leb-true _ _ (both_right _ _ h))

pub presets-same :
    (s t : State) → presets_sound s.presets ≡ true → presets_sound t.presets ≡ true → ((k : ℕ) → k < 5 → preset_text k s ≡ preset_text k t) →
    s.presets ≡ t.presets
unfolding preset_kind preset_value valid choose
presets-same s t g h e =
    let p = presets-small s.presets g in
    let q = presets-small t.presets h in
    let a = preset-same 0 s t (within-valid _ _ p.0) (within-valid _ _ q.0) (e 0 (omega arith)) in
    let c = preset-same 1 s t (within-valid _ _ p.1) (within-valid _ _ q.1) (e 1 (omega arith)) in
    let r = preset-same 2 s t (resolution-placed s.presets.resolution).1 (resolution-placed t.presets.resolution).1 (e 2 (omega arith)) in
    let i = preset-same 3 s t (valid-value s.presets.interlock) (valid-value t.presets.interlock) (e 3 (omega arith)) in
    let m = preset-same 4 s t (valid-value s.presets.absolute) (valid-value t.presets.absolute) (e 4 (omega arith)) in
    λ j. record {
      address = record { 0 = a j };
      current = c j;
      resolution = resolution-injective s.presets.resolution t.presets.resolution r j;
      interlock = bit-injective s.presets.interlock t.presets.interlock i j;
      absolute = bit-injective s.presets.absolute t.presets.absolute m j;
    }

-- ---- position and cam

pub signed-valid : (v : ℕ) → v < 2 ^ 32 → valid any_signed v ≡ true
unfolding valid
signed-valid v h =
    ⊎_elim (λ l. signed_above _ _ v l (omega arith)) (λ g. signed_below _ _ v h g (omega arith)) (lt-or-le v (2 ^ 31))

number_same :
    (p q : Position) → position_sound p ≡ true → position_sound q ≡ true →
    print_fields (any_signed ∷ []) (p.0 ∷ []) ≡ print_fields (any_signed ∷ []) (q.0 ∷ []) → p ≡ q
unfolding position_sound good good_signed both
number_same p q g h e =
    let n : p.0 ≡ q.0 = value_same any_signed p.0 q.0 refl (signed-valid _ (ltb-true _ _ g)) (signed-valid _ (ltb-true _ _ h)) e in
    λ j. record { 0 = n j }

pub position-same :
    (s t : State) → position_sound s.position ≡ true → position_sound t.position ≡ true → position_text s ≡ position_text t →
    s.position ≡ t.position
unfolding position_text
position-same s t p q e = number_same s.position t.position p q e

cam-same-by :
    (a b : Bool) (p q : Position) → cam_sound (record { set = a; position = p }) ≡ true → cam_sound (record { set = b; position = q }) ≡ true →
    cam_text (record { set = a; position = p }) ≡ cam_text (record { set = b; position = q }) →
    ◌≡◌ {A = Cam} (record { set = a; position = p }) (record { set = b; position = q })
unfolding cam_sound cam_text choose either print_fields print_field digits
cam-same-by true true p q g h e =
    let n : p ≡ q = number_same p q (both_left _ _ g) (both_left _ _ h) (later_same bit (any_signed ∷ []) 1 (p.0 ∷ []) (q.0 ∷ []) e) in
    λ j. record { set = true; position = n j }
cam-same-by true false p q g h e = let z : ◌≡◌ {A = ℕ} 49 48 = ap (λ (l : List ℕ). get_or l 1 0) e in absurd (omega arith)
cam-same-by false true p q g h e = let z : ◌≡◌ {A = ℕ} 48 49 = ap (λ (l : List ℕ). get_or l 1 0) e in absurd (omega arith)
cam-same-by false false p q g h e =
    let n : p.0 ≡ q.0 = eqb-true _ _ (both_right _ _ g) ∙ sym (eqb-true _ _ (both_right _ _ h)) in
    λ j. record { set = false; position = record { 0 = n j } }

pub cam-same : (c d : Cam) → cam_sound c ≡ true → cam_sound d ≡ true → cam_text c ≡ cam_text d → c ≡ d
cam-same c d g h e = cam-same-by c.set d.set c.position d.position g h e

-- ---- error

pub fault-small : (f : Fault) → fault_sound f ≡ true → (f.code ≤ 99) × (f.cell.0 ≤ 999)
unfolding fault_sound is_cell
fault-small f =
    choose-by (λ (b : Bool). b ≡ true → (f.code ≤ 99) × (f.cell.0 ≤ 999)) (eqb f.code 0)
    (λ z h. omega (arith, eqb-true f.code 0 z, eqb-true f.cell.0 0 h))
    (λ n h.
    let c : f.code ≤ 52 = leb-true _ _ (both_right _ _ (both_left _ _ h)) in
    let a : f.cell.0 ≤ 230 = leb-true _ _ (both_right _ _ (both_right _ _ h)) in
    omega arith)

fault-valid : (f : Fault) → fault_sound f ≡ true → all_valid (Fixed 2 0 99 ∷ Fixed 3 0 999 ∷ []) (f.code ∷ f.cell.0 ∷ []) ≡ true
unfolding all_valid valid
fault-valid f h = let b = fault-small f h in both_true (within-valid _ _ b.0) (both_true (within-valid _ _ b.1) refl)

pub fault-same : (s t : State) → fault_sound s.fault ≡ true → fault_sound t.fault ≡ true → fault_text s ≡ fault_text t → s.fault ≡ t.fault
unfolding fault_text all_good every good both
fault-same s t g h e =
    let f = s.fault in
    let k = t.fault in
    let l : f.code ∷ f.cell.0 ∷ [] ≡ k.code ∷ k.cell.0 ∷ [] =
    print-injective (Fixed 2 0 99 ∷ Fixed 3 0 999 ∷ []) _ _ refl (fault-valid f g) (fault-valid k h) refl refl (omega arith) e in
    let c : f.code ≡ k.code = cc in
    let a : f.cell.0 ≡ k.cell.0 = cc in
    λ j. record { code = c j; cell = record { 0 = a j } }
