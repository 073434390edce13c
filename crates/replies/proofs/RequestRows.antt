-- What the row of each request asks, and that it says what 01 says.
-- Assumes nothing.
use Prim.Native.Nat.{ℕ, ◌+◌, ◌^◌, ◌≤◌, ◌<◌}
use native.Mathlib.Omega.{arith}
use mathlib.Core.Path.{◌≡◌, refl, ap, sym, ◌∙◌}
use mathlib.Core.Bool.{true, false}
use mathlib.Core.List.{List, [], ◌∷◌}
use lib.Dec.{eqb}
use lib.ListN.{length}
use borrow.Author.Tests.{eq-eqb, ne_eqb, lt-ltb}
use Rattle.laws.specs.Tests.{both}
use Rattle.laws.specs.Tables.{every}
use Rattle.laws.specs.Text.{bytes}
use Rattle.laws.specs.Writing.{Put}
use Rattle.laws.proofs.Tests.{both_true, choose-by, choose-true, choose-false}
use Rattle.laws.proofs.Writing.{put-append}
use Rattle.fields.specs.Names.{list_of, listed}
use Rattle.fields.specs.Kinds.{good, good_signed, valid, most}
use Rattle.fields.specs.Rows.{print_fields, all_good, all_valid, most_all}
use Rattle.fields.specs.declared.kinds.Kind.{Kind}
use Rattle.fields.specs.declared.kinds.Kind.TheVariants.{Fixed, Next, Count, Name}
use Rattle.fields.specs.declared.names.Names.TheVariants.{Outputs, Inputs, Presets}
use Rattle.fields.proofs.Bounds.{between-valid}
use Rattle.fields.proofs.Lengths.{fields-most}
use Rattle.units.specs.Limits.{loop_limit}
use Rattle.units.specs.declared.CellAddress.{CellAddress}
use Rattle.format.specs.Formats.{cell, bit}
use Rattle.instruction.specs.Numbers.{bit_of, six}
use Rattle.instruction.specs.Soundness.{cell_sound}
use Rattle.instruction.specs.Texts.{cell_text, Shown}
use Rattle.instruction.specs.declared.Cell.{Cell}
use Rattle.instruction.proofs.Sending.{length-text}
use Rattle.machine.specs.Record.{input_at}
use Rattle.machine.specs.Soundness.{presets_sound, is_cell, fault_sound}
use Rattle.machine.specs.Commands.{any_signed, preset_kind}
use Rattle.machine.specs.Answers.{preset_value, preset_text, position_text, input_text, output_value, output_text, cam_text, fault_text}
use Rattle.machine.specs.Answers.{memory_text, remaining_bits, suspended_text, answer_of}
use Rattle.machine.specs.declared.Cam.{Cam}
use Rattle.machine.specs.declared.Suspended.{Suspended}
use Rattle.machine.specs.declared.State.{State}
use Rattle.machine.specs.declared.commands.StringAddress.{StringAddress}
use Rattle.replies.specs.Pieces.{front_of, request_answer, Ready, ReadyRow}
use Rattle.instruction.proofs.TestsFields.{valid-value}
use Rattle.machine.proofs.Showing.{signed-valid}
use Rattle.replies.proofs.Validity.{output-valid, preset-valid, fault-code-valid, fault-cell-valid, suspended-valid}
use Rattle.replies.proofs.Writing.{put-length, length_front, put-request, put-asked}
use Rattle.replies.proofs.Rows.{fits, ready-row}

-- what a closed row computes by
rows : Unit {0}
unfolding fits all_good every both good good_signed most_all most all_valid valid list_of listed
rows = tt

-- what a row's text computes by
texts : Unit {0}
unfolding print_fields bytes
texts = tt

-- ---- QA

pub position-ready : (aa : StringAddress) (s : State) (l : List ℕ) → Ready aa l → s.position.0 < 2 ^ 32 →
    ReadyRow aa (any_signed ∷ []) (six s.position.0 0 0 0 0 0) l
unfolding rows
position-ready aa s l h b = ready-row aa (any_signed ∷ []) _ l h refl (both_true (signed-valid _ b) refl)

pub position-put : {l l' : List ℕ} {e : ℕ} (aa : StringAddress) (s : State) →
    Put l l' (request_answer aa 65 (print_fields (any_signed ∷ []) (six s.position.0 0 0 0 0 0))) 0 e → Put l l' (answer_of aa "QA" (position_text s)) 0 e
unfolding texts position_text
position-put aa s p = put-asked aa 65 "QA" refl p refl

-- ---- QS

-- a preset's name and its kind
abbrev named : Kind → List Kind
named kind = Name Presets ∷ kind ∷ []

preset-fits : (k : ℕ) → fits (named (preset_kind k)) ≡ true
unfolding rows preset_kind
preset-fits k =
    choose-by Fits (eqb k 0) (λ t. refl) (λ t. choose-by Fits (eqb k 1) (λ u. refl) (λ u. choose-by Fits (eqb k 2) (λ w. refl) (λ w. refl)))
  where
    Fits : Kind → Type 0
    Fits kind = fits (named kind) ≡ true

pub preset-ready : (aa : StringAddress) (k v : ℕ) (s : State) (kind : Kind) (l : List ℕ) → Ready aa l →
    kind ≡ preset_kind k → v ≡ preset_value k s.presets → k < 5 → presets_sound s.presets ≡ true →
    ReadyRow aa (Name Presets ∷ kind ∷ []) (six k v 0 0 0 0) l
unfolding rows
preset-ready aa k v s kind l h q w b t =
    let u : valid (preset_kind k) v ≡ true = ap (valid (preset_kind k)) w ∙ preset-valid k s.presets t in
    rw q (ready-row aa (named (preset_kind k)) _ l h (preset-fits k) (both_true (lt-ltb k 5 b) (both_true u refl)))

pub preset-put : {l l' : List ℕ} {e : ℕ} (aa : StringAddress) (k v : ℕ) (s : State) (kind : Kind) →
    kind ≡ preset_kind k → v ≡ preset_value k s.presets →
    Put l l' (request_answer aa 83 (print_fields (Name Presets ∷ kind ∷ []) (six k v 0 0 0 0))) 0 e →
    Put l l' (answer_of aa "QS" (preset_text k s)) 0 e
unfolding texts preset_text
preset-put aa k v s kind q w p = put-asked aa 83 "QS" refl p (rw (q, w))

-- ---- QI and QO

pub input-ready : (aa : StringAddress) (k v : ℕ) (s : State) (l : List ℕ) → Ready aa l → v ≡ bit_of (input_at s k) → k < 11 →
    ReadyRow aa (Name Inputs ∷ bit ∷ []) (six k v 0 0 0 0) l
unfolding rows
input-ready aa k v s l h w b =
    let u : valid bit v ≡ true = ap (valid bit) w ∙ valid-value (input_at s k) in
    ready-row aa _ _ l h refl (both_true (lt-ltb k 11 b) (both_true u refl))

pub input-put : {l l' : List ℕ} {e : ℕ} (aa : StringAddress) (k v : ℕ) (s : State) → v ≡ bit_of (input_at s k) →
    Put l l' (request_answer aa 73 (print_fields (Name Inputs ∷ bit ∷ []) (six k v 0 0 0 0))) 0 e → Put l l' (answer_of aa "QI" (input_text k s)) 0 e
unfolding texts input_text
input-put aa k v s w p = put-asked aa 73 "QI" refl p (rw w)

pub output-ready : (aa : StringAddress) (k v : ℕ) (s : State) (l : List ℕ) → Ready aa l → v ≡ output_value k s → k < 16 →
    ReadyRow aa (Name Outputs ∷ bit ∷ []) (six k v 0 0 0 0) l
unfolding rows
output-ready aa k v s l h w b =
    let u : valid bit v ≡ true = ap (valid bit) w ∙ output-valid k s in
    ready-row aa _ _ l h refl (both_true (lt-ltb k 16 b) (both_true u refl))

pub output-put : {l l' : List ℕ} {e : ℕ} (aa : StringAddress) (k v : ℕ) (s : State) → v ≡ output_value k s →
    Put l l' (request_answer aa 79 (print_fields (Name Outputs ∷ bit ∷ []) (six k v 0 0 0 0))) 0 e → Put l l' (answer_of aa "QO" (output_text k s)) 0 e
unfolding texts output_text
output-put aa k v s w p = put-asked aa 79 "QO" refl p (rw w)

-- ---- QM

pub memory-ready : (aa : StringAddress) (a : CellAddress) (l : List ℕ) → Ready aa l → is_cell a ≡ true → ReadyRow aa (cell ∷ []) (six a.0 0 0 0 0 0) l
unfolding rows is_cell
memory-ready aa a l h t = ready-row aa _ _ l h refl (both_true t refl)

-- BBB has four bytes with its comma
length-place : (a : CellAddress) → length (print_fields (cell ∷ []) (six a.0 0 0 0 0 0)) ≤ 4
unfolding rows
length-place a = fields-most (cell ∷ []) (six a.0 0 0 0 0 0)

-- room for the cell's text after BBB, and for byte 13 after that
pub cell_room : (aa : StringAddress) (at next : ℕ) (a : CellAddress) (c : Cell) (l l' l'' : List ℕ) → Ready aa l → cell_sound c ≡ true →
    Put l l' (front_of aa 81 77) 0 at → Put l' l'' (print_fields (cell ∷ []) (six a.0 0 0 0 0 0)) at next → Shown c next l''
cell_room aa at next a c l l' l'' h t p q =
    record {
      sound = t;
      room = omega (arith, h.room, p.next, q.next, put-length p, put-length q, length_front aa 81 77, length-text c, length-place a);
    }

pub cell-ended : (aa : StringAddress) (at next end : ℕ) (a : CellAddress) (c : Cell) (l l' l'' l''' : List ℕ) → Ready aa l →
    Put l l' (front_of aa 81 77) 0 at → Put l' l'' (print_fields (cell ∷ []) (six a.0 0 0 0 0 0)) at next → Put l'' l''' (cell_text c) next end →
    end + 1 ≤ length l'''
cell-ended aa at next end a c l l' l'' l''' h p q x =
    omega (arith, h.room, p.next, q.next, x.next, put-length p, put-length q, put-length x, length_front aa 81 77, length-text c, length-place a)

pub memory-put : {l l₁ l₂ l₃ l₄ : List ℕ} {at next end e : ℕ} (aa : StringAddress) (a : CellAddress) (c : Cell) →
    Put l l₁ (front_of aa 81 77) 0 at → Put l₁ l₂ (print_fields (cell ∷ []) (six a.0 0 0 0 0 0)) at next → Put l₂ l₃ (cell_text c) next end →
    Put l₃ l₄ (13 ∷ []) end e → Put l l₄ (answer_of aa "QM" (memory_text a c)) 0 e
unfolding texts memory_text
memory-put aa a c p q x z = put-asked aa 77 "QM" refl (put-request aa 77 p (put-append q x) z) refl

-- ---- QC

pub cam-ready : (aa : StringAddress) (c : Cam) (l : List ℕ) → Ready aa l → c.position.0 < 2 ^ 32 →
    ReadyRow aa (bit ∷ any_signed ∷ []) (six 1 c.position.0 0 0 0 0) l
unfolding rows
cam-ready aa c l h b = ready-row aa (bit ∷ any_signed ∷ []) _ l h refl (both_true (signed-valid _ b) refl)

pub cam-put : {l l' : List ℕ} {e : ℕ} (aa : StringAddress) (c : Cam) → c.set ≡ true →
    Put l l' (request_answer aa 67 (print_fields (bit ∷ any_signed ∷ []) (six 1 c.position.0 0 0 0 0))) 0 e → Put l l' (answer_of aa "QC" (cam_text c)) 0 e
unfolding texts cam_text
cam-put aa c t p = put-asked aa 67 "QC" refl p (sym (choose-true _ _ _ t))

pub unset-ready : (aa : StringAddress) (l : List ℕ) → Ready aa l → ReadyRow aa (bit ∷ []) (six 0 0 0 0 0 0) l
unfolding rows
unset-ready aa l h = ready-row aa _ _ l h refl refl

pub unset-put : {l l' : List ℕ} {e : ℕ} (aa : StringAddress) (c : Cam) → c.set ≡ false →
    Put l l' (request_answer aa 67 (print_fields (bit ∷ []) (six 0 0 0 0 0 0))) 0 e → Put l l' (answer_of aa "QC" (cam_text c)) 0 e
unfolding texts cam_text
unset-put aa c t p = put-asked aa 67 "QC" refl p (sym (choose-false _ _ _ t))

-- ---- QE

pub fault-ready : (aa : StringAddress) (s : State) (l : List ℕ) → Ready aa l → fault_sound s.fault ≡ true →
    ReadyRow aa (Fixed 2 0 99 ∷ Fixed 3 0 999 ∷ []) (six s.fault.code s.fault.cell.0 0 0 0 0) l
unfolding rows
fault-ready aa s l h t =
    ready-row aa _ _ l h refl (both_true (fault-code-valid s.fault t) (both_true (fault-cell-valid s.fault t) refl))

pub fault-put : {l l' : List ℕ} {e : ℕ} (aa : StringAddress) (s : State) →
    Put l l' (request_answer aa 69 (print_fields (Fixed 2 0 99 ∷ Fixed 3 0 999 ∷ []) (six s.fault.code s.fault.cell.0 0 0 0 0))) 0 e →
    Put l l' (answer_of aa "QE" (fault_text s)) 0 e
unfolding texts fault_text
fault-put aa s p = put-asked aa 69 "QE" refl p refl

-- ---- QR

pub empty-ready : (aa : StringAddress) (l : List ℕ) → Ready aa l → ReadyRow aa (Fixed 3 0 999 ∷ []) (six 0 0 0 0 0 0) l
unfolding rows
empty-ready aa l h = ready-row aa _ _ l h refl refl

pub empty-put : {l l' : List ℕ} {e : ℕ} (aa : StringAddress) (x : Suspended) → x.cell.0 ≡ 0 →
    Put l l' (request_answer aa 82 (print_fields (Fixed 3 0 999 ∷ []) (six 0 0 0 0 0 0))) 0 e → Put l l' (answer_of aa "QR" (suspended_text x)) 0 e
unfolding texts suspended_text
empty-put aa x t p = put-asked aa 82 "QR" refl p (sym (choose-true _ _ _ (eq-eqb _ _ t)))

pub suspended-ready : (aa : StringAddress) (v : ℕ) (x : Suspended) (l : List ℕ) → Ready aa l →
    valid Next x.cell.0 ≡ true → (x.cell.0 ≡ 0 → ⊥) → v < 2 ^ 32 → x.loops ≤ loop_limit →
    ReadyRow aa (cell ∷ any_signed ∷ Count 0 loop_limit ∷ []) (six x.cell.0 v x.loops 0 0 0) l
unfolding rows
suspended-ready aa v x l h t n b c =
    ready-row aa (cell ∷ any_signed ∷ Count 0 loop_limit ∷ []) _ l h refl
    (both_true (suspended-valid x.cell.0 t n) (both_true (signed-valid v b) (both_true (between-valid 0 loop_limit x.loops (omega arith) c) refl)))

pub suspended-put : {l l' : List ℕ} {e : ℕ} (aa : StringAddress) (v : ℕ) (x : Suspended) → (x.cell.0 ≡ 0 → ⊥) → v ≡ remaining_bits x.remaining →
    Put l l' (request_answer aa 82 (print_fields (cell ∷ any_signed ∷ Count 0 loop_limit ∷ []) (six x.cell.0 v x.loops 0 0 0))) 0 e →
    Put l l' (answer_of aa "QR" (suspended_text x)) 0 e
unfolding texts suspended_text
suspended-put aa v x n w p = put-asked aa 82 "QR" refl p (rw w (sym (choose-false _ _ _ (ne_eqb _ _ n))))
