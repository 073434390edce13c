-- Equal readings are readings of equal drives.
-- Assumes nothing.
use Prim.Native.Nat.{ℕ, ◌+◌, ◌<◌}
use native.Mathlib.Omega.{arith}
use mathlib.Core.Path.{◌≡◌, ap, sym, ◌∙◌, subst}
use mathlib.Core.Bool.{true}
use mathlib.Core.List.{List, [], ◌∷◌, Memᴰ, append_cancel_left}
use lib.ListN.{get_or}
use lib.Seq.{ext_get_or}
use borrow.Author.Tests.{le-leb}
use Rattle.laws.proofs.Tests.{both_true}
use Rattle.fields.specs.Rows.{print_fields}
use Rattle.units.specs.declared.CellAddress.{CellAddress}
use Rattle.format.specs.Formats.{cell}
use Rattle.instruction.specs.Soundness.{cell_sound}
use Rattle.instruction.specs.declared.Cell.{Cell as Content}
use Rattle.machine.specs.Record.{cell_at, null_cell, idle}
use Rattle.machine.specs.Soundness.{is_cell, suspended_sound}
use Rattle.machine.specs.Answers.{memory_text}
use Rattle.machine.specs.Reading.{Request, requests, reading}
use Rattle.machine.specs.Reading.Request.{Cell, Preset, Position, Output, Input, Cam, Fault, Suspended}
use Rattle.machine.specs.declared.Machine.{Machine}
use Rattle.machine.proofs.Cells.{cell-sound}
use Rattle.machine.proofs.Parts.{Parts, state-parts}
use Rattle.machine.proofs.Invariant.{Good, idle-rests}
use Rattle.instruction.proofs.Sending.{text-injective}
use Rattle.machine.proofs.Members.{map_at}
use Rattle.machine.proofs.Requests.{cell-asked, preset-asked, position-asked, output-asked, input-asked, cam-asked, fault-asked}
use Rattle.machine.proofs.Requests.{suspended-asked}
use Rattle.machine.proofs.Addressing.{own_address}
use Rattle.machine.proofs.Answering.{code_for, text_for, answer_to, reading-is}
use Rattle.machine.proofs.Texts.{answer-fields}
use Rattle.machine.proofs.Showing.{presets-same, position-same, inputs-same, outputs-same, cam-same, fault-same}
use Rattle.machine.proofs.Interrupted.{suspended-same}

-- the parts of a good drive's state
parts : (m : Machine) → Good m → Parts m.cells m.state
parts m g = state-parts m.cells m.state g.inputs g.outputs g.state

-- two good drives whose texts are the same for each request
pub record SameTexts (m n : Machine) : Type 0 where
  pub left : Good m
  pub right : Good n
  pub texts : (r : Request) → Memᴰ r requests → text_for r m ≡ text_for r n

-- the address of a place
abbrev pub placed : ℕ → CellAddress
placed k = record { 0 = 100 + k }

at_place : (cells : List Content) (k : ℕ) → cell_at cells (placed k) ≡ get_or cells k null_cell
unfolding cell_at
at_place cells k = ap (λ (i : ℕ). get_or cells i null_cell) (omega arith)

pub place-cell : (k : ℕ) → k < 131 → is_cell (placed k) ≡ true
unfolding is_cell
place-cell k h = both_true (le-leb 100 (100 + k) (omega arith)) (le-leb (100 + k) 230 (omega arith))

pub place-sound : (m : Machine) (k : ℕ) → Good m → k < 131 → cell_sound (cell_at m.cells (placed k)) ≡ true
place-sound m k g h = cell-sound (record { sound = g.cells; count = g.count }) (placed k) (place-cell k h)

cell_same : (m n : Machine) → SameTexts m n → (k : ℕ) → k < 131 → cell_at m.cells (placed k) ≡ cell_at n.cells (placed k)
unfolding text_for memory_text
cell_same m n s k h =
    text-injective _ _ (place-sound m k s.left h) (place-sound n k s.right h)
    (append_cancel_left (print_fields (cell ∷ []) ((100 + k) ∷ [])) _ _ (s.texts (Cell k) (cell-asked k h)))

cells_same : (m n : Machine) → SameTexts m n → m.cells ≡ n.cells
cells_same m n s =
    ext_get_or null_cell m.cells n.cells (s.left.count ∙ sym s.right.count)
    (λ k h. sym (at_place m.cells k) ∙ cell_same m n s k (rw s.left.count at h) ∙ at_place n.cells k)

state-same : (m n : Machine) → SameTexts m n → m.cells ≡ n.cells → m.state.running ≡ n.state.running → m.state ≡ n.state
unfolding text_for
state-same m n s c r =
    let a = parts m s.left in
    let b = parts n s.right in
    let presets = presets-same m.state n.state a.presets b.presets (λ k h. s.texts (Preset k) (preset-asked k h)) in
    let position = position-same m.state n.state a.position b.position (s.texts Position position-asked) in
    let inputs = inputs-same m.state n.state s.left.inputs s.right.inputs (λ k h. s.texts (Input k) (input-asked k h)) in
    let outputs = outputs-same m.state n.state s.left.outputs s.right.outputs (λ k h. s.texts (Output k) (output-asked k h)) in
    let cam = cam-same m.state.cam n.state.cam a.cam b.cam (s.texts Cam cam-asked) in
    let fault = fault-same m.state n.state a.fault b.fault (s.texts Fault fault-asked) in
    let suspended =
    suspended-same n.cells m.state.suspended n.state.suspended
    (subst (λ (l : List Content). suspended_sound l m.state.suspended ≡ true) c a.suspended) b.suspended
    (s.texts Suspended suspended-asked) in
    λ j. record {
      presets = presets j;
      position = position j;
      inputs = inputs j;
      outputs = outputs j;
      cam = cam j;
      fault = fault j;
      suspended = suspended j;
      running = r j;
    }

texts-same : (m n : Machine) → Good m → Good n → idle m.state ≡ true → idle n.state ≡ true → reading m ≡ reading n → SameTexts m n
unfolding answer_to
texts-same m n g h i j e =
    record {
      left = g;
      right = h;
      texts = λ r q.
          answer-fields (own_address m) (own_address n) (code_for r) _ _
          (map_at (λ (r : Request). answer_to r m) (λ (r : Request). answer_to r n) q (sym (reading-is m g i) ∙ e ∙ reading-is n h j));
    }

-- demand 3: "the whole past must be in the reading"
pub machines-same : (m n : Machine) → Good m → Good n → idle m.state ≡ true → idle n.state ≡ true → reading m ≡ reading n → m ≡ n
machines-same m n g h i j e =
    let s = texts-same m n g h i j e in
    let c = cells_same m n s in
    let t = state-same m n s c (idle-rests m g i ∙ sym (idle-rests n h j)) in
    λ k. record { state = t k; cells = c k }
