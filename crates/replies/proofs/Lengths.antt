-- An answer has 1 to 64 bytes.
-- Assumes nothing.
use Prim.Native.Nat.{ℕ, ◌≤◌}
use Prim.Native.String.{String}
use native.Mathlib.Omega.{arith}
use mathlib.Core.Path.{◌≡◌, refl}
use mathlib.Core.Bool.{true}
use mathlib.Core.List.{List, [], ◌∷◌, ◌++◌}
use lib.Dec.{eqb, leb}
use lib.ListN.{length, length-append}
use borrow.Author.Tests.{leb-true}
use Rattle.laws.specs.Text.{bytes}
use Rattle.laws.proofs.Tests.{choose-by}
use Rattle.decimal.specs.Printing.{digits}
use Rattle.decimal.proofs.Printing.{length_digits}
use Rattle.fields.specs.Kinds.{most}
use Rattle.fields.specs.Rows.{print_fields, most_all}
use Rattle.fields.specs.declared.kinds.Kind.{Kind}
use Rattle.fields.specs.declared.kinds.Kind.TheVariants.{Name}
use Rattle.fields.specs.declared.names.Names.TheVariants.{Presets}
use Rattle.fields.proofs.Lengths.{fields-most}
use Rattle.units.specs.declared.CellAddress.{CellAddress}
use Rattle.format.specs.Formats.{cell}
use Rattle.instruction.specs.Texts.{cell_text}
use Rattle.instruction.specs.declared.Cell.{Cell}
use Rattle.instruction.proofs.Sending.{length-text}
use Rattle.machine.specs.Commands.{preset_kind}
use Rattle.machine.specs.Answers.{preset_text, position_text, input_text, output_text, cam_text, fault_text, suspended_text}
use Rattle.machine.specs.Answers.{memory_text, answer_of, accepted, rejected, answer_at}
use Rattle.machine.specs.declared.State.{State}
use Rattle.machine.specs.declared.commands.Command.{Command}
use Rattle.machine.specs.declared.commands.Command.TheVariants.{Store, SetPreset, Start, EmergencyStop, FreeRunStop, SetPosition, SetOutput, SetCam, AskPosition, AskPreset, AskInput, AskOutput, AskCell, AskCam, AskFault, AskSuspended, Wrong}
use Rattle.machine.specs.declared.commands.StringAddress.{StringAddress}

-- fields of at most 59 bytes
Short : List ℕ → Type 0
Short fields = length fields ≤ 59

-- what a row's greatest length computes by
rows : Unit {0}
unfolding Short most_all most bytes
rows = tt

row-short : (ks : List Kind) (vs : List ℕ) → leb (most_all ks) 59 ≡ true → Short (print_fields ks vs)
unfolding Short
row-short ks vs t = omega (arith, fields-most ks vs, leb-true (most_all ks) 59 t)

preset-short : (k : ℕ) (s : State) → Short (preset_text k s)
unfolding rows preset_text preset_kind
preset-short k s = row-short _ _ (choose-by Right (eqb k 0) (λ t. refl)
    (λ t. choose-by Right (eqb k 1) (λ u. refl) (λ u. choose-by Right (eqb k 2) (λ w. refl) (λ w. refl))))
  where
    Right : Kind → Type 0
    Right kind = leb (most_all (Name Presets ∷ kind ∷ [])) 59 ≡ true

cell-short : (a : CellAddress) (c : Cell) → Short (memory_text a c)
unfolding rows memory_text
cell-short a c =
    omega (arith, length-append (print_fields (cell ∷ []) (a.0 ∷ [])) (cell_text c), fields-most (cell ∷ []) (a.0 ∷ []), length-text c)

-- what holds of every code of at most two letters with short fields holds of every answer
answer-by : (P : List ℕ → Type 0) (aa : StringAddress) (command : Command) (s : State) (c : Cell) →
    ((code : String) (fields : List ℕ) → length (bytes code) ≤ 2 → Short fields → P (answer_of aa code fields)) → P (answer_at command aa s c)
unfolding rows answer_at accepted rejected position_text input_text output_text cam_text fault_text suspended_text
answer-by P aa (Store a d) s c f = f "Y" [] (omega arith) (omega arith)
answer-by P aa (SetPreset v) s c f = f "Y" [] (omega arith) (omega arith)
answer-by P aa (Start a) s c f = f "Y" [] (omega arith) (omega arith)
answer-by P aa EmergencyStop s c f = f "Y" [] (omega arith) (omega arith)
answer-by P aa FreeRunStop s c f = f "Y" [] (omega arith) (omega arith)
answer-by P aa (SetPosition b) s c f = f "Y" [] (omega arith) (omega arith)
answer-by P aa (SetOutput o v) s c f = f "Y" [] (omega arith) (omega arith)
answer-by P aa (SetCam v b) s c f = f "Y" [] (omega arith) (omega arith)
answer-by P aa AskPosition s c f = f "QA" _ (omega arith) (row-short _ _ refl)
answer-by P aa (AskPreset k) s c f = f "QS" _ (omega arith) (preset-short k s)
answer-by P aa (AskInput k) s c f = f "QI" _ (omega arith) (row-short _ _ refl)
answer-by P aa (AskOutput k) s c f = f "QO" _ (omega arith) (row-short _ _ refl)
answer-by P aa (AskCell a) s c f = f "QM" _ (omega arith) (cell-short a c)
answer-by P aa AskCam s c f =
    f "QC" _ (omega arith) (choose-by Short s.cam.set (λ t. row-short _ _ refl) (λ t. row-short _ _ refl))
answer-by P aa AskFault s c f = f "QE" _ (omega arith) (row-short _ _ refl)
answer-by P aa AskSuspended s c f =
    f "QR" _ (omega arith) (choose-by Short (eqb s.suspended.cell.0 0) (λ t. row-short _ _ refl) (λ t. row-short _ _ refl))
answer-by P aa Wrong s c f = f "N" [] (omega arith) (omega arith)

length-answer : (aa : StringAddress) (code : String) (fields : List ℕ) → length (bytes code) ≤ 2 → Short fields →
    (1 ≤ length (answer_of aa code fields)) × (length (answer_of aa code fields) ≤ 64)
unfolding answer_of Short
length-answer aa code fields h b =
    omega (
      arith,
      length-append (digits 2 aa.0) (bytes code ++ (fields ++ (13 ∷ []))),
      length-append (bytes code) (fields ++ (13 ∷ [])),
      length-append fields (13 ∷ []),
      length_digits 2 aa.0,
    )

pub answer-some : (aa : StringAddress) (command : Command) (s : State) (c : Cell) → 1 ≤ length (answer_at command aa s c)
answer-some aa command s c = answer-by (λ (x : List ℕ). 1 ≤ length x) aa command s c (λ code fields h b. (length-answer aa code fields h b).0)

pub answer-short : (aa : StringAddress) (command : Command) (s : State) (c : Cell) → length (answer_at command aa s c) ≤ 64
answer-short aa command s c = answer-by (λ (x : List ℕ). length x ≤ 64) aa command s c (λ code fields h b. (length-answer aa code fields h b).1)
