-- Images, both ways: an image read gives the presets and cells it was written of, and what is read was written.
-- Assumes nothing.
use Prim.Native.Nat.{ℕ, ◌+◌, ◌≤◌}
use native.Mathlib.Omega.{arith}
use mathlib.Core.Path.{◌≡◌, refl, ap, sym, ◌∙◌}
use mathlib.Core.Bool.{true}
use mathlib.Core.List.{List, [], ◌++◌, append-nil}
use lib.Dec.{eqb}
use lib.ListN.{length, drop, replicate, length-append, drop_of_length-le}
use lib.Seq.{sets, sets-eq}
use borrow.Author.Tests.{eq-eqb, eqb-true}
use Rattle.laws.specs.Tests.{choose, both, either}
use Rattle.laws.specs.Tables.{every}
use Rattle.laws.proofs.Tests.{both_left, both_right, both_true, choose-by, choose-true}
use Rattle.fields.specs.Kinds.{valid}
use Rattle.fields.specs.Rows.{all_valid}
use Rattle.std.specs.Prelude.{Option, Some, None}
use Rattle.format.specs.Formats.{fields_of, fields_in, codes}
use Rattle.instruction.specs.Codes.{code_of}
use Rattle.instruction.specs.Numbers.{numbers_with}
use Rattle.instruction.specs.Soundness.{canonical, cell_sound}
use Rattle.instruction.specs.declared.Cell.{Cell}
use Rattle.instruction.proofs.Numbering.{same-numbers, numbers-same}
use Rattle.packed.specs.Rows.{row, row_bytes, read_row}
use Rattle.packed.specs.Cells.{cells_bytes, ReadCells, cells_from}
use Rattle.packed.specs.declared.rows.Row.{Row}
use Rattle.packed.proofs.RoundTrip.{row_back, row-stands}
use Rattle.packed.proofs.CellRoundTrip.{cells-back, cells-stand}
use Rattle.machine.specs.Record.{null_cell}
use Rattle.machine.specs.Soundness.{presets_sound, position_sound, cam_sound, fault_sound, suspended_sound, is_nothing, resting_sound, running_sound, state_sound, sound}
use Rattle.machine.specs.Operations.{Made}
use Rattle.machine.specs.Operations.Made.{Drive}
use Rattle.machine.specs.Images.{preset_kinds, preset_numbers, presets_from, fresh_with, holds_presets, loaded_with, loaded_after, loaded_by, loaded_of}
use Rattle.machine.specs.declared.Presets.{Presets}
use Rattle.machine.specs.declared.Machine.{Machine}
use Rattle.machine.proofs.Members.{every_append, every_front}
use Rattle.machine.proofs.ImagePresets.{kinds-good, numbers-valid, presets-back}

-- ---- a fresh drive, filled

-- what is left of a fresh drive is sound beside any presets and cells that are
pub filled-state : (p : Presets) (cells : List Cell) → presets_sound p ≡ true → state_sound cells (fresh_with p cells).state ≡ true
unfolding fresh_with state_sound position_sound cam_sound fault_sound suspended_sound running_sound resting_sound is_nothing both either choose
filled-state p cells h = both_true h refl

null_cells : every cell_sound (replicate 3 null_cell) ≡ true
unfolding every cell_sound all_valid fields_of fields_in code_of numbers_with canonical valid both either choose
null_cells = refl

-- the 128 cells of an image, and three that stay as a fresh drive has them
abbrev pub memory : List Cell → List Cell
memory cs = cs ++ replicate 3 null_cell

pub memory-sound : (cs : List Cell) → every cell_sound cs ≡ true → every cell_sound (memory cs) ≡ true
memory-sound cs t = every_append cell_sound cs (replicate 3 null_cell) t null_cells

filled-sound : (p : Presets) (cs : List Cell) → presets_sound p ≡ true → every cell_sound cs ≡ true → sound (fresh_with p (memory cs)) ≡ true
unfolding sound fresh_with
filled-sound p cs h t = both_true (memory-sound cs t) (filled-state p (memory cs) h)

sets-cells : (cs : List Cell) → length cs ≡ 128 → sets (replicate 131 null_cell) 0 cs ≡ memory cs
sets-cells cs e =
    let n : 0 + length cs ≡ 128 = omega arith in
    sets-eq cs (replicate 131 null_cell) 0 (omega arith) ∙ ap (λ (k : ℕ). cs ++ drop k (replicate 131 null_cell)) n

-- ---- what is written is read

abbrev pub preset_bytes : Presets → List ℕ
preset_bytes p = row_bytes preset_kinds (preset_numbers p)

presets-read :
    (p : Presets) (rest : List ℕ) → presets_sound p ≡ true →
    read_row preset_kinds (preset_bytes p ++ rest) 0 ≡ row (preset_numbers p) (length (preset_bytes p))
unfolding preset_numbers
presets-read p rest h =
    row_back preset_kinds (preset_numbers p) [] rest kinds-good (numbers-valid p h) (omega arith) (omega arith)
    ∙ ap (row (preset_numbers p)) (omega arith)

cells-read :
    (cs : List Cell) (pre : List ℕ) → length cs ≡ 128 → every cell_sound cs ≡ true →
    cells_from codes 128 (pre ++ cells_bytes cs) (length pre) 0 (replicate 131 null_cell) ≡ Some (memory cs, length (pre ++ cells_bytes cs))
cells-read cs pre e t =
    let fresh = replicate 131 null_cell in
    let b = cells_bytes cs in
    ap (λ (n : ℕ). cells_from codes n (pre ++ b) (length pre) 0 fresh) (sym e)
    ∙ ap (λ (x : List ℕ). cells_from codes (length cs) (pre ++ x) (length pre) 0 fresh) (sym (append-nil b))
    ∙ cells-back cs pre [] 0 fresh t
    ∙ ap (λ (l : List Cell). Some (l, length pre + length b)) (sets-cells cs e)
    ∙ ap (λ (n : ℕ). Some (memory cs, n)) (sym (length-append pre b))

own-presets : (p : Presets) → presets_sound p ≡ true → holds_presets (preset_numbers p) ≡ true
unfolding holds_presets
own-presets p h = rw (presets-back p h) (same-numbers (preset_numbers p))

-- presets and cells, as bytes, give the drive that is so filled
pub bytes_back :
    (p : Presets) (cs : List Cell) → presets_sound p ≡ true → length cs ≡ 128 → every cell_sound cs ≡ true →
    loaded_of (preset_bytes p ++ cells_bytes cs) ≡ Drive (fresh_with p (memory cs))
unfolding loaded_by loaded_after loaded_with
bytes_back p cs h e t =
    let s = preset_bytes p ++ cells_bytes cs in
    ap (loaded_after codes sound s) (presets-read p (cells_bytes cs) h)
    ∙ choose-true _ _ _ (own-presets p h)
    ∙ ap (loaded_with sound s (presets_from (preset_numbers p))) (cells-read cs (preset_bytes p) e t)
    ∙ ap (λ (q : Presets). loaded_with sound s q (Some (memory cs, length s))) (presets-back p h)
    ∙ choose-true _ _ _ (both_true (eq-eqb (length s) (length s) refl) (filled-sound p cs h t))

-- ---- what is read was written

-- a drive filled with sound presets and cells, of which the bytes are
pub record Restores (s : List ℕ) (m : Machine) : Type 0 where
  pub presets : Presets
  pub cells : List Cell
  pub filled : fresh_with presets (memory cells) ≡ m
  pub presets_sound : presets_sound presets ≡ true
  pub cells_sound : every cell_sound cells ≡ true
  pub count : length cells ≡ 128
  pub bytes : preset_bytes presets ++ cells_bytes cells ≡ s

restores :
    (s : List ℕ) (m : Machine) (p : Row) (cells : List Cell) (at : ℕ) → read_row preset_kinds s 0 ≡ Some p → holds_presets p.values ≡ true →
    cells_from codes 128 s p.next 0 (replicate 131 null_cell) ≡ Some (cells, at) → at ≡ length s → sound (fresh_with (presets_from p.values) cells) ≡ true →
    fresh_with (presets_from p.values) cells ≡ m → Restores s m
unfolding holds_presets sound state_sound fresh_with
restores s m p cells at r t c e g d =
    let row = row-stands preset_kinds s 0 p (omega arith) r in
    let found = cells-stand 128 s p.next 0 (replicate 131 null_cell) cells at c in
    let q = presets_from p.values in
    let cs = found.ws in
    let own : preset_numbers q ≡ p.values = numbers-same _ _ t in
    let stored : cells ≡ memory cs = found.stored ∙ sets-cells cs found.many in
    let long : length s ≤ at = omega (arith, e) in
    let over : drop at s ≡ [] = drop_of_length-le s long in
    record {
      presets = q;
      cells = cs;
      filled = ap (fresh_with q) (sym stored) ∙ d;
      presets_sound = both_left _ _ (both_right _ _ g);
      cells_sound = every_front cell_sound cs (replicate 3 null_cell) (ap (every cell_sound) (sym stored) ∙ both_left _ _ g);
      count = found.many;
      bytes =
          sym
          (row.bytes
          ∙ ap (λ (z : List ℕ). row_bytes preset_kinds p.values ++ z) (found.bytes ∙ ap (λ (z : List ℕ). cells_bytes cs ++ z) over ∙ append-nil (cells_bytes cs))
          ∙ ap (λ (vs : List ℕ). row_bytes preset_kinds vs ++ cells_bytes cs) (sym own));
    }

restores-cells :
    (s : List ℕ) (m : Machine) (p : Row) → read_row preset_kinds s 0 ≡ Some p → holds_presets p.values ≡ true → (r : ReadCells) →
    cells_from codes 128 s p.next 0 (replicate 131 null_cell) ≡ r → loaded_with sound s (presets_from p.values) r ≡ Drive m → Restores s m
unfolding loaded_with
restores-cells s m p e t None c d = absurd (cc)
restores-cells s m p e t (Some (cells, at)) c d =
    choose-by (λ (x : Made). x ≡ Drive m → Restores s m) (both (eqb at (length s)) (sound (fresh_with (presets_from p.values) cells)))
    (λ u v. let same : fresh_with (presets_from p.values) cells ≡ m = cc in
    restores s m p cells at e t c (eqb-true at (length s) (both_left _ _ u)) (both_right _ _ u) same)
    (λ u v. let z : ◌≡◌ {A = ℕ} 0 1 = cc in absurd (omega arith)) d

pub loaded-restores : (s : List ℕ) (m : Machine) → loaded_of s ≡ Drive m → Restores s m
unfolding loaded_by loaded_after
loaded-restores s m d = by (read_row preset_kinds s 0) refl d
  where
    by : (r : Option Row) → read_row preset_kinds s 0 ≡ r → loaded_after codes sound s r ≡ Drive m → Restores s m
    by None e v = absurd (cc)
    by (Some p) e v =
        choose-by (λ (x : Made). x ≡ Drive m → Restores s m) (holds_presets p.values)
        (λ t w. restores-cells s m p e t _ refl w) (λ t w. absurd (cc)) v
