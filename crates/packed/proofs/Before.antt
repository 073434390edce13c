-- Cells read by the codes as they were before 02's longer waits are read as by the present ones: a range is not asked in reading a row.
-- Assumes nothing.
use Prim.Native.Nat.{ℕ, zero, suc}
use mathlib.Core.Path.{◌≡◌, refl, ap, ap₂, ◌∙◌}
use mathlib.Core.Bool.{Bool}
use mathlib.Core.List.{List, [], ◌∷◌, map, head-eq_of_cons-eq, tail-eq_of_cons-eq}
use lib.ListN.{set, replicate}
use Rattle.laws.specs.Tests.{choose}
use Rattle.fields.specs.Kinds.{is_signed}
use Rattle.fields.specs.declared.kinds.Kind.{Kind}
use Rattle.std.specs.Prelude.{Option, Some, None}
use Rattle.varint.specs.Groups.{number_at}
use Rattle.varint.specs.Signs.{unfolded}
use Rattle.varint.specs.declared.groups.Reading.{Reading}
use Rattle.packed.specs.declared.rows.Row.{Row}
use Rattle.format.specs.Formats.{fields_of, fields_in, formats_before, codes, codes_before}
use Rattle.format.proofs.Before.{known-before, signs-before}
use Rattle.instruction.specs.declared.Cell.{Cell}
use Rattle.packed.specs.Rows.{value_for, on_reading, row_from, read_row}
use Rattle.packed.specs.Cells.{ReadCells, cell_by, cell_after, cell_in, on_cell, cells_from}
use Rattle.packed.specs.declared.cells.ReadCell.{ReadCell}

on-reading :
    (r : Option Reading) (f g : ℕ → ℕ → Option Row) → ((n next : ℕ) → f n next ≡ g n next) → on_reading r f ≡ on_reading r g
on-reading (Some r) f g h = h r.value r.next
on-reading None f g h = refl

on-cell : (r : Option ReadCell) (f g : Cell → ℕ → ReadCells) → ((c : Cell) (next : ℕ) → f c next ≡ g c next) → on_cell r f ≡ on_cell r g
on-cell (Some r) f g h = h r.cell r.next
on-cell None f g h = refl

-- a row is read by the signs of its kinds alone
row-signs :
    (ks js : List Kind) (s : List ℕ) (at i : ℕ) (vs : List ℕ) → map is_signed ks ≡ map is_signed js →
    row_from ks s at i vs ≡ row_from js s at i vs
unfolding row_from value_for
row-signs [] [] s at i vs e = refl
row-signs [] (j ∷ js) s at i vs e = absurd (cc)
row-signs (k ∷ ks) [] s at i vs e = absurd (cc)
row-signs (k ∷ ks) (j ∷ js) s at i vs e =
    on-reading (number_at s at) _ _
    (λ n next. ap (λ (b : Bool). row_from ks s next (suc i) (set vs i (choose b (unfolded n) n))) (head-eq_of_cons-eq e)
    ∙ row-signs ks js s next (suc i) (set vs i (value_for j n)) (tail-eq_of_cons-eq e))

row_before : (code : ℕ) (s : List ℕ) (at : ℕ) → read_row (fields_in formats_before code) s at ≡ read_row (fields_of code) s at
unfolding read_row
row_before code s at = row-signs (fields_in formats_before code) (fields_of code) s at 0 (replicate 6 0) (signs-before code)

cell-before : (s : List ℕ) (at : ℕ) → cell_in codes_before s at ≡ cell_in codes s at
unfolding cell_in cell_after
cell-before s at = by (number_at s at)
  where
    by : (r : Option Reading) → cell_after codes_before s r ≡ cell_after codes s r
    by None = refl
    by (Some r) =
        ap₂ (λ (b : Bool) (p : Option Row). choose b (cell_by r.value p) None) (known-before r.value) (row_before r.value s r.next)

pub cells-before :
    (n : ℕ) (s : List ℕ) (at i : ℕ) (l : List Cell) → cells_from codes_before n s at i l ≡ cells_from codes n s at i l
unfolding cells_from
cells-before zero s at i l = refl
cells-before (suc n) s at i l =
    ap (λ (r : Option ReadCell). on_cell r (λ c next. cells_from codes_before n s next (suc i) (set l i c))) (cell-before s at)
    ∙ on-cell (cell_in codes s at) _ _ (λ c next. cells-before n s next (suc i) (set l i c))
