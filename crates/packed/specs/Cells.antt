-- 02: "then of each cell code, parameters and DDD in the order of its QM answer, without the cell address".
-- Assumes nothing.
use Rattle.std.specs.Prelude.{ℕ, zero, suc, List, [], ◌∷◌, ◌++◌, set, Option, Some, None}
use Rattle.laws.specs.Tests.{choose}
use Rattle.varint.specs.Groups.{groups, number_at}
use Rattle.varint.specs.declared.groups.Reading.{Reading}
use Rattle.format.specs.Formats.{fields_of, Codes}
use Rattle.instruction.specs.Codes.{code_of}
use Rattle.instruction.specs.Numbers.{numbers_of, cell_of, same_numbers}
use Rattle.instruction.specs.declared.Cell.{Cell}
use Rattle.packed.specs.Rows.{row_bytes, read_row}
use Rattle.packed.specs.declared.rows.Row.{Row}
use Rattle.packed.specs.declared.cells.ReadCell.{ReadCell}

-- ---- one cell

-- the code, and the numbers of its fields with DDD last. A 69 has no field: its code alone
unfoldable pub cell_bytes : Cell → List ℕ
cell_bytes c = groups (code_of c.instruction) ++ row_bytes (fields_of (code_of c.instruction)) (numbers_of c)

-- a cell and the place after it
abbrev pub held : Cell → ℕ → Option ReadCell
held c next = Some (record { cell = c; next = next })

-- the cell of a code and its numbers. 02: "bytes that the writer makes for no drive": of no cell are numbers that the cell made of them does not
-- have, as a frequency outside the table, or a 57 with V 0 and another number than 0
unfoldable pub cell_by : ℕ → Option Row → Option ReadCell
cell_by code (Some r) = choose (same_numbers (numbers_of (cell_of code r.values)) r.values) (held (cell_of code r.values) r.next) None
cell_by code None = None

-- a code that there is, and the numbers of its fields, by the codes that the reader knows
unfoldable pub cell_after : Codes → List ℕ → Option Reading → Option ReadCell
cell_after t s (Some r) = choose (t.known r.value) (cell_by r.value (read_row (t.fields r.value) s r.next)) None
cell_after t s None = None

-- the cell at a place of a string; whether it is sound is not asked
unfoldable pub cell_in : Codes → List ℕ → ℕ → Option ReadCell
cell_in t s at = cell_after t s (number_at s at)

-- ---- cells one after another

unfoldable pub cells_bytes : List Cell → List ℕ
cells_bytes [] = []
cells_bytes (c ∷ cs) = cell_bytes c ++ cells_bytes cs

-- cells and the place after them, or none
abbrev pub ReadCells : Type 0
ReadCells = Option (List Cell × ℕ)

abbrev pub on_cell : Option ReadCell → (Cell → ℕ → ReadCells) → ReadCells
on_cell (Some r) f = f r.cell r.next
on_cell None f = None

-- n cells from a place on, stored from place i on
unfoldable pub cells_from : Codes → ℕ → List ℕ → ℕ → ℕ → List Cell → ReadCells
cells_from t zero s at i cells = Some (cells, at)
cells_from t (suc n) s at i cells = on_cell (cell_in t s at) (λ c next. cells_from t n s next (suc i) (set cells i c))

-- what reading into a memory hands back, with the memory afterwards
unfoldable pub cells_as : Option ℕ → List Cell → ReadCells
cells_as (Some next) cells = Some (cells, next)
cells_as None cells = None
