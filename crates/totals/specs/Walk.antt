-- 02, Slip 2: "From a start cell, follow next addresses to 000 and give the net steps (with multipliers, relative mode) and the delay milliseconds."
-- Assumes nothing.
use Rattle.std.specs.Prelude.{ℕ, zero, suc, ◌+◌, ◌-◌, Bool, List, eqb, pos, ◌+ℤ◌, Option, Some, None, Result, Ok, Err}
use Rattle.laws.specs.Tests.{choose}
use Rattle.units.specs.declared.CellAddress.{CellAddress}
use Rattle.cellmap.specs.Marks.{no_marks, is_marked, marked, unmarked}
use Rattle.instruction.specs.Adding.{sums, added_of}
use Rattle.instruction.specs.declared.Cell.{Cell}
use Rattle.instruction.specs.declared.adding.Sums.{Sums}
use Rattle.machine.specs.Record.{cell_at}
use Rattle.machine.specs.Soundness.{is_cell, sound}
use Rattle.machine.specs.declared.Machine.{Machine}

-- the totals, or the number of a refusal
abbrev pub Totalled : Type 0
Totalled = Result Sums ℕ

-- before the first cell
abbrev pub nothing : Sums
nothing = sums (record { 0 = pos 0 }) (record { 0 = 0 })

-- the net steps are a true sum, and the milliseconds another
unfoldable pub sum_of : Sums → Sums → Sums
sum_of s t = sums (record { 0 = s.steps.0 +ℤ t.steps.0 }) (record { 0 = s.delay.0 + t.delay.0 })

-- what the walk needs of a cell: what it adds, and the next address
pub record Row : Type 0 where
  pub added : Option Sums
  pub next : CellAddress

abbrev pub row_of : Cell → Row
row_of c = record { added = added_of c.instruction; next = c.next }

abbrev pub Rows : Type 0
Rows = CellAddress → Row

abbrev pub rows_of : List Cell → Rows
rows_of cells = λ a. row_of (cell_at cells a)

-- the place of a cell's mark
abbrev pub place_of : CellAddress → ℕ
place_of a = a.0 - 100

-- ---- the walk

-- what is found at an address
pub data Found : Type 0 where
  End : Found
  Again : Found
  Another : Found
  Going : Sums → Found

unfoldable pub found_by : Option Sums → Found
found_by (Some t) = Going t
found_by None = Another

-- "whichever is met first along the walk, 12 for a cell met twice and 13 for another code"
unfoldable pub found : Rows → CellAddress → List Bool → Found
found rows a met =
    choose (eqb a.0 0) End (choose (is_marked met (place_of a)) Again (found_by (rows a).added))

-- the walk's end where it does not go on
unfoldable pub ended : Found → Sums → Totalled
ended End s = Ok s
ended Again s = Err 12
ended Another s = Err 13
ended (Going t) s = Err 12

-- with n cells not yet met, of which each cell that is passed is one: when none is left, every cell is met again
unfoldable pub walk : ℕ → Found → Rows → CellAddress → List Bool → Sums → Totalled
walk zero f rows a met s = ended f s
walk (suc n) End rows a met s = Ok s
walk (suc n) Again rows a met s = Err 12
walk (suc n) Another rows a met s = Err 13
walk (suc n) (Going t) rows a met s =
    walk n (found rows (rows a).next (marked met (place_of a))) rows (rows a).next (marked met (place_of a)) (sum_of s t)

-- the walk from an address on, with the cells met before it and their sums
unfoldable pub followed : Rows → CellAddress → List Bool → Sums → Totalled
followed rows a met s = walk (unmarked met) (found rows a met) rows a met s

-- "11, start outside 100 to 230"
unfoldable pub totals_in : List Cell → CellAddress → Totalled
totals_in cells a = choose (is_cell a) (followed (rows_of cells) a no_marks nothing) (Err 11)

-- "after 2"
unfoldable pub totals_of : Machine → CellAddress → Totalled
totals_of m a = choose (sound m) (totals_in m.cells a) (Err 2)
