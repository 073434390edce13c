-- docs/SCRIPTS.md, "K: raw writes": "reads the whole record as integers, changes one and puts the record together again".
-- Assumes nothing.
use Rattle.std.specs.Prelude.{ℕ, List, leb, ltb, set, Option, Some, None}
use Rattle.laws.specs.Tests.{choose, both}
use Rattle.instruction.specs.Numbers.{is_one}
use Rattle.instruction.specs.declared.Cell.{Cell}
use Rattle.machine.specs.Record.{with_output}
use Rattle.machine.specs.declared.Machine.{Machine}
use Rattle.machine.specs.declared.State.{State}
use Rattle.raw.specs.Counts.{counts_of, holds_delay, counted}
use Rattle.raw.specs.Fields.{field_at, fits_field, with_field, counts_with}
use Rattle.raw.specs.Cells.{made_of}
use Rattle.raw.specs.declared.remaining.Counts.{Counts}

-- the record of its cells, and its state with both remaining counts in their units; none where it cannot hold them
unfoldable pub written_with : List Cell → Option State → Option Machine
written_with cells None = None
written_with cells (Some s) = Some (record { state = s; cells = cells })

unfoldable pub put_together : List Cell → State → Counts → Option Machine
put_together cells s n = written_with cells (counted (holds_delay cells s.suspended.cell) s n)

-- a field, by its place in the list of names, set to an integer
unfoldable pub field_written : Machine → ℕ → ℕ → Option Machine
field_written m k v =
    choose (fits_field (field_at k) v)
    (put_together m.cells (with_field m.state (field_at k) v) (counts_with (counts_of m.state) (field_at k) v))
    None

-- docs/SCRIPTS.md: "`out NAME v`: one output", by its place, set to 0 or 1
unfoldable pub output_written : Machine → ℕ → ℕ → Option Machine
output_written m k v =
    choose (both (ltb k 14) (leb v 1)) (put_together m.cells (with_output m.state k (is_one v)) (counts_of m.state)) None

-- docs/SCRIPTS.md: "`cNNN code p.. next`": a cell, by its place, set to a code, its parameters and its next
unfoldable pub with_cell : Machine → ℕ → Option Cell → Option Machine
with_cell m k None = None
with_cell m k (Some x) = put_together (set m.cells k x) m.state (counts_of m.state)

unfoldable pub cell_written : Machine → ℕ → List ℕ → Option Machine
cell_written m k n = choose (ltb k 131) (with_cell m k (made_of n)) None
