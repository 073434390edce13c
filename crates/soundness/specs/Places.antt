-- The cell that an address of the record names, if it names one.
-- Assumes nothing.
use Rattle.std.specs.Prelude.{ℕ, ◌-◌, ◌≡◌, true, List}
use Rattle.laws.specs.Tests.{choose}
use Rattle.units.specs.declared.CellAddress.{CellAddress}
use Rattle.instruction.specs.declared.Cell.{Cell}
use Rattle.instruction.specs.declared.Instruction.{Instruction}
use Rattle.machine.specs.Record.{cell_at}
use Rattle.machine.specs.Soundness.{is_cell}

-- the place of a cell in the memory; of any other address the first
unfoldable pub place_of : CellAddress → ℕ
place_of a = choose (is_cell a) (a.0 - 100) 0

-- the instruction at an address, if it is a cell's; at any other address no test asks for it
abbrev pub Holds : List Cell → CellAddress → Instruction → Type 0
Holds cells a i = is_cell a ≡ true → (cell_at cells a).instruction ≡ i
