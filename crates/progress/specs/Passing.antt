-- 01, "Carrying out": the running part after a cell is passed.
-- Assumes nothing.
use Rattle.std.specs.Prelude.{ℕ, eqb}
use Rattle.laws.specs.Tests.{choose}
use Rattle.units.specs.declared.CellAddress.{CellAddress}
use Rattle.machine.specs.Record.{at_rest}
use Rattle.machine.specs.Starting.{waiting_at}
use Rattle.machine.specs.declared.Running.{Running}

-- 01: "Next 000 ends: idle."
unfoldable pub passed_to : CellAddress → ℕ → Running
passed_to next n = choose (eqb next.0 0) at_rest (waiting_at next n)
