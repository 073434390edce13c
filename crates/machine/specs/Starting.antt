-- 01, "Carrying out": starting a program, going on to the next cell, ending with an error.
-- Assumes nothing.
use Rattle.std.specs.Prelude.{ℕ, false, eqb}
use Rattle.laws.specs.Tests.{choose}
use Rattle.units.specs.declared.CellAddress.{CellAddress}
use Rattle.machine.specs.Record.{no_fault, with_fault, with_running, stopped}
use Rattle.machine.specs.declared.Remaining.{Remaining}
use Rattle.machine.specs.declared.Remaining.TheVariants.{Nothing}
use Rattle.machine.specs.declared.Phase.{Phase}
use Rattle.machine.specs.declared.Phase.TheVariants.{Waiting}
use Rattle.machine.specs.declared.Running.{Running}
use Rattle.machine.specs.declared.State.{State}

-- at a cell that is not yet taken
abbrev pub waiting_at : CellAddress → ℕ → Running
waiting_at a n = record { cell = a; phase = Waiting; remaining = Nothing; loops = n; at_speed = false }

-- 01: "clears the error and makes BBB .. the present cell"
abbrev pub started : State → CellAddress → State
started s a = with_running (with_fault s no_fault) (waiting_at a 0)

-- 01's passing on: the next cell becomes the present one. "Next 000 ends: idle."
unfoldable pub advanced : State → CellAddress → State
advanced s next = choose (eqb next.0 0) (stopped s) (with_running s (waiting_at next s.running.loops))

-- 01: "An error ends the program and notes code and cell"
abbrev pub failed : State → ℕ → State
failed s code = stopped (with_fault s (record { code = code; cell = s.running.cell }))

-- the same cell in another phase, with the at-speed mark as it was
abbrev pub in_phase : State → Phase → Remaining → State
in_phase s phase remaining =
    with_running s
    (record {
      cell = s.running.cell;
      phase = phase;
      remaining = remaining;
      loops = s.running.loops;
      at_speed = s.running.at_speed;
    })

-- the same cell in a phase that begins with the mark clear
abbrev pub entered : State → Phase → Remaining → State
entered s phase remaining =
    with_running s
    (record {
      cell = s.running.cell;
      phase = phase;
      remaining = remaining;
      loops = s.running.loops;
      at_speed = false;
    })
