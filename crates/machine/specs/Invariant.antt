-- What every call keeps, as one statement.
-- Assumes nothing.
use Rattle.std.specs.Prelude.{ℕ, ◌≤◌, ◌≡◌, true, ◌≢◌, List, length}
use Rattle.instruction.specs.declared.Cell.{Cell}
use Rattle.machine.specs.Record.{fresh, idle, at_rest}
use Rattle.machine.specs.Soundness.{sound}
use Rattle.machine.specs.Waiting.{Least, wait}
use Rattle.machine.specs.Operations.Made.{Drive}
use Rattle.machine.specs.Images.{loaded_of}
use Rattle.machine.specs.Calls.{Call, apply, next}
use Rattle.machine.specs.declared.State.{State}
use Rattle.machine.specs.declared.Machine.{Machine}

-- sound, with the 131 cells, 11 inputs and 14 outputs that the record's arrays have
pub record Kept (m : Machine) : Type 0 where
  pub cells : length m.cells ≡ 131
  pub inputs : length m.state.inputs ≡ 11
  pub outputs : length m.state.outputs ≡ 14
  pub sound : sound m ≡ true

pub record Invariant : Type 0 where
  -- a fresh drive is sound
  pub begins : (a : ℕ) → a ≤ 47 → Kept (fresh (record { 0 = a }))
  -- 02, Slip 1: a loaded drive is sound, and "counts as fresh"
  pub loads : (image : List ℕ) (m : Machine) → loaded_of image ≡ Drive m → Kept m
  -- every call keeps a sound drive sound
  pub goes : (c : Call) (m : Machine) → Kept m → Kept (next c m)
  -- 01: "Every refusal hands back .. the drive as it came"
  pub refuses : (c : Call) (m : Machine) → (apply c m).refusal ≢ 0 → (apply c m).machine ≡ m
  -- 01: "Idle, these five are zero"
  pub rests : (m : Machine) → Kept m → idle m.state ≡ true → m.state.running ≡ at_rest
  -- 01: "That number is the least, from 0 to the budget, after which one of the three holds"
  pub waits : (budget : ℕ) (cells : List Cell) (s : State) → Least budget cells s (wait budget cells s)
