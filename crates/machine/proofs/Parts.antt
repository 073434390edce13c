-- A sound state, part by part, with a part replaced by another sound one; a busy state; a sound drive.
-- Assumes nothing.
use Prim.Native.Nat.{ℕ}
use mathlib.Core.Path.{◌≡◌, sym, ◌∙◌}
use mathlib.Core.Bool.{Bool, true, false}
use mathlib.Core.List.{List}
use lib.ListN.{length}
use Rattle.laws.proofs.Tests.{both_left, both_right, both_true, choose-true, choose-false}
use Rattle.units.specs.declared.CellAddress.{CellAddress}
use Rattle.units.specs.declared.position.Position.{Position}
use Rattle.instruction.specs.Runs.{profile_of}
use Rattle.instruction.specs.declared.Cell.{Cell}
use Rattle.instruction.specs.declared.Instruction.{Instruction}
use Rattle.instruction.specs.declared.run.Profile.{Profile}
use Rattle.machine.specs.Record.{cell_at, state_of, with_presets, with_position, with_inputs, with_outputs, with_cam, with_fault, with_suspended, with_running, with_state, idle}
use Rattle.machine.specs.Soundness.{presets_sound, is_cell, position_sound, cam_sound, fault_sound, loop_count_sound, suspended_sound, has_phase, busy_remaining, at_speed_sound, is_waiting, resting_sound, busy_sound, running_sound, state_sound}
use Rattle.machine.specs.Milliseconds.{present}
use Rattle.machine.specs.declared.Presets.{Presets}
use Rattle.machine.specs.declared.Cam.{Cam}
use Rattle.machine.specs.declared.Fault.{Fault}
use Rattle.machine.specs.declared.Remaining.{Remaining}
use Rattle.machine.specs.declared.Suspended.{Suspended}
use Rattle.machine.specs.declared.Phase.{Phase}
use Rattle.machine.specs.declared.Running.{Running}
use Rattle.machine.specs.declared.State.{State}
use Rattle.machine.specs.declared.Machine.{Machine}
use Rattle.machine.proofs.Tests.{clash, by-test, second, third, fourth, fifth}
use Rattle.machine.proofs.Cells.{cell-nonzero, Memory}

-- ---- a sound state

-- the eight parts of the record
pub record Parts (cells : List Cell) (s : State) : Type 0 where
  pub presets : presets_sound s.presets ≡ true
  pub position : position_sound s.position ≡ true
  pub inputs : length s.inputs ≡ 11
  pub outputs : length s.outputs ≡ 14
  pub cam : cam_sound s.cam ≡ true
  pub fault : fault_sound s.fault ≡ true
  pub suspended : suspended_sound cells s.suspended ≡ true
  pub running : running_sound cells s.running ≡ true

pub parts-state : {cells : List Cell} {s : State} → Parts cells s → state_sound cells s ≡ true
unfolding state_sound
parts-state g =
    both_true g.presets (both_true g.position (both_true g.cam (both_true g.fault (both_true g.suspended g.running))))

pub state-parts :
    (cells : List Cell) (s : State) → length s.inputs ≡ 11 → length s.outputs ≡ 14 → state_sound cells s ≡ true → Parts cells s
unfolding state_sound
state-parts cells s i o t =
    record {
      presets = both_left _ _ t;
      position = second _ _ _ t;
      inputs = i;
      outputs = o;
      cam = third _ _ _ _ t;
      fault = fourth _ _ _ _ _ t;
      suspended = fifth _ _ _ _ _ _ t;
      running = both_right _ _ (both_right _ _ (both_right _ _ (both_right _ _ (both_right _ _ t))));
    }

-- a state by its parts, in the order of the record
pub parts-of :
    {cells : List Cell} {p : Presets} {x : Position} {i o : List Bool} {c : Cam} {f : Fault} {h : Suspended} {r : Running} →
    presets_sound p ≡ true → position_sound x ≡ true → length i ≡ 11 → length o ≡ 14 → cam_sound c ≡ true → fault_sound f ≡ true →
    suspended_sound cells h ≡ true → running_sound cells r ≡ true → Parts cells (state_of p x i o c f h r)
parts-of p x i o c f h r =
    record { presets = p; position = x; inputs = i; outputs = o; cam = c; fault = f; suspended = h; running = r }

-- one part replaced
module _ {cells : List Cell} {s : State} (g : Parts cells s) where
  pub presets-sound : (x : Presets) → presets_sound x ≡ true → Parts cells (with_presets s x)
  presets-sound x t = parts-of t g.position g.inputs g.outputs g.cam g.fault g.suspended g.running

  pub position-sound : (x : Position) → position_sound x ≡ true → Parts cells (with_position s x)
  position-sound x t = parts-of g.presets t g.inputs g.outputs g.cam g.fault g.suspended g.running

  pub inputs-sound : (x : List Bool) → length x ≡ 11 → Parts cells (with_inputs s x)
  inputs-sound x t = parts-of g.presets g.position t g.outputs g.cam g.fault g.suspended g.running

  pub outputs-sound : (x : List Bool) → length x ≡ 14 → Parts cells (with_outputs s x)
  outputs-sound x t = parts-of g.presets g.position g.inputs t g.cam g.fault g.suspended g.running

  pub cam-sound : (x : Cam) → cam_sound x ≡ true → Parts cells (with_cam s x)
  cam-sound x t = parts-of g.presets g.position g.inputs g.outputs t g.fault g.suspended g.running

  pub fault-sound : (x : Fault) → fault_sound x ≡ true → Parts cells (with_fault s x)
  fault-sound x t = parts-of g.presets g.position g.inputs g.outputs g.cam t g.suspended g.running

  pub suspended-sound : (x : Suspended) → suspended_sound cells x ≡ true → Parts cells (with_suspended s x)
  suspended-sound x t = parts-of g.presets g.position g.inputs g.outputs g.cam g.fault t g.running

  pub running-sound : (x : Running) → running_sound cells x ≡ true → Parts cells (with_running s x)
  running-sound x t = parts-of g.presets g.position g.inputs g.outputs g.cam g.fault g.suspended t

-- ---- a busy state

-- a cell a whose instruction is i, in phase p, with rest r, loop count n and mark k
pub record Busy (i : Instruction) (a : CellAddress) (p : Phase) (r : Remaining) (n : ℕ) (k : Bool) : Type 0 where
  pub cell : is_cell a ≡ true
  pub loops : loop_count_sound n ≡ true
  pub phase : has_phase p i ≡ true
  pub remaining : busy_remaining p (profile_of i) r ≡ true
  pub speed : at_speed_sound p (profile_of i) k ≡ true

-- the run of the present cell
abbrev pub run_of : List Cell → State → Profile
run_of cells s = profile_of (present cells s).instruction

-- the present cell of a state, in its phase
abbrev pub BusyIn : List Cell → State → Phase → Type 0
BusyIn cells s p =
    Busy (present cells s).instruction s.running.cell p s.running.remaining s.running.loops s.running.at_speed

pub busy-running :
    (cells : List Cell) {i : Instruction} {a : CellAddress} {p : Phase} {r : Remaining} {n : ℕ} {k : Bool} → Busy i a p r n k →
    (cell_at cells a).instruction ≡ i →
    running_sound cells (record { cell = a; phase = p; remaining = r; loops = n; at_speed = k }) ≡ true
unfolding running_sound busy_sound
busy-running cells {a = a} b e =
    choose-false _ _ _ (cell-nonzero a b.cell)
    ∙ rw e (both_true b.cell (both_true b.loops (both_true b.phase (both_true b.remaining b.speed))))

-- a sound state that is not idle
pub running-busy : {cells : List Cell} {s : State} → Parts cells s → idle s ≡ false → BusyIn cells s s.running.phase
unfolding running_sound busy_sound idle present
running-busy g f =
    let t = sym (choose-false _ _ _ f) ∙ g.running in
    record {
      cell = both_left _ _ t;
      loops = second _ _ _ t;
      phase = third _ _ _ _ t;
      remaining = fourth _ _ _ _ _ t;
      speed = both_right _ _ (both_right _ _ (both_right _ _ (both_right _ _ t)));
    }

-- 01: "Idle, these five are zero"
pub idle-resting : {cells : List Cell} {s : State} → Parts cells s → idle s ≡ true → resting_sound s.running ≡ true
unfolding running_sound idle
idle-resting g t = sym (choose-true _ _ _ t) ∙ g.running

-- outside waiting a sound state is busy
pub phase-busy : {cells : List Cell} {s : State} → Parts cells s → is_waiting s.running.phase ≡ false → BusyIn cells s s.running.phase
unfolding resting_sound
phase-busy {s = s} g w = running-busy g (by-test (idle s) (λ t. clash (sym w ∙ both_left _ _ (idle-resting g t))) (λ t. t))

-- ---- a sound drive

-- its memory and its state
pub record Whole (m : Machine) : Type 0 where
  pub memory : Memory m.cells
  pub parts : Parts m.cells m.state

-- the same memory with another state
pub state-whole : (m : Machine) {s : State} → Whole m → Parts m.cells s → Whole (with_state m s)
state-whole m w g = record { memory = w.memory; parts = g }
