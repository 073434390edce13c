-- What every event is made of keeps a state sound: ending, going on to a cell, an error, another phase, an interruption.
-- Assumes nothing.
use Prim.Native.Nat.{ℕ}
use mathlib.Core.Path.{◌≡◌, refl, ◌∙◌}
use mathlib.Core.Bool.{Bool, true, false}
use mathlib.Core.List.{List}
use lib.Dec.{eqb, leb}
use Rattle.laws.specs.Tests.{choose, both}
use Rattle.laws.proofs.Tests.{both_true, choose-by, choose-false}
use Rattle.fields.specs.Kinds.{valid}
use Rattle.fields.specs.declared.kinds.Kind.TheVariants.{Next}
use Rattle.units.specs.declared.CellAddress.{CellAddress}
use Rattle.instruction.specs.declared.Cell.{Cell}
use Rattle.instruction.specs.declared.Instruction.{Instruction}
use Rattle.machine.specs.Record.{cell_at, no_fault, nothing_suspended, with_suspended, with_running, stopped}
use Rattle.machine.specs.Soundness.{is_cell, fault_sound, loop_count_sound, is_nothing, suspended_remaining, suspended_sound, has_phase, busy_remaining, at_speed_sound, resting_sound, running_sound}
use Rattle.machine.specs.Starting.{waiting_at, started, advanced, failed}
use Rattle.machine.specs.Milliseconds.{present}
use Rattle.machine.specs.Stopping.{suspended_of, interrupted, abandoned}
use Rattle.machine.specs.declared.Remaining.{Remaining}
use Rattle.machine.specs.declared.Remaining.TheVariants.{Nothing}
use Rattle.machine.specs.declared.Phase.{Phase}
use Rattle.machine.specs.declared.Phase.TheVariants.{Waiting}
use Rattle.machine.specs.declared.Running.{Running}
use Rattle.machine.specs.declared.State.{State}
use Rattle.machine.proofs.Cells.{next-cell, cell-nonzero, next-sound, SoundRun, run_sound, Memory, cell-sound}
use Rattle.machine.proofs.Parts.{Parts, fault-sound, suspended-sound, running-sound, Busy, BusyIn, run_of, busy-running}

module _ {cells : List Cell} {s : State} (g : Parts cells s) where
  -- 01: "Idle, these five are zero"
  pub stopped-sound : Parts cells (stopped s)
  unfolding running_sound choose resting_sound both is_nothing
  stopped-sound = running-sound g _ refl

  -- at a cell that is not yet taken, with the mark clear
  pub waiting-sound : (a : CellAddress) (n : ℕ) → is_cell a ≡ true → loop_count_sound n ≡ true → Parts cells (with_running s (waiting_at a n))
  waiting-sound a n c l = running-sound g (waiting_at a n) (busy-running cells waiting refl)
    where
      waiting : Busy (cell_at cells a).instruction a Waiting Nothing n false
      waiting =
          record {
            cell = c;
            loops = l;
            phase = unfold has_phase in refl;
            remaining = unfold busy_remaining is_nothing in refl;
            speed = unfold at_speed_sound in refl;
          }

  -- 01: "Next 000 ends: idle." The loop count may have changed before.
  pub counted-sound :
      (r : Running) (next : CellAddress) → loop_count_sound r.loops ≡ true → valid Next next.0 ≡ true →
      Parts cells (advanced (with_running s r) next)
  unfolding advanced
  counted-sound r next l v =
      choose-by (Parts cells) (eqb next.0 0) (λ t. stopped-sound)
      (λ t. waiting-sound next r.loops (next-cell next v t) l)

  pub advanced-sound :
      (next : CellAddress) → loop_count_sound s.running.loops ≡ true → valid Next next.0 ≡ true → Parts cells (advanced s next)
  advanced-sound next l v = counted-sound s.running next l v

  -- the present cell, whose instruction is i, in a phase with a rest and a mark
  pub phase-sound :
      {i : Instruction} {p : Phase} {r : Remaining} {k : Bool} → Busy i s.running.cell p r s.running.loops k →
      (present cells s).instruction ≡ i →
      Parts cells
      (with_running s
      (record { cell = s.running.cell; phase = p; remaining = r; loops = s.running.loops; at_speed = k }))
  unfolding present
  phase-sound b e = running-sound g _ (busy-running cells b e)

-- from the present cell to its next one
pub goes_on :
    {cells : List Cell} → Memory cells → {s : State} → Parts cells s → {p : Phase} → BusyIn cells s p →
    Parts cells (advanced s (present cells s).next)
unfolding present
goes_on m g b = advanced-sound g _ b.loops (next-sound _ (cell-sound m _ b.cell))

-- the run of the present cell
pub present-run : {cells : List Cell} → Memory cells → (s : State) {p : Phase} → BusyIn cells s p → SoundRun (run_of cells s)
unfolding present
present-run m s b = run_sound _ (cell-sound m _ b.cell)

-- 01: "clears the error and makes BBB .. the present cell"
pub started-sound : {cells : List Cell} {s : State} → Parts cells s → (a : CellAddress) → is_cell a ≡ true → Parts cells (started s a)
unfolding fault_sound choose loop_count_sound
started-sound g a c = waiting-sound (fault-sound g no_fault refl) a 0 c refl

-- 01: "an error is 0 with cell 0, or 50 to 52 with a cell"
pub failed-sound :
    {cells : List Cell} {s : State} → Parts cells s → is_cell s.running.cell ≡ true → (code : ℕ) →
    eqb code 0 ≡ false → leb 50 code ≡ true → leb code 52 ≡ true → Parts cells (failed s code)
unfolding fault_sound
failed-sound g c code z l h =
    stopped-sound (fault-sound g _ (choose-false _ _ _ z ∙ both_true (both_true l h) c))

-- 01: "the record is cell, rest .., loop count"
pub interrupted-sound :
    {cells : List Cell} {s : State} → Parts cells s → is_cell s.running.cell ≡ true → loop_count_sound s.running.loops ≡ true →
    suspended_remaining s.running.remaining (present cells s).instruction ≡ true → Parts cells (interrupted s)
unfolding suspended_sound present
interrupted-sound {s = s} g c l r =
    stopped-sound (suspended-sound g (suspended_of s.running) (choose-false _ _ _ (cell-nonzero _ c) ∙ both_true c (both_true l r)))

-- 01: "an empty record is three zeros"
pub emptied-sound : {cells : List Cell} {s : State} → Parts cells s → Parts cells (with_suspended s nothing_suspended)
unfolding suspended_sound choose both is_nothing
emptied-sound g = suspended-sound g nothing_suspended refl

pub abandoned-sound : {cells : List Cell} {s : State} → Parts cells s → Parts cells (abandoned s)
abandoned-sound g = stopped-sound (emptied-sound g)
