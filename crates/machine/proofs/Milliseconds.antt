-- A millisecond keeps a state sound: a cell taken, a program resumed, a delay counted down; and so do the milliseconds of a wait.
-- Assumes nothing.
use Prim.Native.Nat.{ℕ, zero, suc, ◌-◌}
use native.Mathlib.Omega.{arith}
use mathlib.Core.Path.{◌≡◌, refl, sym, ◌∙◌}
use mathlib.Core.Bool.{Bool, true, false}
use mathlib.Core.List.{List}
use lib.Dec.{eqb}
use borrow.Author.Tests.{leb-false}
use Rattle.laws.proofs.Tests.{both_left, both_right, choose-by, choose-true, choose-false}
use Rattle.instruction.specs.declared.Cell.{Cell}
use Rattle.instruction.specs.declared.run.Motion.{Motion}
use Rattle.instruction.specs.declared.run.Motion.TheVariants.{NoRun, IndexedRun, FreeRun, SearchRun, DelayedStopRun}
use Rattle.machine.specs.Record.{cell_at, idle}
use Rattle.machine.specs.Soundness.{is_cell, loop_count_sound, is_steps, is_time, is_indexed, suspended_remaining, suspended_sound, run_phase, has_phase, busy_remaining, at_speed_sound}
use Rattle.machine.specs.Milliseconds.{present, held, count_down, millisecond_in, millisecond_at, millisecond}
use Rattle.machine.specs.Taking.{resume, restored, recover, take_cell}
use Rattle.machine.specs.Waiting.{settled, wait_from, wait}
use Rattle.machine.specs.declared.Remaining.{Remaining}
use Rattle.machine.specs.declared.Remaining.TheVariants.{Nothing, Counted, Timed}
use Rattle.machine.specs.declared.Phase.{Phase}
use Rattle.machine.specs.declared.Phase.TheVariants.{Waiting, Delay, Run, Braking, Slowing, EmergencySlowing, BackOff}
use Rattle.machine.specs.declared.State.{State}
use Rattle.machine.proofs.Tests.{clash, second}
use Rattle.machine.proofs.Cells.{Memory}
use Rattle.machine.proofs.RemainingCounts.{time-sound, time-within}
use Rattle.machine.proofs.Parts.{Parts, BusyIn, running-busy}
use Rattle.machine.proofs.Going.{stopped-sound, waiting-sound, phase-sound, goes_on, failed-sound, emptied-sound}
use Rattle.machine.proofs.Taking.{entered-sound, run-begun, take-sound}

indexed-runs : (m : Motion) → is_indexed m ≡ true → run_phase m ≡ true
unfolding is_indexed run_phase
indexed-runs NoRun t = clash t
indexed-runs IndexedRun t = refl
indexed-runs FreeRun t = refl
indexed-runs SearchRun t = refl
indexed-runs DelayedStopRun t = refl

module _ {cells : List Cell} (m : Memory cells) {s : State} (g : Parts cells s) where
  -- 01, of 69: "resumed in the same millisecond, with its rest as shift or delay .., or taken anew if rest is 0"
  resume-sound :
      (c : is_cell s.suspended.cell ≡ true) (l : loop_count_sound s.suspended.loops ≡ true) (r : Remaining) →
      suspended_remaining r (cell_at cells s.suspended.cell).instruction ≡ true →
      Parts cells (resume r (restored s) (cell_at cells s.suspended.cell))
  unfolding resume present suspended_remaining has_phase busy_remaining is_steps is_time at_speed_sound
  resume-sound c l Nothing t = take-sound (waiting-sound (emptied-sound g) _ _ c l) c l m
  resume-sound c l (Counted n) t =
      let q = waiting-sound (emptied-sound g) _ _ c l in
      choose-by (Parts cells) _ (λ u. failed-sound q c 51 refl refl refl)
      (λ u. run-begun q c l _ refl (indexed-runs _ (both_left _ _ t)) (choose-true _ _ _ (both_left _ _ t) ∙ both_right _ _ t))
  resume-sound c l (Timed n) t =
      entered-sound (waiting-sound (emptied-sound g) _ _ c l) c l _ refl (both_left _ _ t) (both_right _ _ t) refl

  -- 01: "69: empty record ends the program"
  recover-sound : Parts cells (recover s (held cells s))
  unfolding recover held suspended_sound
  recover-sound =
      choose-by (Parts cells) (eqb s.suspended.cell.0 0) (λ t. stopped-sound g)
      (λ t. let u = sym (choose-false _ _ _ t) ∙ g.suspended in
      resume-sound (both_left _ _ u) (second _ _ _ u) s.suspended.remaining (both_right _ _ (both_right _ _ u)))

  delay-sound : (r : Remaining) → is_time r ≡ true → BusyIn cells s Delay → Parts cells (count_down r s (present cells s).next)
  unfolding count_down is_time busy_remaining
  delay-sound Nothing t b = g
  delay-sound (Counted n) t b = g
  delay-sound (Timed n) t b =
      choose-by (Parts cells) _ (λ u. goes_on m g b)
      (λ u. let k = time-within n t in
      phase-sound g
      (record {
        cell = b.cell;
        loops = b.loops;
        phase = b.phase;
        remaining = time-sound (n.0 - 1) (omega (arith, leb-false)) (omega arith);
        speed = b.speed;
      }) refl)

  millisecond-in : (p : Phase) → BusyIn cells s p → Parts cells (millisecond_in p s (present cells s) (held cells s))
  unfolding millisecond_in take_cell busy_remaining
  millisecond-in Waiting b = choose-by (Parts cells) _ (λ t. recover-sound) (λ t. take-sound g b.cell b.loops m)
  millisecond-in Delay b = delay-sound s.running.remaining b.remaining b
  millisecond-in Run b = g
  millisecond-in Braking b = g
  millisecond-in Slowing b = g
  millisecond-in EmergencySlowing b = g
  millisecond-in BackOff b = g

  -- 01: "Each millisecond outside a run or delay takes the present cell"
  pub millisecond-sound : Parts cells (millisecond cells s)
  unfolding millisecond millisecond_at
  millisecond-sound = choose-by (Parts cells) (idle s) (λ t. g) (λ t. millisecond-in s.running.phase (running-busy g t))

waits-sound : {cells : List Cell} → Memory cells → (n : ℕ) (b : Bool) (s : State) → Parts cells s → Parts cells (wait_from n b cells s).last
unfolding wait_from
waits-sound m zero b s g = g
waits-sound m (suc n) true s g = g
waits-sound {cells} m (suc n) false s g = waits-sound m n (settled (millisecond cells s)) (millisecond cells s) (millisecond-sound m g)

-- 01: "the drive being as after that many"
pub wait-sound : {cells : List Cell} → Memory cells → (n : ℕ) {s : State} → Parts cells s → Parts cells (wait n cells s).last
unfolding wait
wait-sound m n {s} g = waits-sound m _ _ s g
