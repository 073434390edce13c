-- The free run stop, PX and the emergency stop keep a state sound.
-- Assumes nothing.
use mathlib.Core.Path.{◌≡◌, refl, ap, ◌∙◌}
use mathlib.Core.Bool.{Bool, true, false, not}
use mathlib.Core.List.{List}
use Rattle.laws.specs.Tests.{choose}
use Rattle.laws.proofs.Tests.{choose-by, either-true-left, either-true-right}
use Rattle.instruction.specs.declared.Cell.{Cell}
use Rattle.instruction.specs.declared.run.Motion.{Motion}
use Rattle.instruction.specs.declared.run.Motion.TheVariants.{NoRun, IndexedRun, FreeRun, SearchRun, DelayedStopRun}
use Rattle.instruction.specs.declared.run.Profile.{Profile}
use Rattle.machine.specs.Record.{idle}
use Rattle.machine.specs.Soundness.{is_nothing, is_steps, is_steps_along, is_indexed, has_ramp, braking_phase, slowing_phase, back_phase, has_phase, emergency_remaining, busy_remaining, at_speed_sound, is_waiting}
use Rattle.machine.specs.Milliseconds.{present}
use Rattle.machine.specs.Stopping.{free_run_stop_of, free_run_stop_in, free_run_stop_at, free_run_stop, px_in_run, px_seen_in, px_seen_at, px_seen, emergency_slowed, emergency_in, emergency_stop_at, emergency_stop}
use Rattle.machine.specs.declared.Remaining.{Remaining}
use Rattle.machine.specs.declared.Phase.{Phase}
use Rattle.machine.specs.declared.Phase.TheVariants.{Waiting, Delay, Run, Braking, Slowing, EmergencySlowing, BackOff}
use Rattle.machine.specs.declared.State.{State}
use Rattle.machine.proofs.Tests.{clash}
use Rattle.machine.proofs.Cells.{SoundRun, Memory}
use Rattle.machine.proofs.RemainingCounts.{braking-along, nothing-suspended, time-suspended, run-suspended}
use Rattle.machine.proofs.Parts.{Parts, BusyIn, run_of, running-busy, phase-busy}
use Rattle.machine.proofs.Going.{stopped-sound, phase-sound, goes_on, present-run, interrupted-sound}

-- ---- the rest in emergency slowing

-- a run slows with what it had
run-emergency : (m : Motion) (p : Profile) (r : Remaining) → choose (is_indexed m) (is_steps r) (is_nothing r) ≡ true → emergency_remaining m p r ≡ true
unfolding is_indexed choose emergency_remaining
run-emergency NoRun p r t = t
run-emergency IndexedRun p r t = t
run-emergency FreeRun p r t = t
run-emergency SearchRun p r t = t
run-emergency DelayedStopRun p r t = either-true-left _ _ t

braking-emergency :
    (m : Motion) (p : Profile) (r : Remaining) → braking_phase m ≡ true → is_steps_along p.backward r ≡ true → emergency_remaining m p r ≡ true
unfolding braking_phase emergency_remaining
braking-emergency NoRun p r b t = clash b
braking-emergency IndexedRun p r b t = clash b
braking-emergency FreeRun p r b t = clash b
braking-emergency SearchRun p r b t = clash b
braking-emergency DelayedStopRun p r b t = either-true-right _ _ t

slowing-emergency : (m : Motion) (p : Profile) (r : Remaining) → slowing_phase m p ≡ true → is_nothing r ≡ true → emergency_remaining m p r ≡ true
unfolding slowing_phase emergency_remaining
slowing-emergency NoRun p r b t = clash b
slowing-emergency IndexedRun p r b t = clash b
slowing-emergency FreeRun p r b t = t
slowing-emergency SearchRun p r b t = t
slowing-emergency DelayedStopRun p r b t = clash b

-- 01: "slowing (02, 32, 03)": these have a ramp
slowing-ramp : (p : Profile) → SoundRun p → (m : Motion) → p.motion ≡ m → slowing_phase m p ≡ true → has_ramp p ≡ true
unfolding slowing_phase back_phase
slowing-ramp p d NoRun e t = clash t
slowing-ramp p d IndexedRun e t = clash t
slowing-ramp p d FreeRun e t = t
slowing-ramp p d SearchRun e t = d.ramped (either-true-right _ _ (ap back_phase e))
slowing-ramp p d DelayedStopRun e t = clash t

module _ {cells : List Cell} (m : Memory cells) {s : State} (g : Parts cells s) where
  -- ---- free run stop

  stop-of :
      BusyIn cells s Run → (k : Motion) → (run_of cells s).motion ≡ k →
      Parts cells (free_run_stop_of k s (run_of cells s) (present cells s).next)
  unfolding free_run_stop_of has_phase slowing_phase has_ramp braking_phase busy_remaining is_nothing at_speed_sound
  stop-of b NoRun e = g
  stop-of b IndexedRun e = g
  stop-of b FreeRun e =
      choose-by (Parts cells) _ (λ t. goes_on m g b)
      (λ t. phase-sound g
      (record {
        cell = b.cell;
        loops = b.loops;
        phase = ap (λ (k : Motion). slowing_phase k (run_of cells s)) e ∙ ap not t;
        remaining = refl;
        speed = refl;
      }) refl)
  stop-of b SearchRun e = g
  stop-of b DelayedStopRun e =
      choose-by (Parts cells) s.running.at_speed
      (λ t. phase-sound g
      (record {
        cell = b.cell;
        loops = b.loops;
        phase = ap braking_phase e;
        remaining = braking-along _ (present-run m s b) (ap braking_phase e);
        speed = t;
      }) refl)
      (λ t. g)

  stop-in :
      (p : Phase) → (is_waiting p ≡ false → BusyIn cells s p) →
      Parts cells (free_run_stop_in p s (run_of cells s) (present cells s).next)
  unfolding free_run_stop_in
  stop-in Waiting b = g
  stop-in Delay b = g
  stop-in Run b = stop-of (b refl) _ refl
  stop-in Braking b = g
  stop-in Slowing b = g
  stop-in EmergencySlowing b = g
  stop-in BackOff b = g

  pub stop-sound : Parts cells (free_run_stop cells s)
  unfolding free_run_stop free_run_stop_at
  stop-sound = stop-in s.running.phase (phase-busy g)

  -- ---- PX

  px-run : BusyIn cells s Run → (px : Bool) (k : Motion) → (run_of cells s).motion ≡ k → Parts cells (px_in_run k px s)
  unfolding px_in_run has_phase slowing_phase busy_remaining is_nothing at_speed_sound
  px-run b px NoRun e = g
  px-run b px IndexedRun e = g
  px-run b px FreeRun e = g
  px-run b px SearchRun e =
      choose-by (Parts cells) px
      (λ t. phase-sound g
      (record { cell = b.cell; loops = b.loops; phase = ap (λ (k : Motion). slowing_phase k (run_of cells s)) e; remaining = refl; speed = refl }) refl)
      (λ t. g)
  px-run b px DelayedStopRun e = g

  px-in :
      (px : Bool) (p : Phase) → (is_waiting p ≡ false → BusyIn cells s p) →
      Parts cells (px_seen_in p px s (run_of cells s) (present cells s).next)
  unfolding px_seen_in
  px-in px Waiting b = g
  px-in px Delay b = g
  px-in px Run b = px-run (b refl) px _ refl
  px-in px Braking b = g
  px-in px Slowing b = g
  px-in px EmergencySlowing b = g
  px-in px BackOff b = choose-by (Parts cells) px (λ t. g) (λ t. goes_on m g (b refl))

  pub px-sound : (px : Bool) → Parts cells (px_seen px cells s)
  unfolding px_seen px_seen_at
  px-sound px = px-in px s.running.phase (phase-busy g)

  -- ---- emergency stop

  -- slowing with all that the run has
  slowed-sound :
      {p : Phase} → BusyIn cells s p → has_ramp (run_of cells s) ≡ true →
      emergency_remaining (run_of cells s).motion (run_of cells s) s.running.remaining ≡ true →
      Parts cells (emergency_slowed s)
  unfolding has_phase busy_remaining at_speed_sound
  slowed-sound b h r = phase-sound g (record { cell = b.cell; loops = b.loops; phase = h; remaining = r; speed = refl }) refl

  emergency-in : (p : Phase) → BusyIn cells s p → Parts cells (emergency_in p s (present cells s))
  unfolding emergency_in has_phase busy_remaining has_ramp
  emergency-in Waiting b =
      choose-by (Parts cells) _ (λ t. stopped-sound g) (λ t. interrupted-sound g b.cell b.loops (nothing-suspended _ _ b.remaining))
  emergency-in Delay b = interrupted-sound g b.cell b.loops (time-suspended _ _ b.remaining b.phase)
  emergency-in Run b =
      choose-by (Parts cells) _ (λ t. interrupted-sound g b.cell b.loops (run-suspended _ _ b.remaining))
      (λ t. slowed-sound b (ap not t) (run-emergency _ _ _ b.remaining))
  emergency-in Braking b = slowed-sound b ((present-run m s b).ramped (either-true-left _ _ b.phase)) (braking-emergency _ _ _ b.phase b.remaining)
  emergency-in Slowing b = slowed-sound b (slowing-ramp _ (present-run m s b) _ refl b.phase) (slowing-emergency _ _ _ b.phase b.remaining)
  emergency-in EmergencySlowing b = g
  emergency-in BackOff b = interrupted-sound g b.cell b.loops (nothing-suspended _ _ b.remaining)

  -- 01: "a busy program ends"
  pub emergency-sound : Parts cells (emergency_stop cells s)
  unfolding emergency_stop emergency_stop_at
  emergency-sound = choose-by (Parts cells) (idle s) (λ t. g) (λ t. emergency-in s.running.phase (running-busy g t))
