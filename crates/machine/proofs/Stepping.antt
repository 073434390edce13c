-- A step keeps a state sound.
-- Assumes nothing.
use Prim.Native.Nat.{◌^◌}
use mathlib.Core.Path.{◌≡◌, refl, sym, ◌∙◌}
use mathlib.Core.Bool.{Bool, true, false, not}
use mathlib.Core.List.{List}
use mir.Facts.{Fits-of_z}
use borrow.Author.Tests.{lt-ltb}
use Rattle.laws.specs.Tests.{both, either}
use Rattle.laws.proofs.Tests.{choose-by, choose-true, choose-false}
use Rattle.units.specs.Position.{number_of, stepped_of}
use Rattle.units.specs.Remaining.{is_zero_of, nearer_of}
use Rattle.units.specs.declared.Steps.{Steps}
use Rattle.units.specs.declared.position.Position.{Position}
use Rattle.units.proofs.Stepping.{sfits-moved}
use Rattle.instruction.specs.declared.Cell.{Cell}
use Rattle.instruction.specs.declared.run.Motion.{Motion}
use Rattle.instruction.specs.declared.run.Motion.TheVariants.{NoRun, IndexedRun, FreeRun, SearchRun, DelayedStopRun}
use Rattle.instruction.specs.declared.run.Profile.{Profile}
use Rattle.machine.specs.Record.{moving, under_way}
use Rattle.machine.specs.Soundness.{position_sound, cam_sound, is_nothing, is_steps, is_time, is_indexed, emergency_remaining, busy_remaining, is_waiting}
use Rattle.machine.specs.Milliseconds.{present}
use Rattle.machine.specs.Stepping.{runs_backward, cam_tested, moved_by, arrived_in, counted, step_at, step}
use Rattle.machine.specs.declared.Remaining.{Remaining}
use Rattle.machine.specs.declared.Remaining.TheVariants.{Nothing, Counted, Timed}
use Rattle.machine.specs.declared.Phase.{Phase}
use Rattle.machine.specs.declared.Phase.TheVariants.{Waiting, Delay, Run, Braking, Slowing, EmergencySlowing, BackOff}
use Rattle.machine.specs.declared.State.{State}
use Rattle.machine.proofs.Tests.{clash, by-test}
use Rattle.machine.proofs.Cells.{Memory}
use Rattle.machine.proofs.RemainingCounts.{nearer-steps, nearer-along}
use Rattle.machine.proofs.Parts.{Parts, position-sound, cam-sound, BusyIn, run_of, phase-busy}
use Rattle.machine.proofs.Going.{phase-sound, goes_on, abandoned-sound}
use Rattle.machine.proofs.Taking.{output-sound}

-- 01: "past +2,147,483,647 comes −2,147,483,648, and back"
stepped-sound : (p : Position) (forward : Bool) → position_sound (stepped_of p forward) ≡ true
unfolding position_sound stepped_of
stepped-sound p forward = lt-ltb _ (2 ^ 32) (Fits-of_z (sfits-moved (number_of p) forward)).fits

-- ---- what remains

nearer-emergency :
    (m : Motion) (p : Profile) (n : Steps) → emergency_remaining m p (Counted n) ≡ true → is_zero_of (nearer_of n) ≡ false →
    emergency_remaining m p (Counted (nearer_of n)) ≡ true
unfolding emergency_remaining is_nothing is_steps either
nearer-emergency NoRun p n t z = clash t
nearer-emergency IndexedRun p n t z = nearer-steps n t z
nearer-emergency FreeRun p n t z = clash t
nearer-emergency SearchRun p n t z = clash t
nearer-emergency DelayedStopRun p n t z = nearer-along p.backward n t z

-- 01: "A rest of steps has the sign of its direction and loses one at each step"
nearer-remaining :
    (a : Phase) (p : Profile) (n : Steps) → busy_remaining a p (Counted n) ≡ true → is_zero_of (nearer_of n) ≡ false →
    busy_remaining a p (Counted (nearer_of n)) ≡ true
unfolding busy_remaining is_nothing is_steps is_time
nearer-remaining Waiting p n t z = clash t
nearer-remaining Delay p n t z = clash t
nearer-remaining Run p n t z =
    by-test (is_indexed p.motion) (λ e. choose-true _ _ _ e ∙ nearer-steps n (sym (choose-true _ _ _ e) ∙ t) z)
    (λ e. clash (sym (choose-false _ _ _ e) ∙ t))
nearer-remaining Braking p n t z = nearer-along p.backward n t z
nearer-remaining Slowing p n t z = clash t
nearer-remaining EmergencySlowing p n t z = nearer-emergency p.motion p n t z
nearer-remaining BackOff p n t z = clash t

-- ---- a step

moving-busy : (p : Phase) → under_way p ≡ true → is_waiting p ≡ false
moving-busy Waiting t = clash t
moving-busy Delay t = refl
moving-busy Run t = refl
moving-busy Braking t = refl
moving-busy Slowing t = refl
moving-busy EmergencySlowing t = refl
moving-busy BackOff t = refl

module _ {cells : List Cell} (m : Memory cells) {s : State} (g : Parts cells s) where
  -- 01: "if a rest reaches 0 meanwhile, the drive is idle with that step and the record empty"
  arrived-sound : (p : Phase) → BusyIn cells s p → Parts cells (arrived_in p s (present cells s).next)
  unfolding arrived_in
  arrived-sound Waiting b = goes_on m g b
  arrived-sound Delay b = goes_on m g b
  arrived-sound Run b = goes_on m g b
  arrived-sound Braking b = goes_on m g b
  arrived-sound Slowing b = goes_on m g b
  arrived-sound EmergencySlowing b = abandoned-sound g
  arrived-sound BackOff b = goes_on m g b

  steps-counted :
      (r : Remaining) → busy_remaining s.running.phase (run_of cells s) r ≡ true → BusyIn cells s s.running.phase →
      Parts cells (counted r s (present cells s).next)
  unfolding counted
  steps-counted Nothing t b = g
  steps-counted (Counted n) t b =
      choose-by (Parts cells) _ (λ z. arrived-sound s.running.phase b)
      (λ z. phase-sound g
      (record {
        cell = b.cell;
        loops = b.loops;
        phase = b.phase;
        remaining = nearer-remaining s.running.phase _ n t z;
        speed = b.speed;
      }) refl)
  steps-counted (Timed n) t b = g

-- 01: "A step moves the position by one"; "O3 is complemented and the cam unset (position 0)"
pub step-sound : {cells : List Cell} → Memory cells → {s : State} → Parts cells s → moving s ≡ true → Parts cells (step cells s)
unfolding step step_at moved_by cam_tested moving present cam_sound position_sound both either
step-sound {cells} m {s} g t =
    let b = phase-busy g (moving-busy s.running.phase t) in
    let q = position-sound g _ (stepped-sound s.position (not (runs_backward s (present cells s)))) in
    choose-by (λ (u : State). Parts cells (counted s.running.remaining u (present cells s).next)) _
    (λ u. steps-counted m (cam-sound (output-sound q _ _) _ refl) s.running.remaining b.remaining b)
    (λ u. steps-counted m q s.running.remaining b.remaining b)
