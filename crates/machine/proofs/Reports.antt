-- At-speed and halted keep a state sound.
-- Assumes nothing.
use mathlib.Core.Path.{◌≡◌, refl, ap}
use mathlib.Core.Bool.{Bool, true, false}
use mathlib.Core.List.{List}
use Rattle.laws.specs.Tests.{choose}
use Rattle.laws.proofs.Tests.{choose-by, either-true-left}
use Rattle.instruction.specs.declared.Cell.{Cell}
use Rattle.instruction.specs.declared.run.Motion.{Motion}
use Rattle.instruction.specs.declared.run.Motion.TheVariants.{NoRun, IndexedRun, FreeRun, SearchRun, DelayedStopRun}
use Rattle.instruction.specs.declared.run.Profile.{Profile}
use Rattle.machine.specs.Soundness.{is_nothing, is_indexed, has_ramp, back_phase, has_phase, emergency_remaining, busy_remaining, at_speed_sound, is_waiting}
use Rattle.machine.specs.Milliseconds.{present}
use Rattle.machine.specs.Reports.{runs_or_brakes, takes_at_speed, takes_at_speed_at, takes_at_speed_in, at_speed, halted_slowing, halted_emergency, halted_in, halted_at, halted}
use Rattle.machine.specs.declared.Phase.{Phase}
use Rattle.machine.specs.declared.Phase.TheVariants.{Waiting, Delay, Run, Braking, Slowing, EmergencySlowing, BackOff}
use Rattle.machine.specs.declared.State.{State}
use Rattle.machine.proofs.Tests.{clash}
use Rattle.machine.proofs.Cells.{Memory}
use Rattle.machine.proofs.RemainingCounts.{nothing-suspended, steps-suspended}
use Rattle.machine.proofs.Parts.{Parts, BusyIn, run_of, phase-busy}
use Rattle.machine.proofs.Going.{phase-sound, goes_on, interrupted-sound, abandoned-sound}
use Rattle.machine.proofs.Taking.{entered-sound}

-- a mark is set where there is a ramp
ramp-speed : (p : Phase) (r : Profile) → choose (runs_or_brakes p) (has_ramp r) false ≡ true → at_speed_sound p r true ≡ true
unfolding choose at_speed_sound
ramp-speed Waiting r t = clash t
ramp-speed Delay r t = clash t
ramp-speed Run r t = either-true-left _ _ t
ramp-speed Braking r t = refl
ramp-speed Slowing r t = refl
ramp-speed EmergencySlowing r t = refl
ramp-speed BackOff r t = clash t

speed-busy : (p : Phase) (b : Bool) → choose (runs_or_brakes p) b false ≡ true → is_waiting p ≡ false
unfolding choose
speed-busy Waiting b t = clash t
speed-busy Delay b t = refl
speed-busy Run b t = refl
speed-busy Braking b t = refl
speed-busy Slowing b t = refl
speed-busy EmergencySlowing b t = refl
speed-busy BackOff b t = refl

-- 01: "At-speed sets the mark"
pub speed-sound : {cells : List Cell} {s : State} → Parts cells s → takes_at_speed cells s ≡ true → Parts cells (at_speed s)
unfolding takes_at_speed takes_at_speed_at takes_at_speed_in has_ramp
speed-sound {s = s} g t =
    let b = phase-busy g (speed-busy s.running.phase _ t) in
    phase-sound g
    (record { cell = b.cell; loops = b.loops; phase = b.phase; remaining = b.remaining; speed = ramp-speed s.running.phase _ t }) refl

module _ {cells : List Cell} (m : Memory cells) {s : State} (g : Parts cells s) where
  -- 01: "02, 32 slow until halted, then pass on"; 03 then goes back
  halted-slowing :
      BusyIn cells s Slowing → (k : Motion) → (run_of cells s).motion ≡ k →
      Parts cells (halted_slowing k s (present cells s).next)
  unfolding halted_slowing has_phase back_phase busy_remaining is_nothing at_speed_sound
  halted-slowing b NoRun e = goes_on m g b
  halted-slowing b IndexedRun e = goes_on m g b
  halted-slowing b FreeRun e = goes_on m g b
  halted-slowing b SearchRun e =
      choose-by (Parts cells) _ (λ t. entered-sound g b.cell b.loops _ refl (ap back_phase e) refl refl) (λ t. goes_on m g b)
  halted-slowing b DelayedStopRun e = goes_on m g b

  -- 01: "the record is cell, rest .., loop count; after a 05 under way it is empty"
  halted-emergency :
      BusyIn cells s EmergencySlowing → (k : Motion) → (run_of cells s).motion ≡ k →
      emergency_remaining k (run_of cells s) s.running.remaining ≡ true → Parts cells (halted_emergency k s)
  unfolding halted_emergency emergency_remaining is_indexed
  halted-emergency b NoRun e r = interrupted-sound g b.cell b.loops (nothing-suspended _ _ r)
  halted-emergency b IndexedRun e r = interrupted-sound g b.cell b.loops (steps-suspended _ _ r (ap is_indexed e))
  halted-emergency b FreeRun e r = interrupted-sound g b.cell b.loops (nothing-suspended _ _ r)
  halted-emergency b SearchRun e r = interrupted-sound g b.cell b.loops (nothing-suspended _ _ r)
  halted-emergency b DelayedStopRun e r = abandoned-sound g

  halted-in :
      (p : Phase) → (is_waiting p ≡ false → BusyIn cells s p) →
      Parts cells (halted_in p (run_of cells s).motion s (present cells s).next)
  unfolding halted_in busy_remaining
  halted-in Waiting b = g
  halted-in Delay b = g
  halted-in Run b = g
  halted-in Braking b = g
  halted-in Slowing b = halted-slowing (b refl) _ refl
  halted-in EmergencySlowing b = halted-emergency (b refl) _ refl (b refl).remaining
  halted-in BackOff b = g

  pub halted-sound : Parts cells (halted cells s)
  unfolding halted halted_at
  halted-sound = halted-in s.running.phase (phase-busy g)
