-- Taking a cell keeps a state sound, code by code.
-- Assumes nothing.
use Prim.Native.Nat.{ℕ, ◌-◌, ◌≤◌}
use native.Mathlib.Omega.{arith}
use mathlib.Core.Path.{◌≡◌, refl, ap, ◌∙◌}
use mathlib.Core.Bool.{Bool, true, false}
use mathlib.Core.List.{List}
use lib.IntN.{ℤ, nat_abs}
use lib.ListN.{length-set}
use borrow.Author.Tests.{leb-true, le-leb, eqb-false}
use Rattle.laws.specs.Tests.{choose, both}
use Rattle.laws.proofs.Tests.{choose-by, choose-true, choose-false, either-true-right}
use Rattle.fields.specs.Kinds.{valid}
use Rattle.fields.specs.declared.kinds.Kind.TheVariants.{Next}
use Rattle.units.specs.Limits.{step_limit, delay_limit, loop_limit}
use Rattle.units.specs.Remaining.{is_zero_of}
use Rattle.units.specs.Shift.{Within, shift_of, is_beyond_of}
use Rattle.units.specs.declared.CellAddress.{CellAddress}
use Rattle.units.specs.declared.Milliseconds.{Milliseconds}
use Rattle.units.specs.declared.Steps.{Steps}
use Rattle.units.specs.declared.position.Position.{Position}
use Rattle.units.proofs.Limits.{within-scaled, within-not-beyond}
use Rattle.instruction.specs.Codes.{code_of}
use Rattle.instruction.specs.Runs.{profile_of}
use Rattle.instruction.specs.Soundness.{cell_sound}
use Rattle.instruction.specs.declared.Cell.{Cell}
use Rattle.instruction.specs.declared.Instruction.{Instruction}
use Rattle.instruction.specs.declared.Instruction.TheVariants.{Null, IndexedRamp, IndexedRampFine, FreeRamp, FreeRampFine, Indexed, IndexedFine, Free, FreeFine, ZeroSearch, DelayedStop, CamSetting, OutputSetting, CounterReset, OpeningLoop, ClosingLoop, ConditionalJump, TimeDelay, Recovery, CurrentSetting}
use Rattle.instruction.specs.declared.run.Motion.{Motion}
use Rattle.instruction.specs.declared.run.Motion.TheVariants.{NoRun, IndexedRun, FreeRun, SearchRun, DelayedStopRun}
use Rattle.machine.specs.Record.{origin, with_loop_count, with_output}
use Rattle.machine.specs.Soundness.{is_cell, position_sound, loop_count_sound, is_nothing, is_steps, is_indexed, is_delay, run_phase, back_phase, has_phase, busy_remaining, at_speed_sound}
use Rattle.machine.specs.Starting.{advanced, entered}
use Rattle.machine.specs.Milliseconds.{present}
use Rattle.machine.specs.Taking.{take_closing_loop, take_conditional_jump, take_time_delay, begin_indexed, shift_for, take_indexed, take_free, take_search, take_motion, take_run, take}
use Rattle.machine.specs.declared.Remaining.{Remaining}
use Rattle.machine.specs.declared.Remaining.TheVariants.{Nothing}
use Rattle.machine.specs.declared.Phase.{Phase}
use Rattle.machine.specs.declared.Phase.TheVariants.{Run}
use Rattle.machine.specs.declared.State.{State}
use Rattle.machine.proofs.Cells.{cell-next, next-sound, SoundRun, run_sound, cam-cell, loop-cell, closing-cell, jump-cell, delay-cell, Memory, cell-sound}
use Rattle.machine.proofs.RemainingCounts.{within-steps, time-sound}
use Rattle.machine.proofs.Parts.{Parts, position-sound, outputs-sound, cam-sound}
use Rattle.machine.proofs.Going.{stopped-sound, counted-sound, advanced-sound, phase-sound, failed-sound}

-- a shift that runs is a rest: times m, or in absolute mode not beyond
shift-within :
    (n : Steps) (x : Bool) (p : Position) (absolute : Bool) → nat_abs n.0 ≤ step_limit →
    both absolute (is_beyond_of (shift_of n x absolute p)) ≡ false → Within (shift_of n x absolute p)
unfolding both shift_of choose
shift-within n x p true h t = within-not-beyond _ t
shift-within n x p false h t = within-scaled n x h

-- a run of any kind but an indexed one begins with no rest
run-remaining : (i : Instruction) (m : Motion) → (profile_of i).motion ≡ m → is_indexed m ≡ false → busy_remaining Run (profile_of i) Nothing ≡ true
unfolding busy_remaining is_nothing
run-remaining i m e t = choose-false _ _ _ (ap is_indexed e ∙ t)

-- an output set: the outputs keep their number
pub output-sound : {cells : List Cell} {s : State} → Parts cells s → (k : ℕ) (v : Bool) → Parts cells (with_output s k v)
output-sound {s = s} g k v = outputs-sound g _ (length-set s.outputs k v ∙ g.outputs)

-- a state at a cell that is taken
module _ {cells : List Cell} {s : State} (g : Parts cells s)
    (c : is_cell s.running.cell ≡ true) (l : loop_count_sound s.running.loops ≡ true) where
  pub entered-sound :
      {p : Phase} {r : Remaining} (i : Instruction) → (present cells s).instruction ≡ i → has_phase p i ≡ true →
      busy_remaining p (profile_of i) r ≡ true → at_speed_sound p (profile_of i) false ≡ true → Parts cells (entered s p r)
  entered-sound i e h r k = phase-sound g (record { cell = c; loops = l; phase = h; remaining = r; speed = k }) e

  -- a run with its mark clear
  pub run-begun :
      {r : Remaining} (i : Instruction) → (present cells s).instruction ≡ i → run_phase (profile_of i).motion ≡ true →
      busy_remaining Run (profile_of i) r ≡ true → Parts cells (entered s Run r)
  unfolding has_phase at_speed_sound
  run-begun i e h r = entered-sound i e h r (either-true-right _ _ refl)

  indexed-begun :
      (i : Instruction) (next : CellAddress) (z : ℤ) → (present cells s).instruction ≡ i → (profile_of i).motion ≡ IndexedRun →
      valid Next next.0 ≡ true → Within z → Parts cells (begin_indexed s z next)
  unfolding begin_indexed busy_remaining is_steps run_phase is_indexed
  indexed-begun i next z e m v w =
      choose-by (Parts cells) (is_zero_of _) (λ t. advanced-sound g next l v)
      (λ t. run-begun i e (ap run_phase m) (choose-true _ _ _ (ap is_indexed m) ∙ within-steps _ w t))

  taken-motion :
      (i : Instruction) (next : CellAddress) → (present cells s).instruction ≡ i → valid Next next.0 ≡ true → SoundRun (profile_of i) →
      (m : Motion) → (profile_of i).motion ≡ m → Parts cells (take_motion m s (profile_of i) next)
  unfolding take_motion take_indexed shift_for take_free take_search has_phase run_phase back_phase busy_remaining is_nothing is_indexed at_speed_sound
  taken-motion i next e v d NoRun m = advanced-sound g next l v
  taken-motion i next e v d IndexedRun m =
      choose-by (Parts cells) _ (λ t. failed-sound g c 50 refl refl refl)
      (λ t. indexed-begun i next _ e m v (shift-within _ _ _ s.presets.absolute d.small t))
  taken-motion i next e v d FreeRun m =
      choose-by (Parts cells) _ (λ t. advanced-sound g next l v) (λ t. run-begun i e (ap run_phase m) (run-remaining i FreeRun m refl))
  taken-motion i next e v d SearchRun m =
      choose-by (Parts cells) _ (λ t. entered-sound i e (ap back_phase m) refl refl)
      (λ t. run-begun i e (ap run_phase m) (run-remaining i SearchRun m refl))
  taken-motion i next e v d DelayedStopRun m =
      choose-by (Parts cells) _ (λ t. advanced-sound g next l v) (λ t. run-begun i e (ap run_phase m) (run-remaining i DelayedStopRun m refl))

  -- 01: "Runs: x4 with RS not D2, D3, B2, B3 is error 51"
  taken-run :
      (i : Instruction) (next : CellAddress) → (present cells s).instruction ≡ i →
      cell_sound (record { instruction = i; next = next }) ≡ true → Parts cells (take_run s (profile_of i) next)
  unfolding take_run
  taken-run i next e t =
      choose-by (Parts cells) _ (λ t. failed-sound g c 51 refl refl refl)
      (λ u. taken-motion i next e (next-sound _ t) (run_sound _ t) (profile_of i).motion refl)

  -- 01: "62: count 0 is error 52; else one less, then DDD at 0, EEE otherwise"
  taken-loop :
      (jump next : CellAddress) → valid Next jump.0 ≡ true → valid Next next.0 ≡ true → Parts cells (take_closing_loop s jump next)
  unfolding take_closing_loop loop_count_sound
  taken-loop jump next j v =
      choose-by (Parts cells) _ (λ t. failed-sound g c 52 refl refl refl)
      (λ t. counted-sound g (with_loop_count s.running (s.running.loops - 1)) _
      (le-leb (s.running.loops - 1) loop_limit (omega (arith, leb-true s.running.loops loop_limit l)))
      (choose-by (λ (a : CellAddress). valid Next a.0 ≡ true) _ (λ u. v) (λ u. j)))

  -- 01: "63: EEE if II equals V, else DDD"
  taken-jump :
      (on : Bool) (jump next : CellAddress) → valid Next jump.0 ≡ true → valid Next next.0 ≡ true →
      Parts cells (advanced s (choose on jump next))
  taken-jump on jump next j v = advanced-sound g _ l (choose-by (λ (a : CellAddress). valid Next a.0 ≡ true) on (λ u. j) (λ u. v))

  -- 01: "65: a delay of nnn later milliseconds; 0 passes on"
  taken-delay :
      (n : Milliseconds) (next : CellAddress) → (present cells s).instruction ≡ TimeDelay n → n.0 ≤ delay_limit →
      valid Next next.0 ≡ true → Parts cells (take_time_delay s n next)
  unfolding take_time_delay has_phase is_delay code_of busy_remaining at_speed_sound
  taken-delay n next e h v =
      choose-by (Parts cells) _ (λ t. advanced-sound g next l v)
      (λ t. entered-sound (TimeDelay n) e refl (time-sound n.0 (omega (arith, eqb-false)) (omega arith)) refl)

  taken-code :
      (i : Instruction) (next : CellAddress) → (present cells s).instruction ≡ i →
      cell_sound (record { instruction = i; next = next }) ≡ true → valid Next next.0 ≡ true → Parts cells (take s i next)
  unfolding take take_conditional_jump
  taken-code Null next e t v = advanced-sound g next l v
  taken-code (CamSetting b p) next e t v = advanced-sound (cam-sound g _ (cam-cell next b p t)) next l v
  taken-code (OutputSetting o b) next e t v = advanced-sound (output-sound g _ b) next l v
  taken-code CounterReset next e t v = advanced-sound (position-sound g origin (unfold position_sound in refl)) next l v
  taken-code (CurrentSetting b) next e t v = advanced-sound (output-sound g _ b) next l v
  taken-code (OpeningLoop n) next e t v = counted-sound g (with_loop_count s.running n) next (loop-cell next n t) v
  taken-code (ClosingLoop j) next e t v = taken-loop j next (cell-next j (closing-cell next j t)) v
  taken-code (ConditionalJump i b j) next e t v = taken-jump _ j next (cell-next j (jump-cell next i b j t)) v
  taken-code (TimeDelay n) next e t v = taken-delay n next e (delay-cell next n t) v
  taken-code Recovery next e t v = stopped-sound g
  taken-code (IndexedRamp f r x n) next e t v = taken-run _ next e t
  taken-code (IndexedRampFine f r x n) next e t v = taken-run _ next e t
  taken-code (FreeRamp f r b x) next e t v = taken-run _ next e t
  taken-code (FreeRampFine f r b x) next e t v = taken-run _ next e t
  taken-code (Indexed f x n) next e t v = taken-run _ next e t
  taken-code (IndexedFine x f n) next e t v = taken-run _ next e t
  taken-code (Free f b x) next e t v = taken-run _ next e t
  taken-code (FreeFine b x f) next e t v = taken-run _ next e t
  taken-code (ZeroSearch f r b k) next e t v = taken-run _ next e t
  taken-code (DelayedStop f r b n) next e t v = taken-run _ next e t

  -- the present cell is taken
  pub take-sound : Memory cells → Parts cells (take s (present cells s).instruction (present cells s).next)
  unfolding present
  take-sound m =
      let t = cell-sound m s.running.cell c in
      taken-code (present cells s).instruction (present cells s).next refl t (next-sound _ t)
