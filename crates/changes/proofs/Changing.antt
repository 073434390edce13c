-- The change that a cell or a millisecond makes is what `machine` defines: a state so changed is the one that `take` and `millisecond_at`
-- give, and a change is one of more exactly where a run begins and at a 69.
-- Assumes nothing.
use Prim.Native.Nat.{ℕ, ◌-◌, ◌<◌}
use native.Mathlib.Omega.{arith}
use mathlib.Core.Path.{◌≡◌, refl, sym, ap, ◌∙◌}
use mathlib.Core.Bool.{Bool, true, false}
use lib.Dec.{eqb, leb}
use Rattle.laws.specs.Tests.{choose, either, same}
use Rattle.laws.proofs.Tests.{choose-by, choose-false, choose-map, either_left}
use Rattle.units.specs.declared.CellAddress.{CellAddress}
use Rattle.units.specs.declared.Milliseconds.{Milliseconds}
use Rattle.instruction.specs.Codes.{code_of}
use Rattle.instruction.specs.Runs.{profile_of}
use Rattle.instruction.specs.Soundness.{cell_sound}
use Rattle.instruction.specs.declared.Cell.{Cell}
use Rattle.instruction.specs.declared.Instruction.{Instruction}
use Rattle.instruction.specs.declared.Instruction.TheVariants.{Null, IndexedRamp, IndexedRampFine, FreeRamp, FreeRampFine}
use Rattle.instruction.specs.declared.Instruction.TheVariants.{Indexed, IndexedFine, Free, FreeFine, ZeroSearch, DelayedStop}
use Rattle.instruction.specs.declared.Instruction.TheVariants.{CamSetting, OutputSetting, CounterReset, OpeningLoop, ClosingLoop}
use Rattle.instruction.specs.declared.Instruction.TheVariants.{ConditionalJump, TimeDelay, Recovery, CurrentSetting}
use Rattle.machine.specs.Record.{idle, origin, out_cu, with_cam, with_loop_count, with_output, with_position, with_running}
use Rattle.machine.specs.Starting.{advanced, failed}
use Rattle.machine.specs.Soundness.{run_phase}
use Rattle.machine.specs.Taking.{level_at, condition_at, take_closing_loop, take_conditional_jump, take_time_delay, take_run, take, is_recovery, take_cell}
use Rattle.machine.specs.Milliseconds.{count_down, millisecond_in, millisecond_at}
use Rattle.machine.specs.declared.Phase.{Phase}
use Rattle.machine.specs.declared.Phase.TheVariants.{Waiting, Delay, Run, Braking, Slowing, EmergencySlowing, BackOff}
use Rattle.machine.specs.declared.Remaining.{Remaining}
use Rattle.machine.specs.declared.Remaining.TheVariants.{Nothing, Counted, Timed}
use Rattle.machine.specs.declared.State.{State}
use Rattle.progress.specs.Passing.{passed_to}
use Rattle.progress.proofs.Passing.{passing}
use Rattle.changes.specs.Changes.{is_more, delay_of, changed_by, place_in, closing_loop, time_delay, change_of, taken_change}
use Rattle.changes.specs.Changes.{delay_change, change_in, next_change}
use Rattle.changes.specs.declared.Change.{Change}
use Rattle.changes.specs.declared.Change.TheVariants as change
use Rattle.changes.proofs.Cells.{output-place}

-- ---- taking a cell

-- going on with a loop count replaces the running part
passed_on :
    (s : State) (next : CellAddress) (n : ℕ) → with_running s (passed_to next n) ≡ advanced (with_running s (with_loop_count s.running n)) next
passed_on s next n = passing (with_running s (with_loop_count s.running n)) next

closing-changed :
    (s : State) (jump next : CellAddress) → changed_by (closing_loop s.running.loops jump next) s ≡ take_closing_loop s jump next
unfolding closing_loop take_closing_loop
closing-changed s jump next =
    let n = s.running.loops in
    choose-map (λ (x : Change). changed_by x s) (eqb n 0) (change.Fault 52) (change.Advance (choose (eqb n 1) next jump) (n - 1))
    ∙ ap (choose (eqb n 0) (failed s 52)) (passed_on s (choose (eqb n 1) next jump) (n - 1))

closing-plain : (n : ℕ) (jump next : CellAddress) → is_more (closing_loop n jump next) ≡ false
unfolding closing_loop
closing-plain n jump next = choose-by (λ (x : Change). is_more x ≡ false) _ (λ t. refl) (λ t. refl)

-- a delay that begins or goes on, or else the next cell
delay-or-next :
    (b m : Bool) (s : State) (n : Milliseconds) (next : CellAddress) →
    changed_by (choose b (change.Advance next s.running.loops) (change.Delay m n)) s
    ≡ choose b (advanced s next) (with_running s (delay_of s.running m n))
delay-or-next b m s n next =
    choose-map (λ (x : Change). changed_by x s) b (change.Advance next s.running.loops) (change.Delay m n)
    ∙ ap (λ (z : State). choose b z (with_running s (delay_of s.running m n))) (passing s next)

delay-changed : (s : State) (n : Milliseconds) (next : CellAddress) → changed_by (time_delay n s.running.loops next) s ≡ take_time_delay s n next
unfolding time_delay take_time_delay
delay-changed s n next = delay-or-next (eqb n.0 0) false s n next

delay-plain : (n : Milliseconds) (k : ℕ) (next : CellAddress) → is_more (time_delay n k next) ≡ false
unfolding time_delay
delay-plain n k next = choose-by (λ (x : Change). is_more x ≡ false) _ (λ t. refl) (λ t. refl)

-- the state so changed is the one that taking the cell gives
take-changed :
    (s : State) (i : Instruction) (next : CellAddress) → is_more (taken_change s i next) ≡ false →
    changed_by (taken_change s i next) s ≡ take s i next
unfolding change_of take take_conditional_jump level_at
take-changed s Null next h = passing s next
take-changed s (IndexedRamp f r x n) next h = cc
take-changed s (IndexedRampFine f r x n) next h = cc
take-changed s (FreeRamp f r b x) next h = cc
take-changed s (FreeRampFine f r b x) next h = cc
take-changed s (Indexed f x n) next h = cc
take-changed s (IndexedFine x f n) next h = cc
take-changed s (Free f b x) next h = cc
take-changed s (FreeFine b x f) next h = cc
take-changed s (ZeroSearch f r b l) next h = cc
take-changed s (DelayedStop f r t n) next h = cc
take-changed s (CamSetting v p) next h = passing (with_cam s (record { set = v; position = p })) next
take-changed s (OutputSetting o v) next h = passing (with_output s o.0 v) next
take-changed s CounterReset next h = passing (with_position s origin) next
take-changed s (OpeningLoop n) next h = passed_on s next n
take-changed s (ClosingLoop e) next h = closing-changed s e next
take-changed s (ConditionalJump i v e) next h = passing s (choose (same (condition_at s i.0) v) e next)
take-changed s (TimeDelay n) next h = delay-changed s n next
take-changed s Recovery next h = cc
take-changed s (CurrentSetting v) next h = passing (with_output s out_cu v) next

-- a change is one of more exactly at a 69 and where a run begins
pub more-exactly :
    (s : State) (i : Instruction) (next : CellAddress) →
    is_more (taken_change s i next) ≡ either (is_recovery i) (run_phase (profile_of i).motion)
unfolding change_of either is_recovery code_of profile_of run_phase
more-exactly s Null next = refl
more-exactly s (IndexedRamp f r x n) next = refl
more-exactly s (IndexedRampFine f r x n) next = refl
more-exactly s (FreeRamp f r b x) next = refl
more-exactly s (FreeRampFine f r b x) next = refl
more-exactly s (Indexed f x n) next = refl
more-exactly s (IndexedFine x f n) next = refl
more-exactly s (Free f b x) next = refl
more-exactly s (FreeFine b x f) next = refl
more-exactly s (ZeroSearch f r b l) next = refl
more-exactly s (DelayedStop f r t n) next = refl
more-exactly s (CamSetting v p) next = refl
more-exactly s (OutputSetting o v) next = refl
more-exactly s CounterReset next = refl
more-exactly s (OpeningLoop n) next = refl
more-exactly s (ClosingLoop e) next = closing-plain s.running.loops e next
more-exactly s (ConditionalJump i v e) next = refl
more-exactly s (TimeDelay n) next = delay-plain n s.running.loops next
more-exactly s Recovery next = refl
more-exactly s (CurrentSetting v) next = refl

-- of what changes more, all but a 69 is a run
pub more-runs :
    (s : State) (i : Instruction) (next : CellAddress) → is_more (taken_change s i next) ≡ true → (i ≡ Recovery → ⊥) →
    take_run s (profile_of i) next ≡ take s i next
unfolding change_of take
more-runs s Null next h k = cc
more-runs s (IndexedRamp f r x n) next h k = refl
more-runs s (IndexedRampFine f r x n) next h k = refl
more-runs s (FreeRamp f r b x) next h k = refl
more-runs s (FreeRampFine f r b x) next h k = refl
more-runs s (Indexed f x n) next h k = refl
more-runs s (IndexedFine x f n) next h k = refl
more-runs s (Free f b x) next h k = refl
more-runs s (FreeFine b x f) next h k = refl
more-runs s (ZeroSearch f r b l) next h k = refl
more-runs s (DelayedStop f r t n) next h k = refl
more-runs s (CamSetting v p) next h k = cc
more-runs s (OutputSetting o v) next h k = cc
more-runs s CounterReset next h k = cc
more-runs s (OpeningLoop n) next h k = cc
more-runs s (ClosingLoop e) next h k = cc (closing-plain s.running.loops e next)
more-runs s (ConditionalJump i v e) next h k = cc
more-runs s (TimeDelay n) next h k = cc (delay-plain n s.running.loops next)
more-runs s Recovery next h k = absurd (k refl)
more-runs s (CurrentSetting v) next h k = cc

-- an output that is set is one of the 14
taken-place : (s : State) (c : Cell) (i : Instruction) → c.instruction ≡ i → cell_sound c ≡ true → place_in (taken_change s i c.next) < 14
unfolding change_of closing_loop time_delay
taken-place s c Null e t = omega arith
taken-place s c (IndexedRamp f r x n) e t = omega arith
taken-place s c (IndexedRampFine f r x n) e t = omega arith
taken-place s c (FreeRamp f r b x) e t = omega arith
taken-place s c (FreeRampFine f r b x) e t = omega arith
taken-place s c (Indexed f x n) e t = omega arith
taken-place s c (IndexedFine x f n) e t = omega arith
taken-place s c (Free f b x) e t = omega arith
taken-place s c (FreeFine b x f) e t = omega arith
taken-place s c (ZeroSearch f r b l) e t = omega arith
taken-place s c (DelayedStop f r q n) e t = omega arith
taken-place s c (CamSetting v p) e t = omega arith
taken-place s c (OutputSetting o v) e t = omega (arith, output-place c o v e t)
taken-place s c CounterReset e t = omega arith
taken-place s c (OpeningLoop n) e t = omega arith
taken-place s c (ClosingLoop j) e t = choose-by (λ (x : Change). place_in x < 14) _ (λ u. omega arith) (λ u. omega arith)
taken-place s c (ConditionalJump i v j) e t = omega arith
taken-place s c (TimeDelay n) e t = choose-by (λ (x : Change). place_in x < 14) _ (λ u. omega arith) (λ u. omega arith)
taken-place s c Recovery e t = omega arith
taken-place s c (CurrentSetting v) e t = omega arith

-- ---- a millisecond

left-changed : (r : Remaining) (s : State) (next : CellAddress) → changed_by (delay_change r s.running.at_speed s.running.loops next) s ≡ count_down r s next
unfolding delay_change count_down
left-changed Nothing s next = refl
left-changed (Counted n) s next = refl
left-changed (Timed n) s next = delay-or-next (leb n.0 1) s.running.at_speed s (record { 0 = n.0 - 1 }) next

left-plain : (r : Remaining) (m : Bool) (k : ℕ) (next : CellAddress) → is_more (delay_change r m k next) ≡ false
unfolding delay_change
left-plain Nothing m k next = refl
left-plain (Counted n) m k next = refl
left-plain (Timed n) m k next = choose-by (λ (x : Change). is_more x ≡ false) _ (λ t. refl) (λ t. refl)

left-place : (r : Remaining) (m : Bool) (k : ℕ) (next : CellAddress) → place_in (delay_change r m k next) < 14
unfolding delay_change
left-place Nothing m k next = omega arith
left-place (Counted n) m k next = omega arith
left-place (Timed n) m k next = choose-by (λ (x : Change). place_in x < 14) _ (λ u. omega arith) (λ u. omega arith)

abbrev phase_change : Phase → State → Cell → Change
phase_change p s c = change_in p s.running s.inputs s.outputs c

phase-changed : (p : Phase) (s : State) (c h : Cell) → is_more (phase_change p s c) ≡ false → changed_by (phase_change p s c) s ≡ millisecond_in p s c h
unfolding change_in millisecond_in take_cell
phase-changed Waiting s c h t =
    take-changed s c.instruction c.next t ∙ sym (choose-false _ _ _ (either_left _ _ (sym (more-exactly s c.instruction c.next) ∙ t)))
phase-changed Delay s c h t = left-changed s.running.remaining s c.next
phase-changed Run s c h t = refl
phase-changed Braking s c h t = refl
phase-changed Slowing s c h t = refl
phase-changed EmergencySlowing s c h t = refl
phase-changed BackOff s c h t = refl

phase-more : (p : Phase) (s : State) (c : Cell) → is_more (phase_change p s c) ≡ true → p ≡ Waiting
unfolding change_in
phase-more Waiting s c t = refl
phase-more Delay s c t = cc (left-plain s.running.remaining s.running.at_speed s.running.loops c.next)
phase-more Run s c t = cc
phase-more Braking s c t = cc
phase-more Slowing s c t = cc
phase-more EmergencySlowing s c t = cc
phase-more BackOff s c t = cc

phase-place : (p : Phase) (s : State) (c : Cell) → cell_sound c ≡ true → place_in (phase_change p s c) < 14
unfolding change_in
phase-place Waiting s c t = taken-place s c c.instruction refl t
phase-place Delay s c t = left-place s.running.remaining s.running.at_speed s.running.loops c.next
phase-place Run s c t = omega arith
phase-place Braking s c t = omega arith
phase-place Slowing s c t = omega arith
phase-place EmergencySlowing s c t = omega arith
phase-place BackOff s c t = omega arith

-- ---- the change that the code has found

module _ {x : Change} (s : State) (c : Cell) (e : x ≡ next_change s c) where
  pub place-within : cell_sound c ≡ true → place_in x < 14
  place-within t = rw e (phase-place s.running.phase s c t)

  -- a busy drive so changed is the one after the millisecond
  pub millisecond-changed : (h : Cell) → idle s ≡ false → is_more x ≡ false → changed_by x s ≡ millisecond_at s c h
  unfolding millisecond_at
  millisecond-changed h i t = rw e (phase-changed s.running.phase s c h (rw e at t) ∙ sym (choose-false _ _ _ i))

  -- what changes more is a cell that is taken
  pub more-waiting : is_more x ≡ true → s.running.phase ≡ Waiting
  more-waiting t = phase-more s.running.phase s c (rw e at t)

module _ {x : Change} (s : State) (c : Cell) (e : x ≡ taken_change s c.instruction c.next) where
  pub taken-within : cell_sound c ≡ true → place_in x < 14
  taken-within t = rw e (taken-place s c c.instruction refl t)

  pub taken-changed : is_more x ≡ false → changed_by x s ≡ take s c.instruction c.next
  taken-changed t = rw e (take-changed s c.instruction c.next (rw e at t))

-- the same where a millisecond takes the cell
pub millisecond-more : (s : State) (c h : Cell) → idle s ≡ false → s.running.phase ≡ Waiting → take_cell s c h ≡ millisecond_at s c h
unfolding millisecond_at millisecond_in
millisecond-more s c h i w = ap (λ (p : Phase). millisecond_in p s c h) (sym w) ∙ sym (choose-false _ _ _ i)
