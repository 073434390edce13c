-- What taking a cell of an allowed code makes of a program: it is passed at once, or a delay or an indexed run begins.
-- Assumes nothing.
use Prim.Native.Nat.{ℕ, zero, suc, ◌+◌}
use native.Mathlib.Omega.{arith}
use mathlib.Core.Path.{◌≡◌, refl, sym, ap, ◌∙◌, subst}
use mathlib.Core.Bool.{Bool, true, false}
use mathlib.Core.List.{List}
use lib.Dec.{eqb}
use lib.IntN.{ℤ, pos, negsuc, nat_abs, +ℤ_idl}
use borrow.Author.Tests.{eqb-true, ne_eqb}
use Rattle.std.specs.Prelude.{Option, Some, None}
use Rattle.laws.specs.Tests.{choose, either}
use Rattle.laws.proofs.Tests.{choose-by, choose-false}
use Rattle.laws.proofs.Joins.{both-false-left}
use Rattle.units.specs.Shift.{multiplier_of, scaled_of, shift_of}
use Rattle.units.specs.Remaining.{is_zero_of}
use Rattle.units.specs.declared.CellAddress.{CellAddress}
use Rattle.units.specs.declared.Milliseconds.{Milliseconds}
use Rattle.units.specs.declared.NetSteps.{NetSteps}
use Rattle.units.specs.declared.Steps.{Steps}
use Rattle.instruction.specs.Adding.{sums, added_of, net_of, delay_of, is_one_of}
use Rattle.instruction.specs.Codes.{code_of}
use Rattle.instruction.specs.Numbers.{numbers_with}
use Rattle.instruction.specs.Runs.{profile_of, indexed_run}
use Rattle.instruction.specs.declared.Cell.{Cell}
use Rattle.instruction.specs.declared.adding.Sums.{Sums}
use Rattle.instruction.specs.declared.Instruction.{Instruction}
use Rattle.instruction.specs.declared.Instruction.TheVariants.{Null, IndexedRamp, IndexedRampFine, FreeRamp, FreeRampFine, Indexed, IndexedFine, Free, FreeFine, ZeroSearch, DelayedStop, CamSetting, OutputSetting, CounterReset, OpeningLoop, ClosingLoop, ConditionalJump, TimeDelay, Recovery, CurrentSetting}
use Rattle.instruction.specs.declared.run.Motion.{Motion}
use Rattle.instruction.specs.declared.run.Motion.TheVariants.{IndexedRun}
use Rattle.machine.specs.Record.{cell_at, with_running}
use Rattle.machine.specs.Starting.{waiting_at, advanced}
use Rattle.machine.specs.Taking.{take, take_cell, is_recovery, take_time_delay, take_run, take_motion, take_indexed, begin_indexed, shift_for, lacks_x4}
use Rattle.machine.specs.declared.State.{State}
use Rattle.machine.proofs.Tests.{clash}
use Rattle.trace.proofs.Stages.{Left, more, more_parts, cell_then, Way, arrives, Fit, Reached}
use Rattle.trace.proofs.Stages.Stage.{delays, runs}

pub advanced-presets : (s : State) (a : CellAddress) → (advanced s a).presets ≡ s.presets
unfolding advanced
advanced-presets s a = choose-by (λ (t : State). t.presets ≡ s.presets) (eqb a.0 0) (λ e. refl) (λ e. refl)

-- a cell that is passed at once
passes :
    {cells : List Cell} {y : Left} (s : State) (a : CellAddress) → s.running.loops ≡ 0 → Way cells a y →
    Reached cells s.presets (more (pos 0) 0 1 y) (pos 0) 0 1 (advanced s a)
passes {y = y} s a l w = record { left = y; stage = arrives s a l w; presets = advanced-presets s a; same = refl }

pub zero_is : (z : ℤ) → is_zero_of (record { 0 = z }) ≡ true → z ≡ pos 0
unfolding is_zero_of
zero_is (pos n) e = ap pos (eqb-true n 0 e)
zero_is (negsuc n) e = clash (sym (ne_eqb (suc n) 0 (λ q. omega arith)) ∙ e)

-- a run of z steps, or none
run-begins :
    {cells : List Cell} {y : Left} (s : State) (a : CellAddress) (z : ℤ) → eqb a.0 0 ≡ false →
    (profile_of (cell_at cells a).instruction).motion ≡ IndexedRun → Way cells (cell_at cells a).next y →
    Reached cells s.presets (more z 0 (suc (nat_abs z + 0)) y) (pos 0) 0 1
    (begin_indexed (with_running s (waiting_at a 0)) z (cell_at cells a).next)
unfolding begin_indexed
run-begins {cells} {y} s a z b m w =
    choose-by (Reached cells s.presets (more z 0 (suc (nat_abs z + 0)) y) (pos 0) 0 1) (is_zero_of (record { 0 = z }))
    (λ e.
    subst
    (λ (n : ℤ).
    Reached cells s.presets (more n 0 (suc (nat_abs n + 0)) y) (pos 0) 0 1
    (advanced (with_running s (waiting_at a 0)) (cell_at cells a).next))
    (sym (zero_is z e)) (passes (with_running s (waiting_at a 0)) (cell_at cells a).next refl w))
    (λ f.
    record {
      left = more z 0 (nat_abs z) y;
      stage = runs s a z false b m f w;
      presets = refl;
      same = more_parts (pos 0) z 0 0 1 (nat_abs z) y (+ℤ_idl z) refl (omega arith);
    })

-- a delay of n milliseconds, or none
delay-begins :
    {cells : List Cell} {y : Left} (s : State) (a : CellAddress) (n : ℕ) → eqb a.0 0 ≡ false → Way cells (cell_at cells a).next y →
    Reached cells s.presets (more (pos 0) n (suc (0 + n)) y) (pos 0) 0 1
    (take_time_delay (with_running s (waiting_at a 0)) (record { 0 = n }) (cell_at cells a).next)
unfolding take_time_delay
delay-begins {cells} {y} s a zero b w =
    choose-by (Reached cells s.presets (more (pos 0) 0 1 y) (pos 0) 0 1) (eqb 0 0)
    (λ e. passes (with_running s (waiting_at a 0)) (cell_at cells a).next refl w) (λ f. clash (sym f))
delay-begins {cells} {y} s a (suc k) b w =
    choose-by (Reached cells s.presets (more (pos 0) (suc k) (suc (0 + suc k)) y) (pos 0) 0 1) (eqb (suc k) 0)
    (λ e. clash (sym (ne_eqb (suc k) 0 (λ q. omega arith)) ∙ e))
    (λ f.
    record {
      left = more (pos 0) (suc k) (suc k) y;
      stage = delays s a k b w;
      presets = refl;
      same = more_parts (pos 0) (pos 0) 0 (suc k) 1 (suc k) y refl (omega arith) (omega arith);
    })

-- 01's errors 50 and 51 do not come: the mode is relative, and RS allows x4
lacks-never : (s : State) (x : Bool) → Fit s.presets → lacks_x4 s x ≡ false
unfolding lacks_x4 choose
lacks-never s true f = rw f.allows refl
lacks-never s false f = refl

run-taken :
    (s : State) (h r : ℕ) (x : Bool) (n : Steps) (next : CellAddress) → Fit s.presets →
    take_run s (indexed_run h r x n) next ≡ begin_indexed s (scaled_of n x) next
unfolding take_run take_motion take_indexed shift_for shift_of
run-taken s h r x n next f =
    choose-false _ _ _ (lacks-never s x f) ∙ choose-false _ _ _ (both-false-left _ _ f.relative)
    ∙ ap (λ (z : ℤ). begin_indexed s z next) (choose-false _ _ _ f.relative)

indexed-taken :
    {cells : List Cell} {y : Left} (s : State) (a : CellAddress) (h r : ℕ) (x : Bool) (n : Steps) → Fit s.presets →
    eqb a.0 0 ≡ false → (profile_of (cell_at cells a).instruction).motion ≡ IndexedRun → Way cells (cell_at cells a).next y →
    Reached cells s.presets (more (scaled_of n x) 0 (suc (nat_abs (scaled_of n x) + 0)) y) (pos 0) 0 1
    (take_run (with_running s (waiting_at a 0)) (indexed_run h r x n) (cell_at cells a).next)
indexed-taken {cells} {y} s a h r x n f b m w =
    subst (Reached cells s.presets (more (scaled_of n x) 0 (suc (nat_abs (scaled_of n x) + 0)) y) (pos 0) 0 1)
    (sym (run-taken (with_running s (waiting_at a 0)) h r x n (cell_at cells a).next f))
    (run-begins s a (scaled_of n x) b m w)

abbrev motion_of : Instruction → Motion
motion_of i = (profile_of i).motion

-- what a code adds, and then the rest
abbrev added_then : Option Sums → Left → Left
added_then (Some t) y = cell_then t.steps t.delay y
added_then None y = y

never_other : {X : Type 0} {t : Sums} → None ≡ Some t → X
never_other e = let z : ◌≡◌ {A = ℕ} 0 1 = cc in absurd (omega arith)

-- every code that is allowed
code-taken :
    {cells : List Cell} {y : Left} {n : NetSteps} {d : Milliseconds} (s : State) (a : CellAddress) (held : Cell) → Fit s.presets →
    eqb a.0 0 ≡ false → Way cells (cell_at cells a).next y → (i : Instruction) → (cell_at cells a).instruction ≡ i →
    added_of i ≡ Some (sums n d) →
    Reached cells s.presets (added_then (added_of i) y) (pos 0) 0 1
    (take_cell (with_running s (waiting_at a 0)) (record { instruction = i; next = (cell_at cells a).next }) held)
unfolding take_cell is_recovery take choose code_of added_of net_of scaled_of multiplier_of profile_of delay_of numbers_with is_one_of either
code-taken s a h f b w Null q o = passes _ _ refl w
code-taken s a h f b w (CamSetting v c) q o = passes _ _ refl w
code-taken s a h f b w (OutputSetting c v) q o = passes _ _ refl w
code-taken s a h f b w CounterReset q o = passes _ _ refl w
code-taken s a h f b w (CurrentSetting v) q o = passes _ _ refl w
code-taken s a h f b w (TimeDelay k) q o = delay-begins s a k.0 b w
code-taken s a h f b w (IndexedRamp k r x z) q o = indexed-taken s a _ _ x z f b (ap motion_of q) w
code-taken s a h f b w (IndexedRampFine k r x z) q o = indexed-taken s a _ _ x z f b (ap motion_of q) w
code-taken s a h f b w (Indexed k x z) q o = indexed-taken s a _ _ x z f b (ap motion_of q) w
code-taken s a h f b w (IndexedFine x k z) q o = indexed-taken s a _ _ x z f b (ap motion_of q) w
code-taken s a h f b w (FreeRamp k r v x) q o = never_other o
code-taken s a h f b w (FreeRampFine k r v x) q o = never_other o
code-taken s a h f b w (Free k v x) q o = never_other o
code-taken s a h f b w (FreeFine v x k) q o = never_other o
code-taken s a h f b w (ZeroSearch k r v l) q o = never_other o
code-taken s a h f b w (DelayedStop k r v z) q o = never_other o
code-taken s a h f b w (OpeningLoop k) q o = never_other o
code-taken s a h f b w (ClosingLoop c) q o = never_other o
code-taken s a h f b w (ConditionalJump c v j) q o = never_other o
code-taken s a h f b w Recovery q o = never_other o

-- the millisecond that takes a cell makes nothing of it yet
pub cell-taken :
    {cells : List Cell} {y : Left} {n : NetSteps} {d : Milliseconds} (s : State) (a : CellAddress) (held : Cell) → Fit s.presets →
    eqb a.0 0 ≡ false → added_of (cell_at cells a).instruction ≡ Some (sums n d) → Way cells (cell_at cells a).next y →
    Reached cells s.presets (cell_then n d y) (pos 0) 0 1 (take_cell (with_running s (waiting_at a 0)) (cell_at cells a) held)
cell-taken {cells} {y} s a h f b o w =
    subst
    (λ (r : Option Sums). Reached cells s.presets (added_then r y) (pos 0) 0 1 (take_cell (with_running s (waiting_at a 0)) (cell_at cells a) h)) o
    (code-taken s a h f b w (cell_at cells a).instruction refl o)
