-- What a millisecond, a step, a report of the board and a wait make of a program.
-- Assumes nothing.
use Prim.Native.Nat.{ℕ, zero, suc, ◌+◌, ◌-◌}
use native.Mathlib.Omega.{arith}
use mathlib.Core.Path.{◌≡◌, refl, sym, ap, ◌∙◌, subst, subst₃}
use mathlib.Core.Bool.{Bool, true, false}
use mathlib.Core.List.{List}
use lib.Dec.{eqb, leb}
use lib.IntN.{ℤ, pos, negsuc, nat_abs, ◌+ℤ◌, ◌-ℤ◌, +ℤ_comm, +ℤ-neg_ℤ_cancel, -ℤ-+ℤ_cancel}
use borrow.Author.Tests.{eqb-false, lt-leb}
use Rattle.laws.specs.Tests.{choose, either}
use Rattle.laws.proofs.Tests.{choose-by, choose-false}
use Rattle.units.specs.Remaining.{is_zero_of, is_negative_of, nearer_of}
use Rattle.units.specs.declared.CellAddress.{CellAddress}
use Rattle.units.proofs.Nearer.{nat_abs-nearer}
use Rattle.instruction.specs.Runs.{profile_of}
use Rattle.instruction.specs.declared.Cell.{Cell}
use Rattle.instruction.specs.declared.run.Motion.{Motion}
use Rattle.instruction.specs.declared.run.Motion.TheVariants.{IndexedRun}
use Rattle.machine.specs.Record.{cell_at, with_running, idle, moving}
use Rattle.machine.specs.Starting.{waiting_at}
use Rattle.machine.specs.Taking.{take_cell}
use Rattle.machine.specs.Milliseconds.{present, held, count_down, millisecond_in, millisecond_at, millisecond}
use Rattle.machine.specs.Stepping.{motion_backward, backward_in, runs_backward, cam_tested, moved_by, arrived_in, counted, step_at, step}
use Rattle.machine.specs.Reports.{takes_at_speed_in, takes_at_speed_at, takes_at_speed, at_speed, takes_halted}
use Rattle.machine.specs.Waiting.{settled, wait_from, wait}
use Rattle.machine.specs.declared.Presets.{Presets}
use Rattle.machine.specs.declared.Remaining.TheVariants as remaining
use Rattle.machine.specs.declared.State.{State}
use Rattle.machine.proofs.Tests.{clash}
use Rattle.trace.specs.Course.{signed, in_delay, delays_from}
use Rattle.trace.proofs.Stages.{Left, more, more-none, more_parts, cell_then, Way, Stage, delaying_at, running_at, arrives, Fit, Reached, unmoved, onward}
use Rattle.trace.proofs.Stages.Stage.{rests, waits, delays, runs}
use Rattle.trace.proofs.Taking.{zero_is, advanced-presets, cell-taken}

-- ---- a millisecond

-- of a delay
count_down_lem :
    {cells : List Cell} {y : Left} (s : State) (a : CellAddress) (k : ℕ) → eqb a.0 0 ≡ false → Way cells (cell_at cells a).next y →
    Reached cells s.presets (more (pos 0) (suc k) (suc k) y) (pos 0) 1 1
    (count_down (remaining.Timed (record { 0 = suc k })) (with_running s (delaying_at a (suc k))) (cell_at cells a).next)
unfolding count_down
count_down_lem {cells} {y} s a zero b w =
    choose-by (Reached cells s.presets (more (pos 0) 1 1 y) (pos 0) 1 1) (leb 1 1)
    (λ e.
    record {
      left = y;
      stage = arrives (with_running s (delaying_at a 1)) (cell_at cells a).next refl w;
      presets = advanced-presets (with_running s (delaying_at a 1)) (cell_at cells a).next;
      same = refl;
    })
    (λ f. clash (sym f))
count_down_lem {cells} {y} s a (suc k) b w =
    choose-by (Reached cells s.presets (more (pos 0) (suc (suc k)) (suc (suc k)) y) (pos 0) 1 1) (leb (suc (suc k)) 1)
    (λ e. clash (sym (lt-leb (suc (suc k)) 1 (omega arith)) ∙ e))
    (λ f.
    let q : suc k ≡ suc (suc k) - 1 = omega arith in
    record {
      left = more (pos 0) (suc k) (suc k) y;
      stage = subst (λ (n : ℕ). Stage cells (with_running s (delaying_at a n)) (more (pos 0) (suc k) (suc k) y)) q (delays s a k b w);
      presets = refl;
      same = more_parts (pos 0) (pos 0) 1 (suc k) 1 (suc k) y refl (omega arith) (omega arith);
    })

-- it counts where it is one of a delay, and is a call of the course where the drive is neither idle nor moving
pub millisecond-reached :
    {cells : List Cell} {s : State} {x : Left} → Stage cells s x → Fit s.presets →
    Reached cells s.presets x (pos 0) (in_delay s.running.phase) (choose (settled s) 0 1) (millisecond cells s)
unfolding millisecond millisecond_at millisecond_in idle moving settled either choose in_delay present held
millisecond-reached (rests s) f = unmoved (rests s)
millisecond-reached {cells} (waits s a {n} {d} {y} b c w) f =
    subst
    (λ (t : Bool).
    Reached cells s.presets (cell_then n d y) (pos 0) 0 (choose (either t false) 0 1)
    (choose t (with_running s (waiting_at a 0)) (take_cell (with_running s (waiting_at a 0)) (cell_at cells a) (held cells s))))
    (sym b) (cell-taken s a (held cells s) f b c w)
millisecond-reached {cells} (delays s a k {y} b w) f =
    subst
    (λ (t : Bool).
    Reached cells s.presets (more (pos 0) (suc k) (suc k) y) (pos 0) 1 (choose (either t false) 0 1)
    (choose t (with_running s (delaying_at a (suc k)))
    (count_down (remaining.Timed (record { 0 = suc k })) (with_running s (delaying_at a (suc k))) (cell_at cells a).next)))
    (sym b) (count_down_lem s a k b w)
millisecond-reached {cells} (runs s a z m {y} b i n w) f =
    subst
    (λ (t : Bool).
    Reached cells s.presets (more z 0 (nat_abs z) y) (pos 0) 0 (choose (either t true) 0 1)
    (choose t (with_running s (running_at a z m)) (with_running s (running_at a z m))))
    (sym b) (unmoved (runs s a z m b i n w))

-- ---- a step

-- a step and what then remains are what remained
step-nearer : (z : ℤ) → is_zero_of (record { 0 = z }) ≡ false → signed (is_negative_of (record { 0 = z })) +ℤ (nearer_of (record { 0 = z })).0 ≡ z
unfolding signed nearer_of choose
step-nearer z f = by (is_negative_of (record { 0 = z }))
  where
    by : (t : Bool) → choose t (negsuc 0) (pos 1) +ℤ choose t (z +ℤ pos 1) (choose (is_zero_of (record { 0 = z })) z (z -ℤ pos 1)) ≡ z
    by true = +ℤ_comm (negsuc 0) (z +ℤ pos 1) ∙ +ℤ-neg_ℤ_cancel z (pos 1)
    by false =
        ap (λ (w : ℤ). pos 1 +ℤ w) (choose-false _ z (z -ℤ pos 1) f) ∙ +ℤ_comm (pos 1) (z -ℤ pos 1) ∙ -ℤ-+ℤ_cancel z (pos 1)

-- and takes one of the run's calls
turn-nearer : (z : ℤ) → is_zero_of (record { 0 = z }) ≡ false → 1 + nat_abs (nearer_of (record { 0 = z })).0 ≡ nat_abs z
unfolding is_zero_of
turn-nearer z f = omega (arith, nat_abs-nearer (record { 0 = z }), eqb-false (nat_abs z) 0 f)

-- what remains of a run loses one
count-step :
    {cells : List Cell} {y : Left} (s : State) (a : CellAddress) (z : ℤ) (m : Bool) → eqb a.0 0 ≡ false →
    (profile_of (cell_at cells a).instruction).motion ≡ IndexedRun → is_zero_of (record { 0 = z }) ≡ false →
    Way cells (cell_at cells a).next y →
    Reached cells s.presets (more z 0 (nat_abs z) y) (signed (is_negative_of (record { 0 = z }))) 0 1
    (counted (remaining.Counted (record { 0 = z })) (with_running s (running_at a z m)) (cell_at cells a).next)
unfolding counted arrived_in
count-step {cells} {y} s a z m b i n w =
    let u = signed (is_negative_of (record { 0 = z })) in
    let v = (nearer_of (record { 0 = z })).0 in
    let parts = more_parts u v 0 0 1 (nat_abs v) y (step-nearer z n) refl (turn-nearer z n) in
    choose-by (Reached cells s.presets (more z 0 (nat_abs z) y) u 0 1) (is_zero_of (nearer_of (record { 0 = z })))
    (λ e.
    record {
      left = y;
      stage = arrives (with_running s (running_at a z m)) (cell_at cells a).next refl w;
      presets = advanced-presets (with_running s (running_at a z m)) (cell_at cells a).next;
      same = parts ∙ ap (more u 0 1) ((λ j. more (zero_is v e j) 0 (nat_abs (zero_is v e j)) y) ∙ sym (more-none y));
    })
    (λ f. record { left = more v 0 (nat_abs v) y; stage = runs s a v m b i f w; presets = refl; same = parts })

moved-running : (v : Bool) (s : State) → (moved_by v s).running ≡ s.running
unfolding moved_by cam_tested
moved-running v s = choose-by (λ (t : State). t.running ≡ s.running) _ (λ e. refl) (λ e. refl)

moved-presets : (v : Bool) (s : State) → (moved_by v s).presets ≡ s.presets
unfolding moved_by cam_tested
moved-presets v s = choose-by (λ (t : State). t.presets ≡ s.presets) _ (λ e. refl) (λ e. refl)

-- an indexed run goes by what remains of it
indexed-backward :
    (s : State) (a : CellAddress) (z : ℤ) (m : Bool) (c : Cell) → (profile_of c.instruction).motion ≡ IndexedRun →
    is_negative_of (record { 0 = z }) ≡ runs_backward (with_running s (running_at a z m)) c
unfolding runs_backward backward_in
indexed-backward s a z m c i =
    ap (λ (t : Motion). motion_backward t (profile_of c.instruction) (remaining.Counted (record { 0 = z }))) (sym i)

-- a step is made in the direction of the run
pub step-reached :
    {cells : List Cell} {s : State} {x : Left} → Stage cells s x → moving s ≡ true →
    Reached cells s.presets x (signed (runs_backward s (present cells s))) 0 1 (step cells s)
unfolding moving step step_at present
step-reached (rests s) t = clash t
step-reached (waits s a b c w) t = clash t
step-reached (delays s a k b w) t = clash t
step-reached {cells} (runs s a z m {y} b i n w) t =
    let r = with_running s (running_at a z m) in
    let u = moved_by (runs_backward r (cell_at cells a)) r in
    subst₃
    (λ (p : Presets) (v : Bool) (o : State).
    Reached cells p (more z 0 (nat_abs z) y) (signed v) 0 1 (counted (remaining.Counted (record { 0 = z })) o (cell_at cells a).next))
    (moved-presets (runs_backward r (cell_at cells a)) r) (indexed-backward s a z m (cell_at cells a) i)
    (λ j. with_running u (sym (moved-running (runs_backward r (cell_at cells a)) r) j))
    (count-step u a z m b i n w)

-- ---- reports

-- at-speed sets the mark and makes nothing
pub speed-reached :
    {cells : List Cell} {s : State} {x : Left} → Stage cells s x → takes_at_speed cells s ≡ true →
    Reached cells s.presets x (pos 0) 0 0 (at_speed s)
unfolding takes_at_speed takes_at_speed_at takes_at_speed_in choose
speed-reached (rests s) t = clash t
speed-reached (waits s a b c w) t = clash t
speed-reached (delays s a k b w) t = clash t
speed-reached (runs s a z m b i n w) t = unmoved (runs s a z true b i n w)

-- halted is never taken: no run of these codes slows down
pub never-halted : {cells : List Cell} {s : State} {x : Left} → Stage cells s x → takes_halted s ≡ false
never-halted (rests s) = refl
never-halted (waits s a b c w) = refl
never-halted (delays s a k b w) = refl
never-halted (runs s a z m b i n w) = refl

-- ---- a wait

-- its milliseconds, one after the other
waits-reached :
    {cells : List Cell} {x : Left} (n : ℕ) (b : Bool) (s : State) → Stage cells s x → Fit s.presets →
    (t : ℕ) × Reached cells s.presets x (pos 0) (delays_from s (wait_from n b cells s).trace) t (wait_from n b cells s).last
unfolding wait_from delays_from
waits-reached zero b s g f = (0, unmoved g)
waits-reached (suc n) true s g f = (0, unmoved g)
waits-reached {cells = cells} {x = x} (suc n) false s g f =
    let r = millisecond-reached g f in
    let q = waits-reached {x = r.left} n (settled (millisecond cells s)) (millisecond cells s) r.stage (subst Fit (sym r.presets) f) in
    (choose (settled s) 0 1 + q.0, onward r q.1)

pub wait-reached :
    {cells : List Cell} {x : Left} (n : ℕ) (s : State) → Stage cells s x → Fit s.presets →
    (t : ℕ) × Reached cells s.presets x (pos 0) (delays_from s (wait n cells s).trace) t (wait n cells s).last
unfolding wait
wait-reached n s g f = waits-reached n (settled s) s g f
