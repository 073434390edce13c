-- What calls and whole lists of calls make of a program that they do not interrupt, and that a program which is left alone ends.
-- Assumes nothing.
use Prim.Native.Nat.{ℕ, zero, suc, ◌+◌}
use native.Mathlib.Nat.{add-zero}
use native.Mathlib.Omega.{arith}
use mathlib.Core.Path.{◌≡◌, refl, sym, ap, ◌∙◌, subst}
use mathlib.Core.Bool.{true, false}
use mathlib.Core.List.{List, [], ◌∷◌}
use lib.Dec.{eqb, leb}
use lib.IntN.{ℤ, pos, nat_abs, +ℤ_idr}
use borrow.Author.Tests.{eqb-false}
use Rattle.laws.specs.Tests.{choose, both, either}
use Rattle.laws.specs.Tables.{every}
use Rattle.laws.proofs.Tests.{both_left, both_right, both_true, choose-by, choose-true, choose-false}
use Rattle.units.specs.Remaining.{is_zero_of}
use Rattle.units.specs.declared.CellAddress.{CellAddress}
use Rattle.instruction.specs.declared.Cell.{Cell}
use Rattle.machine.specs.Record.{no_fault, with_fault, with_state, idle, moving}
use Rattle.machine.specs.Soundness.{is_cell, sound}
use Rattle.machine.specs.Milliseconds.{present}
use Rattle.machine.specs.Stepping.{runs_backward, step}
use Rattle.machine.specs.Reports.{takes_at_speed}
use Rattle.machine.specs.Waiting.{settled, wait}
use Rattle.machine.specs.Calls.{Call, Outcome, done, refused, waited, act, apply, next, after}
use Rattle.machine.specs.Calls.Call.{SendString, SetInputs, Millisecond, Step, AtSpeed, Halted, Wait}
use Rattle.machine.specs.Invariant.{Kept}
use Rattle.machine.specs.declared.State.{State}
use Rattle.machine.specs.declared.Machine.{Machine}
use Rattle.machine.proofs.Tests.{clash, by-test}
use Rattle.machine.proofs.Cells.{cell-nonzero}
use Rattle.machine.proofs.Parts.{parts-state, state-parts}
use Rattle.machine.proofs.Going.{started-sound}
use Rattle.machine.proofs.Invariant.{invariant}
use Rattle.trace.specs.Course.{begun, uninterrupted, taken, signed, step_of, steps_over, in_delay, delays_from, delay_of, delays_over, given, course}
use Rattle.trace.proofs.Stages.{Left, more, more-none, more-then, Way, Stage, starts, idle-nothing, Fit, Reached, unmoved}
use Rattle.trace.proofs.Stages.Stage.{rests, waits, delays, runs}
use Rattle.trace.proofs.Events.{millisecond-reached, step-reached, speed-reached, never-halted, wait-reached}

-- a sound drive whose program has x still to make
pub record Standing (m : Machine) (x : Left) : Type 0 where
  pub kept : Kept m
  pub fit : Fit m.state.presets
  pub stage : Stage m.cells m.state x

-- of x a drive has made n steps and d milliseconds, and now stands as m
pub record Came (x : Left) (n : ℤ) (d : ℕ) (m : Machine) : Type 0 where
  pub left : Left
  pub turns : ℕ
  pub standing : Standing m left
  pub same : x ≡ more n d turns left

-- a program that is started at a cell stands at the beginning of its way
pub begun-stands :
    (m : Machine) (a : CellAddress) {x : Left} → Kept m → Fit m.state.presets → is_cell a ≡ true → Way m.cells a x →
    Standing (begun m a) x
unfolding sound
begun-stands m a k f c w =
    let parts = state-parts m.cells m.state k.inputs k.outputs (both_right _ _ k.sound) in
    record {
      kept =
          record {
            cells = k.cells;
            inputs = k.inputs;
            outputs = k.outputs;
            sound = both_true (both_left _ _ k.sound) (parts-state (started-sound parts a c));
          };
      fit = f;
      stage = starts (with_fault m.state no_fault) a (cell-nonzero a c) w;
    }

-- ---- one call

acts : (c : Call) (m : Machine) → Kept m → apply c m ≡ act c m
unfolding apply
acts c m k = choose-true _ _ _ k.sound

-- what is handed back, of the same memory
abbrev Handed : Machine → Left → ℤ → ℕ → ℕ → Machine → Type 0
Handed m x n d t o = (o.cells ≡ m.cells) × Reached m.cells m.state.presets x n d t o.state

-- a refused call makes nothing
abbrev Steps : Machine → Left → ℕ → Outcome → Type 0
Steps m x t o =
    Handed m x (choose (eqb o.refusal 0) (signed (runs_backward m.state (present m.cells m.state))) (pos 0)) 0 t o.machine

abbrev Delays : Machine → Left → ℕ → ℕ → Outcome → Type 0
Delays m x d t o = Handed m x (pos 0) (choose (eqb o.refusal 0) d 0) t o.machine

abbrev Nothing : Machine → Left → Outcome → Type 0
Nothing m x o = Handed m x (pos 0) 0 0 o.machine

millisecond-handed :
    {m : Machine} {x : Left} → Standing m x →
    Handed m x (pos 0) (delay_of Millisecond m) (choose (settled m.state) 0 1) (next Millisecond m)
unfolding next delay_of taken act choose
millisecond-handed {m} {x} g =
    subst (Delays m x (in_delay m.state.running.phase) (choose (settled m.state) 0 1)) (sym (acts Millisecond m g.kept))
    (refl, millisecond-reached g.stage g.fit)

step-handed : {m : Machine} {x : Left} → Standing m x → moving m.state ≡ true → Handed m x (step_of Step m) 0 1 (next Step m)
unfolding next step_of taken act choose
step-handed {m} {x} g t =
    subst (Steps m x 1) (sym (acts Step m g.kept ∙ choose-true _ (done (with_state m (step m.cells m.state))) (refused 5 m) t))
    (refl, step-reached g.stage t)

no-step-handed : {m : Machine} {x : Left} → Standing m x → moving m.state ≡ false → Handed m x (step_of Step m) 0 0 (next Step m)
unfolding next step_of taken act choose
no-step-handed {m} {x} g f =
    subst (Steps m x 0) (sym (acts Step m g.kept ∙ choose-false _ (done (with_state m (step m.cells m.state))) (refused 5 m) f))
    (refl, unmoved g.stage)

wait-handed : {m : Machine} {x : Left} (n : ℕ) → Standing m x → (t : ℕ) × Handed m x (pos 0) (delay_of (Wait n) m) t (next (Wait n) m)
unfolding next delay_of taken act choose
wait-handed {m} {x} n g =
    let d = delays_from m.state (wait n m.cells m.state).trace in
    let r = wait-reached n m.state g.stage g.fit in
    subst (λ (o : Outcome). (t : ℕ) × Delays m x d t o) (sym (acts (Wait n) m g.kept))
    (choose-by (λ (o : Outcome). (t : ℕ) × Delays m x d t o) (both (leb 1 n) (leb n 1000000))
    {x = waited m (wait n m.cells m.state)} {y = refused 8 m} (λ t. (r.0, (refl, r.1))) (λ t. (0, (refl, unmoved g.stage))))

call-handed :
    (c : Call) (m : Machine) {x : Left} → uninterrupted c ≡ true → Standing m x →
    (t : ℕ) × Handed m x (step_of c m) (delay_of c m) t (next c m)
unfolding next uninterrupted step_of delay_of act
call-handed (SendString b buffer) m u g = clash u
call-handed (SetInputs w) m u g = clash u
call-handed Millisecond m u g = (choose (settled m.state) 0 1, millisecond-handed g)
call-handed Step m u g = by-test (moving m.state) (λ t. (1, step-handed g t)) (λ f. (0, no-step-handed g f))
call-handed AtSpeed m {x} u g =
    let p =
    choose-by (Nothing m x) (takes_at_speed m.cells m.state) (λ t. (refl, speed-reached g.stage t)) (λ t. (refl, unmoved g.stage)) in
    (0, subst (Nothing m x) (sym (acts AtSpeed m g.kept)) p)
call-handed Halted m {x} u g =
    (0, subst (Nothing m x) (sym (acts Halted m g.kept ∙ choose-false _ _ _ (never-halted g.stage))) (refl, unmoved g.stage))
call-handed (Wait n) m u g = wait-handed n g

stands :
    {m : Machine} {x : Left} {n : ℤ} {d t : ℕ} (c : Call) → Standing m x → (h : Handed m x n d t (next c m)) →
    Standing (next c m) h.1.left
stands {m} c g h =
    record {
      kept = invariant.goes c m g.kept;
      fit = subst Fit (sym h.1.presets) g.fit;
      stage = subst (λ (l : List Cell). Stage l (next c m).state h.1.left) (sym h.0) h.1.stage;
    }

-- what a call makes, and what then is left
pub call-came : (c : Call) (m : Machine) {x : Left} → uninterrupted c ≡ true → Standing m x → Came x (step_of c m) (delay_of c m) (next c m)
call-came c m u g =
    let h = call-handed c m u g in
    record { left = h.1.1.left; turns = h.0; standing = stands c g h.1; same = h.1.1.same }

-- ---- lists

-- the same of calls one after the other
pub calls-came :
    (zs : List Call) (m : Machine) {x : Left} → every uninterrupted zs ≡ true → Standing m x →
    Came x (steps_over zs m) (delays_over zs m) (after zs m)
unfolding every steps_over delays_over after
calls-came [] m {x} u g = record { left = x; turns = 0; standing = g; same = more-none x }
calls-came (c ∷ cs) m u g =
    let h = call-came c m (both_left _ _ u) g in
    let r = calls-came cs (next c m) (both_right _ _ u) h.standing in
    record {
      left = r.left;
      turns = h.turns + r.turns;
      standing = r.standing;
      same =
          more-then (step_of c m) (steps_over cs (next c m)) (delay_of c m) (delays_over cs (next c m)) h.turns r.turns r.left h.same
          r.same;
    }

-- once it has ended, a program has made all of it
pub calls-exactly :
    (zs : List Call) (m : Machine) {x : Left} → every uninterrupted zs ≡ true → Standing m x → idle (after zs m).state ≡ true →
    (steps_over zs m ≡ x.steps) × (delays_over zs m ≡ x.delay)
calls-exactly zs m {x} u g i =
    let r = calls-came zs m u g in
    let e = r.same ∙ ap (more (steps_over zs m) (delays_over zs m) r.turns) (idle-nothing r.standing.stage i) in
    (sym (+ℤ_idr _) ∙ sym (ap (λ (y : Left). y.steps) e), sym (add-zero _) ∙ sym (ap (λ (y : Left). y.delay) e))

-- ---- left alone

given-uninterrupted : (m : Machine) → uninterrupted (given m) ≡ true
unfolding given uninterrupted
given-uninterrupted m = choose-by (λ (c : Call). uninterrupted c ≡ true) (moving m.state) (λ t. refl) (λ t. refl)

pub course-uninterrupted : (n : ℕ) (m : Machine) → every uninterrupted (course n m) ≡ true
unfolding course every
course-uninterrupted zero m = refl
course-uninterrupted (suc n) m = both_true (given-uninterrupted m) (course-uninterrupted n (next (given m) m))

-- where no call is left, the drive is at rest
rests-at-last : {cells : List Cell} {s : State} {x : Left} → Stage cells s x → x.turns ≡ 0 → idle s ≡ true
unfolding idle is_zero_of
rests-at-last (rests s) e = refl
rests-at-last (waits s a b c w) e = absurd (omega arith)
rests-at-last (delays s a k b w) e = absurd (omega arith)
rests-at-last (runs s a z m b i n w) e = absurd (eqb-false (nat_abs z) 0 n (omega arith))

-- neither idle nor moving
not-settled : (s : State) → idle s ≡ false → moving s ≡ false → settled s ≡ false
unfolding settled either
not-settled s i f = rw i f

-- a drive that is left alone comes nearer to its end with each call
given-nearer :
    (n : ℕ) (m : Machine) {x : Left} → Standing m x → x.turns ≡ suc n →
    (y : Left) × Standing (next (given m) m) y × (y.turns ≡ n)
unfolding given
given-nearer n m {x} g e =
    choose-by (λ (c : Call). (y : Left) × Standing (next c m) y × (y.turns ≡ n)) (moving m.state)
    (λ t.
    let h = step-handed g t in
    let q = ap (λ (y : Left). y.turns) h.1.same in
    (h.1.left, stands Step g h, omega arith))
    (λ f.
    let h = millisecond-handed g in
    let i = by-test (idle m.state) (λ t. absurd (omega (arith, ap (λ (y : Left). y.turns) (idle-nothing g.stage t)))) (λ t. t) in
    let q = ap (λ (y : Left). y.turns) h.1.same in
    let k : ◌≡◌ {A = ℕ} (choose (settled m.state) 0 1) 1 = choose-false (settled m.state) 0 1 (not-settled m.state i f) in
    (h.1.left, stands Millisecond g h, omega arith))

-- and ends
pub course-ends : (n : ℕ) (m : Machine) {x : Left} → Standing m x → x.turns ≡ n → idle (after (course n m) m).state ≡ true
unfolding course after
course-ends zero m g e = rests-at-last g.stage e
course-ends (suc n) m g e =
    let r = given-nearer n m g e in
    course-ends n (next (given m) m) r.1 r.2
