-- What a program has still to make, from an address on and at each stage of its way.
-- Assumes nothing.
use Prim.Native.Nat.{ℕ, suc, ◌+◌}
use native.Mathlib.Nat.{zero-add, add_assoc}
use mathlib.Core.Path.{◌≡◌, refl, sym, ap, ◌∙◌, subst}
use mathlib.Core.Bool.{Bool, true, false}
use mathlib.Core.List.{List}
use lib.Dec.{eqb}
use lib.IntN.{ℤ, pos, nat_abs, ◌+ℤ◌, +ℤ_idl, +ℤ_assoc}
use Rattle.std.specs.Prelude.{Some}
use Rattle.laws.proofs.Tests.{choose-true, choose-false}
use Rattle.units.specs.Remaining.{is_zero_of}
use Rattle.units.specs.declared.CellAddress.{CellAddress}
use Rattle.units.specs.declared.Milliseconds.{Milliseconds}
use Rattle.units.specs.declared.NetSteps.{NetSteps}
use Rattle.instruction.specs.Adding.{sums, added_of}
use Rattle.instruction.specs.Runs.{profile_of}
use Rattle.instruction.specs.declared.Cell.{Cell}
use Rattle.instruction.specs.declared.run.Motion.TheVariants.{IndexedRun}
use Rattle.machine.specs.Record.{cell_at, with_running, stopped, is_absolute, idle}
use Rattle.machine.specs.Starting.{waiting_at, advanced}
use Rattle.machine.specs.Taking.{allows_x4}
use Rattle.machine.specs.declared.Presets.{Presets}
use Rattle.machine.specs.declared.Remaining.TheVariants as remaining
use Rattle.machine.specs.declared.Phase.TheVariants.{Delay, Run}
use Rattle.machine.specs.declared.Running.{Running}
use Rattle.machine.specs.declared.State.{State}
use Rattle.machine.proofs.Tests.{clash}

-- net steps, milliseconds of delays, and the calls that a drive which is left alone still gets
pub record Left : Type 0 where
  pub steps : ℤ
  pub delay : ℕ
  pub turns : ℕ

abbrev pub nothing : Left
nothing = record { steps = pos 0; delay = 0; turns = 0 }

-- n steps, d milliseconds and t calls, and then the rest
abbrev pub more : ℤ → ℕ → ℕ → Left → Left
more n d t y = record { steps = n +ℤ y.steps; delay = d + y.delay; turns = t + y.turns }

pub more-none : (x : Left) → x ≡ more (pos 0) 0 0 x
more-none x =
    λ i.
    record {
      steps = sym (+ℤ_idl x.steps) i;
      delay = sym (zero-add x.delay) i;
      turns = sym (zero-add x.turns) i;
    }

-- what is made in two parts
pub more_parts :
    (u v : ℤ) (e f k l : ℕ) (y : Left) {n : ℤ} {d t : ℕ} → u +ℤ v ≡ n → e + f ≡ d → k + l ≡ t → more n d t y ≡ more u e k (more v f l y)
more_parts u v e f k l y p q r =
    (λ i. more (sym p i) (sym q i) (sym r i) y)
    ∙ (λ i.
    record {
      steps = +ℤ_assoc u v y.steps i;
      delay = add_assoc e f y.delay i;
      turns = add_assoc k l y.turns i;
    })

-- one part after the other
pub more-then :
    (u v : ℤ) (e f k l : ℕ) {x y : Left} (w : Left) → x ≡ more u e k y → y ≡ more v f l w → x ≡ more (u +ℤ v) (e + f) (k + l) w
more-then u v e f k l w p q = p ∙ ap (more u e k) q ∙ sym (more_parts u v e f k l w refl refl refl)

-- ---- from an address on

-- a cell of n steps and d milliseconds that is still to be taken: one millisecond takes it
abbrev pub cell_then : NetSteps → Milliseconds → Left → Left
cell_then n d y = more n.0 d.0 (suc (nat_abs n.0 + d.0)) y

-- following the next addresses to 000, past cells of the allowed codes
pub data Way (cells : List Cell) : CellAddress → Left → Type 0 where
  end : {a : CellAddress} → eqb a.0 0 ≡ true → Way cells a nothing
  cell :
      {a : CellAddress} {n : NetSteps} {d : Milliseconds} {y : Left} → eqb a.0 0 ≡ false →
      added_of (cell_at cells a).instruction ≡ Some (sums n d) → Way cells (cell_at cells a).next y → Way cells a (cell_then n d y)

-- ---- the stages

-- in a delay and in a run, at a cell: a run with or without the at-speed mark
abbrev pub delaying_at : CellAddress → ℕ → Running
delaying_at a k =
    record { cell = a; phase = Delay; remaining = remaining.Timed (record { 0 = k }); loops = 0; at_speed = false }

abbrev pub running_at : CellAddress → ℤ → Bool → Running
running_at a z b = record { cell = a; phase = Run; remaining = remaining.Counted (record { 0 = z }); loops = 0; at_speed = b }

-- where a program stands, and what it has still to make
pub data Stage (cells : List Cell) : State → Left → Type 0 where
  rests : (s : State) → Stage cells (stopped s) nothing
  waits :
      (s : State) (a : CellAddress) {n : NetSteps} {d : Milliseconds} {y : Left} → eqb a.0 0 ≡ false →
      added_of (cell_at cells a).instruction ≡ Some (sums n d) → Way cells (cell_at cells a).next y →
      Stage cells (with_running s (waiting_at a 0)) (cell_then n d y)
  delays :
      (s : State) (a : CellAddress) (k : ℕ) {y : Left} → eqb a.0 0 ≡ false → Way cells (cell_at cells a).next y →
      Stage cells (with_running s (delaying_at a (suc k))) (more (pos 0) (suc k) (suc k) y)
  runs :
      (s : State) (a : CellAddress) (z : ℤ) (b : Bool) {y : Left} → eqb a.0 0 ≡ false →
      (profile_of (cell_at cells a).instruction).motion ≡ IndexedRun → is_zero_of (record { 0 = z }) ≡ false →
      Way cells (cell_at cells a).next y → Stage cells (with_running s (running_at a z b)) (more z 0 (nat_abs z) y)

-- going on to an address is waiting there, or being at rest
pub arrives :
    {cells : List Cell} {x : Left} (s : State) (a : CellAddress) → s.running.loops ≡ 0 → Way cells a x → Stage cells (advanced s a) x
unfolding advanced
arrives {cells} s a l (end e) = subst (λ (t : State). Stage cells t nothing) (sym (choose-true _ _ _ e)) (rests s)
arrives {cells} s a l (cell {n = n} {d} {y} b c w) =
    subst (λ (t : State). Stage cells t (cell_then n d y))
    (sym (choose-false _ _ _ b ∙ ap (λ (k : ℕ). with_running s (waiting_at a k)) l))
    (waits s a b c w)

-- a program that is started at a cell
pub starts :
    {cells : List Cell} {x : Left} (s : State) (a : CellAddress) → eqb a.0 0 ≡ false → Way cells a x →
    Stage cells (with_running s (waiting_at a 0)) x
starts s a n (end e) = clash (sym n ∙ e)
starts s a n (cell b c w) = waits s a b c w

-- at rest nothing is left
pub idle-nothing : {cells : List Cell} {s : State} {x : Left} → Stage cells s x → idle s ≡ true → x ≡ nothing
unfolding idle
idle-nothing (rests s) e = refl
idle-nothing (waits s a b c w) e = clash (sym b ∙ e)
idle-nothing (delays s a k b w) e = clash (sym b ∙ e)
idle-nothing (runs s a z m b i n w) e = clash (sym b ∙ e)

-- ---- what a call leaves

-- "(with multipliers, relative mode)", "if RS allows x4"
pub record Fit (p : Presets) : Type 0 where
  pub relative : is_absolute p ≡ false
  pub allows : allows_x4 p.resolution ≡ true

-- of x a program has made n steps and d milliseconds, in t of its calls, and stands at u, the presets p as before
pub record Reached (cells : List Cell) (p : Presets) (x : Left) (n : ℤ) (d t : ℕ) (u : State) : Type 0 where
  pub left : Left
  pub stage : Stage cells u left
  pub presets : u.presets ≡ p
  pub same : x ≡ more n d t left

-- nothing was made
pub unmoved : {cells : List Cell} {s : State} {x : Left} → Stage cells s x → Reached cells s.presets x (pos 0) 0 0 s
unmoved {x = x} g = record { left = x; stage = g; presets = refl; same = more-none x }

-- one after the other
pub onward :
    {cells : List Cell} {p : Presets} {x : Left} {n m : ℤ} {d e t k : ℕ} {u v : State} (r : Reached cells p x n d t u) →
    Reached cells u.presets r.left m e k v → Reached cells p x (n +ℤ m) (d + e) (t + k) v
onward {n = n} {m} {d} {e} {t} {k} r q =
    record {
      left = q.left;
      stage = q.stage;
      presets = q.presets ∙ r.presets;
      same = more-then n m d e t k q.left r.same q.same;
    }
