-- What a wait hands back, from its milliseconds.
-- Assumes nothing.
use Prim.Native.Nat.{ℕ, zero, suc, ◌+◌, ◌-◌, ◌<◌, ◌≤◌}
use native.Mathlib.Omega.{arith}
use mathlib.Core.Path.{◌≡◌, refl, sym, ap, subst, ◌∙◌}
use mathlib.Core.Bool.{Bool, true, false}
use mathlib.Core.List.{List}
use lib.Dec.{eqb}
use lib.ListN.{length}
use borrow.Author.Tests.{eqb-true, eqb-false}
use Rattle.laws.specs.Tests.{either}
use Rattle.laws.proofs.Tests.{both_left, both_right, either_left, either-right}
use Rattle.instruction.specs.declared.Cell.{Cell}
use Rattle.machine.specs.Record.{idle, moving}
use Rattle.machine.specs.Soundness.{sound}
use Rattle.machine.specs.Milliseconds.{millisecond}
use Rattle.machine.specs.Waiting.{Waited, no_more, settled, end_at, wait_from, wait}
use Rattle.machine.specs.declared.State.{State}
use Rattle.machine.specs.declared.answers.End.{End}
use Rattle.machine.proofs.Cells.{Memory}
use Rattle.machine.proofs.Parts.{Parts, state-parts}
use Rattle.machine.proofs.Milliseconds.{millisecond-sound}
use Rattle.waits.specs.Waiting.{delay_remaining, ran_of}
use Rattle.waits.specs.declared.Ran.{Ran}
use Rattle.waits.proofs.Delays.{delaying, in-delay, delay-step}

-- ---- what is handed back

abbrev pub handed : End → ℕ → State → Ran
handed e n s = record { end = e; given = record { 0 = n }; state = s }

-- after n milliseconds, with the rest of the wait still to come
abbrev pub ran_from : ℕ → Waited → Ran
ran_from n w = handed (end_at w.last) (n + w.given) w.last

pub from_start : (cells : List Cell) (k : ℕ) (s : State) → ran_from 0 (wait_from (k - 0) (settled s) cells s) ≡ ran_of (wait k cells s)
unfolding wait
from_start cells k s =
    let e : k - 0 ≡ k = omega arith in
    rw e
    (let z : 0 + (wait_from k (settled s) cells s).given ≡ (wait_from k (settled s) cells s).given = omega arith in
    ap (λ (g : ℕ). handed (end_at (wait_from k (settled s) cells s).last) g (wait_from k (settled s) cells s).last) z)

none_from : (n : ℕ) (s : State) {e : End} {w : Waited} → w ≡ no_more s → end_at s ≡ e → handed e n s ≡ ran_from n w
none_from n s q t =
    rw (q, ← t)
    (let z : n ≡ n + 0 = omega arith in ap (λ (g : ℕ). handed (end_at s) g s) z)

-- a state that is settled, or nothing left of the budget: no more is given
over-wait : (k : ℕ) (b : Bool) (cells : List Cell) (s : State) → either b (eqb k 0) ≡ true → wait_from k b cells s ≡ no_more s
unfolding wait_from either
over-wait zero b cells s t = refl
over-wait (suc k) true cells s t = refl
over-wait (suc k) false cells s t = absurd (omega (arith, eqb-true (suc k) 0 t))

pub ran_over :
    (cells : List Cell) (s : State) (n k : ℕ) → either (settled s) (eqb k 0) ≡ true →
    handed (end_at s) n s ≡ ran_from n (wait_from k (settled s) cells s)
ran_over cells s n k t = none_from n s (over-wait k _ cells s t) refl

-- one millisecond more
pub ran-step :
    (cells : List Cell) (s r : State) (n limit : ℕ) → n < limit → idle s ≡ false → moving s ≡ false → r ≡ millisecond cells s →
    ran_from (n + 1) (wait_from (limit - (n + 1)) (settled r) cells r) ≡ ran_from n (wait_from (limit - n) (settled s) cells s)
unfolding wait_from settled either
ran-step cells s r n limit h t u q =
    let k : limit - n ≡ suc (limit - (n + 1)) = omega arith in
    rw (k, q, t, u)
    (let w = wait_from (limit - (n + 1)) (settled (millisecond cells s)) cells (millisecond cells s) in
    let z : n + 1 + w.given ≡ n + suc w.given = omega arith in ap (λ (g : ℕ). handed (end_at w.last) g w.last) z)

-- ---- the loop

-- after n of at most `limit` milliseconds from s, at d: the drive is sound, and what is handed back is what the rest of the wait makes of it
pub record Waiting (cells : List Cell) (limit : ℕ) (s d : State) (n : ℕ) : Type 0 where
  pub within : n ≤ limit
  pub fits : limit < 4294967296
  pub memory : Memory cells
  pub parts : Parts cells d
  pub rest : ran_from n (wait_from (limit - n) (settled d) cells d) ≡ ran_of (wait limit cells s)

pub waiting-start :
    (cells : List Cell) (limit : ℕ) (s : State) → limit < 4294967296 → length cells ≡ 131 → length s.inputs ≡ 11 → length s.outputs ≡ 14 →
    sound (record { state = s; cells = cells }) ≡ true → Waiting cells limit s s 0
unfolding sound
waiting-start cells limit s f l i o t =
    record {
      within = omega arith;
      fits = f;
      memory = record { sound = both_left _ _ t; count = l };
      parts = state-parts cells s i o (both_right _ _ t);
      rest = from_start cells limit s;
    }

-- the same where a millisecond is to come
pub record Going (cells : List Cell) (limit : ℕ) (s d : State) (n : ℕ) : Type 0 where
  pub waiting : Waiting cells limit s d n
  pub busy : idle d ≡ false
  pub still : moving d ≡ false
  pub room : n < limit

pub waiting-going :
    {cells : List Cell} {limit : ℕ} {s d : State} {n : ℕ} → Waiting cells limit s d n → either (settled d) (eqb (limit - n) 0) ≡ false →
    Going cells limit s d n
unfolding settled
waiting-going {limit = limit} {n = n} w t =
    let u = either_left _ _ t in
    let z : limit - n ≡ 0 → ⊥ = eqb-false _ _ (either-right _ _ t) in
    record {
      waiting = w;
      busy = either_left _ _ u;
      still = either-right _ _ u;
      room = omega (arith, w.within, z);
    }

pub waiting-step :
    {cells : List Cell} {limit : ℕ} {s d r : State} {n : ℕ} → Going cells limit s d n → r ≡ millisecond cells d → Waiting cells limit s r (n + 1)
waiting-step {cells} {limit} {s} {d} {r} {n} g q =
    let w = g.waiting in
    record {
      within = omega (arith, g.room);
      fits = w.fits;
      memory = w.memory;
      parts = rw q (millisecond-sound w.memory w.parts);
      rest = ran-step cells d r n limit g.room g.busy g.still q ∙ w.rest;
    }

-- so many milliseconds of a delay, none of them its last
waiting-delay :
    {cells : List Cell} {limit : ℕ} {s : State} {n : ℕ} (d : State) (k : ℕ) → idle d ≡ false → Waiting cells limit s (delaying d k) n →
    (g : ℕ) → g < k → n + g ≤ limit → Waiting cells limit s (delaying d (k - g)) (n + g)
unfolding idle moving
waiting-delay {n = n} d k t w zero h l =
    let e : k - 0 ≡ k = omega arith in
    let z : n + 0 ≡ n = omega arith in
    rw (e, z) w
waiting-delay {cells} {n = n} d k t w (suc g) h l =
    let e : k - suc g ≡ k - g - 1 = omega arith in
    let z : n + suc g ≡ n + g + 1 = omega arith in
    rw (e, z)
    (let v = waiting-delay d k t w g (omega arith) (omega arith) in
    waiting-step (record { waiting = v; busy = t; still = refl; room = omega arith }) (delay-step cells d (k - g) t (omega arith)))

-- a sound state with k milliseconds of a delay left, after fewer of them and within the budget
pub waiting-skip :
    {cells : List Cell} {limit : ℕ} {s d r : State} {n k g : ℕ} → Going cells limit s d n → k ≡ delay_remaining d.running.remaining →
    g < k → n + g ≤ limit → r ≡ delaying d (k - g) → Waiting cells limit s r (n + g)
waiting-skip {cells} {limit} {s} {d} {r} {n} {k} {g} a e h l q =
    let f = in-delay a.waiting.parts a.busy a.still (omega arith) in
    let v = subst (λ (x : State). Waiting cells limit s x n) (f ∙ ap (delaying d) (sym e)) a.waiting in
    rw q (waiting-delay d k a.busy v g h l)
