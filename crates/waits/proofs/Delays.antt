-- A delay: which state is one, and what a millisecond before its last does.
-- Assumes nothing.
use Prim.Native.Nat.{ℕ, ◌-◌, ◌<◌}
use native.Mathlib.Omega.{arith}
use mathlib.Core.Path.{◌≡◌, refl, sym, ap, ◌∙◌}
use mathlib.Core.Bool.{true, false}
use mathlib.Core.List.{List}
use borrow.Author.Tests.{lt-leb}
use Rattle.laws.proofs.Tests.{choose-false}
use Rattle.instruction.specs.declared.Cell.{Cell}
use Rattle.instruction.specs.declared.run.Profile.{Profile}
use Rattle.machine.specs.Record.{idle, under_way, moving}
use Rattle.machine.specs.Starting.{in_phase}
use Rattle.machine.specs.Soundness.{is_nothing, busy_remaining}
use Rattle.machine.specs.Milliseconds.{count_down, millisecond_in, millisecond_at, millisecond}
use Rattle.machine.specs.declared.Remaining.{Remaining}
use Rattle.machine.specs.declared.Remaining.TheVariants.{Nothing, Counted, Timed}
use Rattle.machine.specs.declared.Phase.{Phase}
use Rattle.machine.specs.declared.Phase.TheVariants.{Waiting, Delay, Run, Braking, Slowing, EmergencySlowing, BackOff}
use Rattle.machine.specs.declared.State.{State}
use Rattle.machine.proofs.Parts.{Parts, running-busy}
use Rattle.waits.specs.Waiting.{delay_remaining}

-- the same cell in a delay of which k milliseconds remain
abbrev pub delaying : State → ℕ → State
delaying d k = in_phase d Delay (Timed (record { 0 = k }))

-- 01: "a busy rest is positive in a delay, .. else 0": outside a run only a delay has milliseconds left
delay-phase : (p : Phase) (q : Profile) (r : Remaining) → under_way p ≡ false → busy_remaining p q r ≡ true → 0 < delay_remaining r → p ≡ Delay
unfolding busy_remaining is_nothing
delay-phase Waiting q Nothing t u h = absurd (omega arith)
delay-phase Waiting q (Counted n) t u h = absurd (omega arith)
delay-phase Waiting q (Timed n) t u h = cc
delay-phase Delay q r t u h = refl
delay-phase Run q r t u h = cc
delay-phase Braking q r t u h = cc
delay-phase Slowing q r t u h = cc
delay-phase EmergencySlowing q r t u h = cc
delay-phase BackOff q r t u h = cc

delay-remaining : (r : Remaining) → 0 < delay_remaining r → r ≡ Timed (record { 0 = delay_remaining r })
delay-remaining Nothing h = absurd (omega arith)
delay-remaining (Counted n) h = absurd (omega arith)
delay-remaining (Timed n) h = refl

-- a sound state that has milliseconds left, neither idle nor moving, is in a delay
pub in-delay :
    {cells : List Cell} {d : State} → Parts cells d → idle d ≡ false → moving d ≡ false → 0 < delay_remaining d.running.remaining →
    d ≡ delaying d (delay_remaining d.running.remaining)
unfolding moving
in-delay {d = d} g t u h =
    let r = d.running.remaining in
    ap (λ (p : Phase). in_phase d p r) (delay-phase d.running.phase _ r u (running-busy g t).remaining h)
    ∙ ap (λ (x : Remaining). in_phase d Delay x) (delay-remaining r h)

-- a millisecond of a delay that is not its last: one less remains
pub delay-step : (cells : List Cell) (d : State) (k : ℕ) → idle d ≡ false → 1 < k → delaying d (k - 1) ≡ millisecond cells (delaying d k)
unfolding idle millisecond millisecond_at millisecond_in count_down
delay-step cells d k t h = sym (choose-false _ _ _ t ∙ choose-false _ _ _ (lt-leb k 1 h))
