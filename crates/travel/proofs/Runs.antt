-- What steps come to, one after the other, as a travel gives them.
-- Assumes nothing.
use Prim.Native.Nat.{ℕ, zero, suc, ◌+◌, ◌-◌, ◌<◌, ◌≤◌}
use native.Mathlib.Nat.{not-suc-le-zero, le_of_suc-le-suc}
use native.Mathlib.Omega.{arith}
use mathlib.Core.Path.{◌≡◌, refl, ap, ◌∙◌}
use mathlib.Core.Bool.{Bool, true, false}
use mathlib.Core.Logic.{◌⊎◌, inl, inr, ⊎_elim}
use mathlib.Core.List.{List}
use Rattle.laws.proofs.Tests.{choose-true, both_left}
use Rattle.instruction.specs.declared.Cell.{Cell}
use Rattle.machine.specs.Record.{with_state, moving}
use Rattle.machine.specs.Soundness.{sound}
use Rattle.machine.specs.Stepping.{step}
use Rattle.machine.specs.Calls.{Outcome, act, apply, next, after}
use Rattle.machine.specs.Calls.Call.{Step}
use Rattle.machine.specs.Invariant.{Kept}
use Rattle.machine.specs.declared.State.{State}
use Rattle.machine.specs.declared.Machine.{Machine}
use Rattle.machine.proofs.Invariant.{invariant}
use Rattle.travel.specs.Travel.{step_calls, goes_on, given_from, travelled, Travels, Least, Travelling}

-- ---- the least number

-- of a travel that began at any state
record LeastFrom (start : State) (limit : ℕ) (m : Machine) (given : ℕ) : Type 0 where
  within : given ≤ limit
  holds : (goes_on start (after (step_calls given) m).state ≡ false) ⊎ (given ≡ limit)
  before : (k : ℕ) → k < given → goes_on start (after (step_calls k) m).state ≡ true

least_step :
    {start : State} (n k : ℕ) (m : Machine) → goes_on start m.state ≡ true → LeastFrom start n (next Step m) k →
    LeastFrom start (suc n) m (suc k)
unfolding step_calls after
least_step {start} n k m t l =
    record {
      within = omega (arith, l.within);
      holds = ⊎_elim (λ h. inl h) (λ (h : k ≡ n). inr (ap suc h)) l.holds;
      before = before;
    }
  where
    before : (j : ℕ) → j < suc k → goes_on start (after (step_calls j) m).state ≡ true
    before zero h = t
    before (suc j) h = l.before j (le_of_suc-le-suc h)

least-from :
    (start : State) (n : ℕ) (m : Machine) (b : Bool) → goes_on start m.state ≡ b → LeastFrom start n m (given_from start n b m)
unfolding given_from step_calls after
least-from start zero m b t = record { within = omega arith; holds = inr refl; before = λ k h. absurd (not-suc-le-zero h) }
least-from start (suc n) m false t =
    record { within = omega arith; holds = inl t; before = λ k h. absurd (not-suc-le-zero h) }
least-from start (suc n) m true t =
    least_step n _ m t (least-from start n (next Step m) (goes_on start (next Step m).state) refl)

pub least-travel : (n : ℕ) (m : Machine) → Least n m (travelled n m)
unfolding travelled
least-travel n m =
    let l = least-from m.state n m _ refl in
    record { within = l.within; holds = l.holds; before = l.before }

pub every-least : Travelling
every-least = record { least = least-travel }

-- ---- the loop

abbrev pub drive : List Cell → State → Machine
drive cells s = record { state = s; cells = cells }

-- a step of a sound drive that moves
next-step : (m : Machine) → sound m ≡ true → moving m.state ≡ true → next Step m ≡ with_state m (step m.cells m.state)
unfolding next apply act
next-step m s t = ap (λ (o : Outcome). o.machine) (choose-true (sound m) _ _ s ∙ choose-true (moving m.state) _ _ t)

-- a travel that goes on has a run under way
moves : (s d : State) → goes_on s d ≡ true → moving d ≡ true
unfolding goes_on
moves s d t = both_left _ _ t

-- after n of at most `limit` steps from s, at d: the drive is sound, and the steps that remain lead where all of them lead
pub record Going (cells : List Cell) (limit : ℕ) (s d : State) (n : ℕ) : Type 0 where
  pub kept : Kept (drive cells d)
  pub count : n + given_from s (limit - n) (goes_on s d) (drive cells d) ≡ travelled limit (drive cells s)
  pub rest :
      after (step_calls (given_from s (limit - n) (goes_on s d) (drive cells d))) (drive cells d) ≡
      after (step_calls (travelled limit (drive cells s))) (drive cells s)

pub going_start : {cells : List Cell} {s : State} (limit : ℕ) → Kept (drive cells s) → Going cells limit s s 0
unfolding travelled
going_start limit k =
    let e : limit - 0 ≡ limit = omega arith in
    record { kept = k; count = rw e (omega arith); rest = rw e }

pub going_step :
    {cells : List Cell} {limit : ℕ} {s d : State} {n : ℕ} → Going cells limit s d n → n < limit → goes_on s d ≡ true →
    Going cells limit s (step cells d) (n + 1)
unfolding given_from step_calls after
going_step {cells} {limit} {s} {d} {n} w h t =
    let k : limit - n ≡ suc (limit - (n + 1)) = omega arith in
    let e : next Step (drive cells d) ≡ drive cells (step cells d) = next-step (drive cells d) w.kept.sound (moves s d t) in
    let c = rw (k, t, e) at w.count in
    let m = next Step (drive cells d) in
    let v : after (step_calls (given_from s (limit - (n + 1)) (goes_on s m.state) m)) m ≡ after (step_calls (travelled limit (drive cells s))) (drive cells s) =
    rw (k, t) at w.rest in
    record {
      kept = rw e at (invariant.goes Step (drive cells d) w.kept);
      count = omega (arith, c);
      rest = rw e at v;
    }

-- the travel does not go on, or the limit is given: nothing more is
none-given : (s : State) (k : ℕ) (b : Bool) (m : Machine) → b ≡ false → given_from s k b m ≡ 0
unfolding given_from
none-given s zero b m t = refl
none-given s (suc k) b m t = rw t

spent-given : (s : State) (k : ℕ) (b : Bool) (m : Machine) → k ≡ 0 → given_from s k b m ≡ 0
unfolding given_from
spent-given s k b m e = rw e

-- what is handed back
handed :
    {cells : List Cell} {limit : ℕ} {s d : State} {n : ℕ} → Going cells limit s d n →
    given_from s (limit - n) (goes_on s d) (drive cells d) ≡ 0 → Travels limit (drive cells s) (record { given = n; state = d })
unfolding step_calls after
handed {cells} {limit} {s} {d} {n} w z =
    let c = rw z at w.count in
    record { given = omega (arith, c); drive = rw z at w.rest }

pub handed-over :
    {cells : List Cell} {limit : ℕ} {s d : State} {n : ℕ} → Going cells limit s d n → goes_on s d ≡ false →
    Travels limit (drive cells s) (record { given = n; state = d })
handed-over w t = handed w (none-given _ _ _ _ t)

pub handed-spent :
    {cells : List Cell} {limit : ℕ} {s d : State} {n : ℕ} → Going cells limit s d n → limit ≤ n →
    Travels limit (drive cells s) (record { given = n; state = d })
handed-spent w h = handed w (spent-given _ _ _ _ (omega arith))
