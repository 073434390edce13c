-- A wait gives the least number of milliseconds after which it may end.
-- Assumes nothing.
use Prim.Native.Nat.{ℕ, zero, suc, ◌<◌}
use native.Mathlib.Nat.{not-suc-le-zero, le_of_suc-le-suc}
use native.Mathlib.Omega.{arith}
use mathlib.Core.Path.{◌≡◌, refl, ap}
use mathlib.Core.Bool.{Bool, true, false}
use mathlib.Core.Logic.{inl, inr, ⊎_elim}
use mathlib.Core.List.{List}
use Rattle.instruction.specs.declared.Cell.{Cell}
use Rattle.machine.specs.Milliseconds.{millisecond}
use Rattle.machine.specs.Waiting.{settled, Waited, one_more, wait_from, wait, milliseconds, Least}
use Rattle.machine.specs.declared.State.{State}

-- one more millisecond, before a wait that gives the least number
least_step :
    (n : ℕ) (cells : List Cell) (s : State) (w : Waited) → settled s ≡ false → Least n cells (millisecond cells s) w →
    Least (suc n) cells s (one_more (millisecond cells s) w)
unfolding milliseconds
least_step n cells s w t l =
    record {
      within = omega (arith, l.within);
      holds = ⊎_elim (λ h. inl h) (λ (h : w.given ≡ n). inr (ap suc h)) l.holds;
      before = before;
      state = l.state;
    }
  where
    before : (k : ℕ) → k < suc w.given → settled (milliseconds k cells s) ≡ false
    before zero h = t
    before (suc k) h = l.before k (le_of_suc-le-suc h)

least-from : (n : ℕ) (cells : List Cell) (s : State) (b : Bool) → settled s ≡ b → Least n cells s (wait_from n b cells s)
unfolding wait_from milliseconds
least-from zero cells s b t =
    record { within = omega arith; holds = inr refl; before = λ k h. absurd (not-suc-le-zero h); state = refl }
least-from (suc n) cells s true t =
    record { within = omega arith; holds = inl t; before = λ k h. absurd (not-suc-le-zero h); state = refl }
least-from (suc n) cells s false t =
    least_step n cells s _ t (least-from n cells (millisecond cells s) (settled (millisecond cells s)) refl)

-- 01: "That number is the least, from 0 to the budget, after which one of the three holds"
pub wait-least : (budget : ℕ) (cells : List Cell) (s : State) → Least budget cells s (wait budget cells s)
unfolding wait
wait-least budget cells s = least-from _ cells s _ refl
