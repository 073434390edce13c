-- A wait that passes over a delay at once, up to its last millisecond: a table of cases then computes no millisecond of it.
-- Assumes nothing.
use Prim.Native.Nat.{ℕ, zero, suc, ◌+◌, ◌-◌, ◌≤◌, ◌<◌}
use Prim.Native.String.{String}
use native.Mathlib.Nat.{not-suc-le-zero}
use native.Mathlib.Numerals.{unary_clauses}
use native.Mathlib.Omega.{arith}
use mathlib.Core.Path.{◌≡◌, refl, sym, ap, ◌∙◌}
use mathlib.Core.Bool.{Bool, true, false}
use mathlib.Core.List.{List, [], ◌∷◌, ◌++◌}
use lib.Dec.{leb}
use borrow.Author.Tests.{lt-leb}
use Rattle.laws.specs.Tests.{choose, both, either}
use Rattle.laws.specs.Tables.{every}
use Rattle.laws.specs.Text.{bytes}
use Rattle.laws.proofs.Tests.{choose-true, choose-false, choose-map}
use Rattle.decimal.specs.Printing.{decimal}
use Rattle.instruction.specs.Numbers.{same_numbers}
use Rattle.instruction.specs.declared.Cell.{Cell}
use Rattle.machine.specs.Record.{idle, moving}
use Rattle.machine.specs.Soundness.{sound}
use Rattle.machine.specs.Starting.{in_phase}
use Rattle.machine.specs.Milliseconds.{count_down, millisecond_in, millisecond_at, millisecond}
use Rattle.machine.specs.Waiting.{settled, end_at, Waited, wait_from, wait}
use Rattle.machine.specs.Calls.{Outcome, refused, waited, proper, act, apply, look, after}
use Rattle.machine.specs.Calls.Call.{Wait}
use Rattle.machine.specs.Cases.{bench}
use Rattle.machine.specs.Worked.{Expected, Worked, end_text, ending_text, comes, unmet}
use Rattle.machine.specs.Worked.Expected.{Answer, Silence, Order, Waits, Refusal}
use Rattle.machine.specs.Worked.Worked.{Case}
use Rattle.machine.specs.declared.Remaining.{Remaining}
use Rattle.machine.specs.declared.Remaining.TheVariants.{Nothing, Counted, Timed}
use Rattle.machine.specs.declared.Phase.{Phase}
use Rattle.machine.specs.declared.Phase.TheVariants.{Waiting, Delay, Run, Braking, Slowing, EmergencySlowing, BackOff}
use Rattle.machine.specs.declared.State.{State}
use Rattle.machine.specs.declared.Machine.{Machine}
use Rattle.machine.proofs.Tests.{by-test}

-- ---- a delay

-- the same cell in a delay of which k milliseconds remain
abbrev pub delaying : State → ℕ → State
delaying s k = in_phase s Delay (Timed (record { 0 = k }))

-- a millisecond of a delay that is not its last: one less remains
delay-step : (cells : List Cell) (s : State) (k : ℕ) → idle s ≡ false → millisecond cells (delaying s (suc (suc k))) ≡ delaying s (suc k)
unfolding idle millisecond millisecond_at millisecond_in count_down
delay-step cells s k t =
    let less : suc (suc k) - 1 ≡ suc k = omega arith in
    choose-false _ _ _ t ∙ choose-false _ _ _ (lt-leb (suc (suc k)) 1 (omega arith)) ∙ ap (delaying s) less

pub delay-unsettled : (s : State) (k : ℕ) → idle s ≡ false → settled (delaying s k) ≡ false
unfolding settled either idle moving
delay-unsettled s k t = rw t

-- how many milliseconds were given, and the state at the end
abbrev pub came_to : Waited → ℕ × State
came_to w = (w.given, w.last)

abbrev pub later : ℕ → ℕ × State → ℕ × State
later j r = (r.0 + j, r.1)

-- j milliseconds of a delay that has more
pub wait-delay :
    (j k n : ℕ) (cells : List Cell) (s : State) → idle s ≡ false →
    came_to (wait_from (n + j) false cells (delaying s (suc (k + j)))) ≡ later j (came_to (wait_from n false cells (delaying s (suc k))))
unfolding wait_from
wait-delay zero k n cells s t = simp unary_clauses
wait-delay (suc j) k n cells s t =
    simp unary_clauses
    (rw (delay-step cells s (k + j) t, delay-unsettled s (suc (k + j)) t)
    (ap (λ (r : ℕ × State). (suc r.0, r.1)) (wait-delay j k n cells s t)))

-- ---- passing over a delay

-- how many milliseconds of a delay come before its last
unfoldable pub before_last : Phase → Remaining → ℕ
before_last Delay (Timed n) = n.0 - 1
before_last Delay Nothing = 0
before_last Delay (Counted n) = 0
before_last Waiting r = 0
before_last Run r = 0
before_last Braking r = 0
before_last Slowing r = 0
before_last EmergencySlowing r = 0
before_last BackOff r = 0

in-delay : (p : Phase) (r : Remaining) (s : State) → 0 < before_last p r → in_phase s p r ≡ delaying s (suc (before_last p r))
unfolding before_last
in-delay Delay (Timed n) s h = let left : n.0 ≡ suc (n.0 - 1) = omega arith in ap (delaying s) left
in-delay Delay Nothing s h = absurd (not-suc-le-zero h)
in-delay Delay (Counted n) s h = absurd (not-suc-le-zero h)
in-delay Waiting r s h = absurd (not-suc-le-zero h)
in-delay Run r s h = absurd (not-suc-le-zero h)
in-delay Braking r s h = absurd (not-suc-le-zero h)
in-delay Slowing r s h = absurd (not-suc-le-zero h)
in-delay EmergencySlowing r s h = absurd (not-suc-le-zero h)
in-delay BackOff r s h = absurd (not-suc-le-zero h)

abbrev left_of : State → ℕ
left_of s = before_last s.running.phase s.running.remaining

-- how many of n milliseconds are passed over
unfoldable pub leap : ℕ → State → ℕ
leap n s = choose (idle s) 0 (n - (n - left_of s))

-- the state after j milliseconds of a delay that has more
unfoldable pub leapt : ℕ → State → State
leapt zero s = s
leapt (suc j) s = delaying s (left_of s - j)

leapt-wait :
    (n j : ℕ) (cells : List Cell) (s : State) → idle s ≡ false → j ≤ n → j ≤ left_of s →
    came_to (wait_from n (settled s) cells s) ≡ later j (came_to (wait_from (n - j) (settled (leapt j s)) cells (leapt j s)))
unfolding leapt
leapt-wait n zero cells s t h l = simp unary_clauses
leapt-wait n (suc j) cells s t h l =
    let k = left_of s - suc j in
    let here : s ≡ delaying s (suc (left_of s)) = in-delay s.running.phase s.running.remaining s (omega arith) in
    let budget : n ≡ (n - suc j) + suc j = omega arith in
    let left : left_of s ≡ k + suc j = omega arith in
    let there : left_of s - j ≡ suc k = omega arith in
    ap (λ (s : State). came_to (wait_from n (settled s) cells s)) (here ∙ ap (λ (k : ℕ). delaying s (suc k)) left)
    ∙ ap (λ (b : Bool). came_to (wait_from n b cells (delaying s (suc (k + suc j))))) (delay-unsettled s _ t)
    ∙ ap (λ (n : ℕ). came_to (wait_from n false cells (delaying s (suc (k + suc j))))) budget
    ∙ wait-delay (suc j) k (n - suc j) cells s t
    ∙ sym
    (ap (λ (b : Bool). later (suc j) (came_to (wait_from (n - suc j) b cells (delaying s (left_of s - j))))) (delay-unsettled s _ t)
    ∙ ap (λ (k : ℕ). later (suc j) (came_to (wait_from (n - suc j) false cells (delaying s k)))) there)

leap-wait :
    (n : ℕ) (cells : List Cell) (s : State) →
    came_to (wait_from n (settled s) cells s)
    ≡ later (leap n s) (came_to (wait_from (n - leap n s) (settled (leapt (leap n s) s)) cells (leapt (leap n s) s)))
unfolding leap
leap-wait n cells s =
    by-test (idle s) (λ t. rw (choose-true _ _ _ t) (unfold leapt in simp unary_clauses))
    (λ t. rw (choose-false _ _ _ t) (leapt-wait n _ cells s t (omega arith) (omega arith)))

-- a wait of n milliseconds, with f times a millisecond and a leap; the flag says that the state is settled
unfoldable pub quickly : ℕ → ℕ → Bool → List Cell → State → ℕ × State
quickly zero n b cells s = came_to (wait_from n b cells s)
quickly (suc f) zero b cells s = (0, s)
quickly (suc f) (suc n) true cells s = (0, s)
quickly (suc f) (suc n) false cells s =
    let t = millisecond cells s in
    let j = leap n t in
    later (suc j) (quickly f (n - j) (settled (leapt j t)) cells (leapt j t))

quickly-wait : (f n : ℕ) (b : Bool) (cells : List Cell) (s : State) → quickly f n b cells s ≡ came_to (wait_from n b cells s)
unfolding quickly wait_from
quickly-wait zero n b cells s = refl
quickly-wait (suc f) zero b cells s = refl
quickly-wait (suc f) (suc n) true cells s = refl
quickly-wait (suc f) (suc n) false cells s =
    let t = millisecond cells s in
    let j = leap n t in
    ap (later (suc j)) (quickly-wait f (n - j) (settled (leapt j t)) cells (leapt j t))
    ∙ simp unary_clauses (ap (λ (r : ℕ × State). (suc r.0, r.1)) (sym (leap-wait n cells t)))

-- ---- the worked cases

-- how a wait of a budget ends, as text
unfoldable pub wait_text : ℕ → Machine → List ℕ
wait_text n m =
    let r = quickly n n (settled m.state) m.cells m.state in
    choose (sound m) (choose (both (leb 1 n) (leb n 1000000)) (end_text (end_at r.1) ++ decimal r.0) []) []

wait-text : (n : ℕ) (m : Machine) → ending_text (look (Wait n) m).ending ≡ wait_text n m
unfolding look apply act ending_text wait wait_text
wait-text n m =
    rw (quickly-wait n n (settled m.state) m.cells m.state)
    (choose-map ending (sound m) (act (Wait n) m) (refused 2 m)
    ∙ ap (λ (l : List ℕ). choose (sound m) l [])
    (choose-map ending (both (leb 1 n) (leb n 1000000)) (waited m (wait n m.cells m.state)) (refused 8 m)))
  where
    ending : Outcome → List ℕ
    ending o = ending_text o.ending

unfoldable pub comes_quickly : Expected → Machine → Bool
comes_quickly (Waits n e) m = same_numbers (wait_text n m) (bytes e)
comes_quickly (Answer s a) m = comes (Answer s a) m
comes_quickly (Silence s) m = comes (Silence s) m
comes_quickly (Order o) m = comes (Order o) m
comes_quickly (Refusal c n) m = comes (Refusal c n) m

comes-quickly : (e : Expected) (m : Machine) → comes e m ≡ comes_quickly e m
unfolding comes comes_quickly
comes-quickly (Waits n e) m = ap (λ (l : List ℕ). same_numbers l (bytes e)) (wait-text n m)
comes-quickly (Answer s a) m = refl
comes-quickly (Silence s) m = refl
comes-quickly (Order o) m = refl
comes-quickly (Refusal c n) m = refl

unfoldable pub unmet_quickly : List Worked → List String
unmet_quickly [] = []
unmet_quickly (Case s cs e ∷ ws) =
    choose (both (every proper cs) (comes_quickly e (after cs bench))) (unmet_quickly ws) (s ∷ unmet_quickly ws)

pub unmet-quickly : (ws : List Worked) → unmet ws ≡ unmet_quickly ws
unfolding unmet unmet_quickly
unmet-quickly [] = refl
unmet-quickly (Case s cs e ∷ ws) = rw (comes-quickly e (after cs bench), unmet-quickly ws)
