-- Demand 1, proved.
-- Assumes nothing.
use Prim.Native.Nat.{ℕ, zero, suc, ◌≤◌, ◌<◌}
use native.Mathlib.Nat.{not-suc-le-zero, le_of_suc-le-suc}
use native.Mathlib.Omega.{arith}
use mathlib.Core.Path.{◌≡◌, refl, ap, sym, ◌∙◌}
use mathlib.Core.Bool.{Bool, true, false, not}
use mathlib.Core.Logic.{◌≢◌, ◌⊎◌, ⊎_elim}
use mathlib.Core.List.{List}
use lib.Dec.{leb, ltb, eqb}
use lib.ListN.{length, get_or}
use borrow.Author.Tests.{ltb-true, ltb-false, le-leb, lt-leb, lt-ltb, le-ltb, eq-eqb, ne_eqb}
use Rattle.std.specs.Prelude.{Ok, Err}
use Rattle.laws.specs.Tests.{choose, both, either}
use Rattle.laws.proofs.Tests.{choose-by, choose-true, choose-false, choose-map}
use Rattle.instruction.specs.declared.Cell.{Cell}
use Rattle.frequency.specs.Rounding.{Greatest, round_of, rounded_of}
use Rattle.frequency.proofs.Formula.{round-greatest}
use Rattle.machine.specs.Record.{fresh, moving}
use Rattle.machine.specs.Soundness.{sound}
use Rattle.machine.specs.Reports.{takes_at_speed, takes_halted}
use Rattle.machine.specs.Milliseconds.{millisecond}
use Rattle.machine.specs.Waiting.{settled, end_at, wait_from, wait, milliseconds}
use Rattle.machine.specs.Calls.{Call, Outcome, refused, waited, act, apply}
use Rattle.machine.specs.Calls.Call.{SendString, SetInputs, Millisecond, Step, AtSpeed, Halted, Wait}
use Rattle.machine.specs.Operations.{filled, buffer_after, made, ordered}
use Rattle.machine.specs.Operations.Made.{Drive}
use Rattle.machine.specs.Invariant.{Kept}
use Rattle.machine.specs.Demand1.{later, listed, first_of, Waits, Demand1}
use Rattle.machine.specs.declared.State.{State}
use Rattle.machine.specs.declared.Machine.{Machine}
use Rattle.machine.specs.declared.answers.End.TheVariants as end
use Rattle.machine.proofs.Tests.{by-test}
use Rattle.machine.proofs.Waits.{wait-least}
use Rattle.machine.proofs.Invariant.{invariant, refused-whole}

-- ---- numbers

abbrev number_of : Outcome → ℕ
number_of o = o.refusal

-- taken where a test passes is refused where it does not
taken_not : (b : Bool) (n k : ℕ) → choose b k n ≡ choose (not b) n k
unfolding choose
taken_not true n k = refl
taken_not false n k = refl

-- "8, budget 0 or above 1,000,000"
budget-not : (n : ℕ) → both (leb 1 n) (leb n 1000000) ≡ not (either (eqb n 0) (ltb 1000000 n))
unfolding both either
budget-not zero = refl
budget-not (suc n) =
    rw (le-leb 1 (suc n) (omega arith), ne_eqb (suc n) 0 (λ e. omega arith))
    (by-test (ltb 1000000 (suc n)) (λ t. lt-leb (suc n) 1000000 (ltb-true _ _ t) ∙ sym (ap not t))
    (λ t. le-leb (suc n) 1000000 (ltb-false _ _ t) ∙ sym (ap not t)))

acts-number : (c : Call) (m : Machine) → (act c m).refusal ≡ first_of (later c m)
unfolding act later first_of
acts-number (SendString b buffer) m = choose-map number_of (ltb (length buffer) 64) _ _
acts-number (SetInputs w) m = choose-map number_of (ltb 2047 w) _ _
acts-number Millisecond m = refl
acts-number Step m = choose-map number_of (moving m.state) _ _ ∙ taken_not (moving m.state) 5 0
acts-number AtSpeed m =
    choose-map number_of (takes_at_speed m.cells m.state) _ _ ∙ taken_not (takes_at_speed m.cells m.state) 6 0
acts-number Halted m = choose-map number_of (takes_halted m.state) _ _ ∙ taken_not (takes_halted m.state) 6 0
acts-number (Wait n) m = choose-map number_of _ _ _ ∙ ap (λ (b : Bool). choose b 0 8) (budget-not n) ∙ sym (taken_not _ 0 8)

call-number : (c : Call) (m : Machine) → (apply c m).refusal ≡ first_of (listed c m)
unfolding apply listed first_of
call-number c m =
    choose-map number_of (sound m) (act c m) (refused 2 m) ∙ ap (λ (n : ℕ). choose (sound m) n 2) (acts-number c m)
    ∙ taken_not (sound m) 2 _

fresh-made : (a : ℕ) → a ≤ 47 → (m : Machine) × ((made a ≡ Drive m) × Kept m)
unfolding made
fresh-made a h = (fresh (record { 0 = a }), (choose-false _ _ _ (le-ltb 47 a h), invariant.begins a h))

no-frequency : (f : ℕ) → (f ≡ 0) ⊎ (4800 < f) → rounded_of f ≡ Err 7
unfolding rounded_of
no-frequency f h =
    ⊎_elim (λ e. choose-true _ _ _ (eq-eqb f 0 e))
    (λ l. choose-false _ _ _ (ne_eqb f 0 (λ e. omega arith)) ∙ choose-true _ _ _ (lt-ltb 4800 f l)) h

-- 01: "is stored as the greatest table value not above it"
pub frequency-rounded : (f : ℕ) → 1 ≤ f → f ≤ 4800 → (rounded_of f ≡ Ok (round_of f)) × Greatest f (round_of f)
unfolding rounded_of
frequency-rounded f l h = (
  choose-false _ _ _ (ne_eqb f 0 (λ e. omega arith)) ∙ choose-false _ _ _ (le-ltb 4800 f h),
  round-greatest f l h,
)

refused-buffer : (b buffer : List ℕ) (m : Machine) → (apply (SendString b buffer) m).refusal ≢ 0 → buffer_after b buffer m ≡ buffer
unfolding buffer_after filled
refused-buffer b buffer m n = ap (λ (o : Outcome). filled o.answer buffer) (refused-whole (SendString b buffer) m n)

-- ---- waits

-- where idle or moving holds, another end is told
settled-end : (a b : Bool) → either a b ≡ true → choose a end.Idle (choose b end.Moving end.Spent) ≡ end.Spent → ⊥
unfolding either choose
settled-end true b t e = let z : ◌≡◌ {A = ℕ} 0 1 = cc in omega arith
settled-end false true t e = let z : ◌≡◌ {A = ℕ} 0 1 = cc in omega arith
settled-end false false t e = let z : ◌≡◌ {A = ℕ} 0 1 = cc in omega arith

spent-whole : (n : ℕ) (cells : List Cell) (s : State) → end_at (wait n cells s).last ≡ end.Spent → (wait n cells s).given ≡ n
unfolding end_at settled
spent-whole n cells s e =
    let l = wait-least n cells s in
    ⊎_elim (λ h. absurd (settled-end _ _ (ap settled l.state ∙ h) e)) (λ h. h) l.holds

trace-count : (n : ℕ) (b : Bool) (cells : List Cell) (s : State) → length (wait_from n b cells s).trace ≡ (wait_from n b cells s).given
unfolding wait_from
trace-count zero b cells s = refl
trace-count (suc n) true cells s = refl
trace-count (suc n) false cells s = ap suc (trace-count n _ cells (millisecond cells s))

trace-each :
    (n : ℕ) (b : Bool) (cells : List Cell) (s d : State) (k : ℕ) → k < (wait_from n b cells s).given →
    get_or (wait_from n b cells s).trace k d ≡ milliseconds (suc k) cells s
unfolding wait_from milliseconds
trace-each zero b cells s d k h = absurd (not-suc-le-zero h)
trace-each (suc n) true cells s d k h = absurd (not-suc-le-zero h)
trace-each (suc n) false cells s d zero h = refl
trace-each (suc n) false cells s d (suc k) h = trace-each n _ cells (millisecond cells s) d k (le_of_suc-le-suc h)

waits : (n : ℕ) (m : Machine) → (apply (Wait n) m).refusal ≡ 0 → Waits n m (apply (Wait n) m)
unfolding apply act wait
waits n m =
    choose-by Fine (sound m) (λ t. choose-by Fine _ (λ u e. given) (λ u e. absurd (omega arith))) (λ t e. absurd (omega arith))
  where
    Fine : Outcome → Type 0
    Fine o = o.refusal ≡ 0 → Waits n m o

    given : Waits n m (waited m (wait n m.cells m.state))
    given =
        record {
          result = wait n m.cells m.state;
          handed = refl;
          least = wait-least n m.cells m.state;
          spent = spent-whole n m.cells m.state;
          count = trace-count n _ m.cells m.state;
          each = trace-each n _ m.cells m.state m.state;
        }

pub demand1 : Demand1
unfolding made ordered
demand1 =
    record {
      kept = invariant.goes;
      number = call-number;
      unmade = λ a h. choose-true _ _ _ (lt-ltb 47 a h);
      makes = fresh-made;
      unordered = λ m t. choose-false _ _ _ t;
      orders = λ m t. choose-true _ _ _ t;
      unrounded = no-frequency;
      rounds = λ f l h. (round_of f, frequency-rounded f l h);
      unchanged = refused-whole;
      untouched = refused-buffer;
      stops = waits;
    }
