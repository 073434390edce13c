-- Demand 1, the customer's plainest, as one statement: "Taken whole, the program meets every string, report and drive record with a result fixed in
-- document 01, refuses by number what it lists there, changes nothing when it refuses, and stops after every call."
-- Every call on every record, sound or not, has one result, and every call stops: `apply`, `made`, `ordered` and `rounded_of` are total, the contracts
-- of the program's functions equate their results with them, and a function that is proved ends. What that leaves to say stands here.
-- Assumes nothing.
use Rattle.std.specs.Prelude.{ℕ, suc, ◌≤◌, ◌<◌, ◌≡◌, Bool, true, false, not, ◌≢◌, ◌⊎◌, List, [], ◌∷◌, length, get_or, eqb, ltb, Ok, Err}
use Rattle.laws.specs.Tests.{choose, either}
use Rattle.frequency.specs.Rounding.{Greatest, rounded_of}
use Rattle.machine.specs.Record.{moving}
use Rattle.machine.specs.Soundness.{sound}
use Rattle.machine.specs.Reports.{takes_at_speed, takes_halted}
use Rattle.machine.specs.Orders.{order_of}
use Rattle.machine.specs.Waiting.{Waited, Least, end_at, milliseconds}
use Rattle.machine.specs.Calls.{Call, Outcome, refused, waited, apply, next}
use Rattle.machine.specs.Calls.Call.{SendString, SetInputs, Millisecond, Step, AtSpeed, Halted, Wait}
use Rattle.machine.specs.Operations.{buffer_after, made, ordered}
use Rattle.machine.specs.Operations.Made.{NotMade, Drive}
use Rattle.machine.specs.Operations.Ordered.{NoOrder, Order}
use Rattle.machine.specs.Invariant.{Kept}
use Rattle.machine.specs.declared.Machine.{Machine}
use Rattle.machine.specs.declared.answers.End.TheVariants as end

-- a refusal that 01 lists: its number, and whether it applies
pub record Refusal : Type 0 where
  pub number : ℕ
  pub applies : Bool

abbrev pub refusal : ℕ → Bool → Refusal
refusal n b = record { number = n; applies = b }

-- 01, "By operation": the refusals of a call after 2, in 01's words
unfoldable pub later : Call → Machine → List Refusal
-- "3, answer buffer under 64 bytes"
later (SendString b buffer) m = refusal 3 (ltb (length buffer) 64) ∷ []
-- "4, word above 2,047"
later (SetInputs w) m = refusal 4 (ltb 2047 w) ∷ []
later Millisecond m = []
-- "5, no run under way"
later Step m = refusal 5 (not (moving m.state)) ∷ []
-- "6, at-speed outside the run or braking of a ramp run, halted outside both slowings"
later AtSpeed m = refusal 6 (not (takes_at_speed m.cells m.state)) ∷ []
later Halted m = refusal 6 (not (takes_halted m.state)) ∷ []
-- "8, budget 0 or above 1,000,000"
later (Wait n) m = refusal 8 (either (eqb n 0) (ltb 1000000 n)) ∷ []

-- "2, drive unsound" is the first of every call
unfoldable pub listed : Call → Machine → List Refusal
listed c m = refusal 2 (not (sound m)) ∷ later c m

-- the number of the first that applies, 0 where none does
unfoldable pub first_of : List Refusal → ℕ
first_of [] = 0
first_of (r ∷ rs) = choose r.applies r.number (first_of rs)

-- 01, of a wait that is not refused: it "says which it was, and hands back how many were given, the drive being as after that many. That number is
-- the least, from 0 to the budget, after which one of the three holds."
pub record Waits (n : ℕ) (m : Machine) (o : Outcome) : Type 0 where
  pub result : Waited
  pub handed : o ≡ waited m result
  pub least : Least n m.cells m.state result
  -- the budget is reported spent only where all of it was given
  pub spent : end_at result.last ≡ end.Spent → result.given ≡ n
  -- what is shown of a wait is the drive after each of its milliseconds
  pub count : length result.trace ≡ result.given
  pub each : (k : ℕ) → k < result.given → get_or result.trace k m.state ≡ milliseconds (suc k) m.cells m.state

pub record Demand1 : Type 0 where
  -- "meets every string, report and drive record with a result fixed in document 01": a sound drive stays one
  pub kept : (c : Call) (m : Machine) → Kept m → Kept (next c m)
  -- "refuses by number what it lists there"
  pub number : (c : Call) (m : Machine) → (apply c m).refusal ≡ first_of (listed c m)
  -- "Fresh: 1, address above 47."
  pub unmade : (a : ℕ) → 47 < a → made a ≡ NotMade 1
  pub makes : (a : ℕ) → a ≤ 47 → (m : Machine) × ((made a ≡ Drive m) × Kept m)
  -- "Millisecond, board order: 2."
  pub unordered : (m : Machine) → sound m ≡ false → ordered m ≡ NoOrder 2
  pub orders : (m : Machine) → sound m ≡ true → ordered m ≡ Order (order_of m.cells m.state)
  -- "Frequency rounding: 7, value 0 or above 4800."
  pub unrounded : (f : ℕ) → (f ≡ 0) ⊎ (4800 < f) → rounded_of f ≡ Err 7
  pub rounds : (f : ℕ) → 1 ≤ f → f ≤ 4800 → (v : ℕ) × ((rounded_of f ≡ Ok v) × Greatest f v)
  -- "changes nothing when it refuses". 01: "Every refusal hands back its number, the drive as it came, and untouched buffers."
  pub unchanged : (c : Call) (m : Machine) → (apply c m).refusal ≢ 0 → apply c m ≡ refused (apply c m).refusal m
  pub untouched : (b buffer : List ℕ) (m : Machine) → (apply (SendString b buffer) m).refusal ≢ 0 → buffer_after b buffer m ≡ buffer
  -- "and stops after every call": a wait, the one call that lasts, gives the least number of milliseconds
  pub stops : (n : ℕ) (m : Machine) → (apply (Wait n) m).refusal ≡ 0 → Waits n m (apply (Wait n) m)
