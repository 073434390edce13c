-- Steps of one run, many in one call: as many `Step` calls, one after the other, until so many are given, or after one of them the run is over, the
-- present cell another or an output changed.
-- Assumes nothing.
use Rattle.std.specs.Prelude.{ℕ, zero, suc, ◌≤◌, ◌<◌, ◌≡◌, Bool, true, false, ◌⊎◌, List, [], ◌∷◌, eqb}
use Rattle.laws.specs.Tests.{both, same}
use Rattle.machine.specs.Record.{moving}
use Rattle.machine.specs.Calls.{Call, next, after}
use Rattle.machine.specs.Calls.Call.{Step}
use Rattle.machine.specs.declared.State.{State}
use Rattle.machine.specs.declared.Machine.{Machine}
use Rattle.travel.specs.declared.Travelled.{Travelled}

-- so many steps
unfoldable pub step_calls : ℕ → List Call
step_calls zero = []
step_calls (suc n) = Step ∷ step_calls n

-- the same outputs, one by one
unfoldable pub alike : List Bool → List Bool → Bool
alike [] [] = true
alike [] (b ∷ ys) = false
alike (a ∷ xs) [] = false
alike (a ∷ xs) (b ∷ ys) = both (same a b) (alike xs ys)

-- a travel that began at a state goes on at another: a run is under way, the present cell is the same, and so are the outputs
unfoldable pub goes_on : State → State → Bool
goes_on start s = both (moving s) (both (eqb start.running.cell.0 s.running.cell.0) (alike start.outputs s.outputs))

-- how many steps are given, of at most so many; the flag says that the travel goes on
unfoldable pub given_from : State → ℕ → Bool → Machine → ℕ
given_from start zero b m = 0
given_from start (suc n) false m = 0
given_from start (suc n) true m = suc (given_from start n (goes_on start (next Step m).state) (next Step m))

unfoldable pub travelled : ℕ → Machine → ℕ
travelled limit m = given_from m.state limit (goes_on m.state m.state) m

-- what is handed back: how many were given, and the drive after that many `Step` calls
pub record Travels (limit : ℕ) (m : Machine) (r : Travelled) : Type 0 where
  pub given : r.given ≡ travelled limit m
  pub drive : record { state = r.state; cells = m.cells } ≡ after (step_calls (travelled limit m)) m

-- the number is the least, from 0 to the limit, after which the travel does not go on or the limit is given
pub record Least (limit : ℕ) (m : Machine) (given : ℕ) : Type 0 where
  pub within : given ≤ limit
  pub holds : (goes_on m.state (after (step_calls given) m).state ≡ false) ⊎ (given ≡ limit)
  pub before : (k : ℕ) → k < given → goes_on m.state (after (step_calls k) m).state ≡ true

-- every travel gives the least number
pub record Travelling : Type 0 where
  pub least : (limit : ℕ) (m : Machine) → Least limit m (travelled limit m)
