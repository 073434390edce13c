-- What an operation on a sound drive hands back, as 01's numbers and values: the outcome of a call that demand 3's lists are made of.
-- Assumes nothing.
use Rattle.std.specs.Prelude.{ℕ, ◌≡◌, List, [], map, length, Result, Ok, Err}
use Rattle.machine.specs.Record.{with_state}
use Rattle.machine.specs.Waiting.{wait}
use Rattle.machine.specs.Calls.{Shown, shown_at, Outcome, done, refused}
use Rattle.machine.specs.Calls.{Ending as EndingOf}
use Rattle.machine.specs.Calls.Ending.{NoWait as no_wait, Ended as ended_with}
use Rattle.machine.specs.Operations.{filled}
use Rattle.machine.specs.declared.State.{State}
use Rattle.machine.specs.declared.Machine.{Machine}
use Rattle.operations.specs.declared.results.Refusal.{Refusal}
use Rattle.operations.specs.declared.results.Refusal.TheVariants.{AddressAbove47, Unsound, ShortBuffer, WordAbove2047, NoRunUnderWay, ReportOutOfPlace, BudgetOutOfRange}
use Rattle.operations.specs.declared.results.Ending.{Ending}

-- 01, "By operation": the number of each refusal
unfoldable pub number_of : Refusal → ℕ
number_of AddressAbove47 = 1
number_of Unsound = 2
number_of ShortBuffer = 3
number_of WordAbove2047 = 4
number_of NoRunUnderWay = 5
number_of ReportOutOfPlace = 6
number_of BudgetOutOfRange = 8

-- after an event on a drive
unfoldable pub acted_on : Machine → Result State Refusal → Outcome
acted_on m (Ok s) = done (with_state m s)
acted_on m (Err r) = refused (number_of r) m

-- how many bytes a string hands back, none where it is refused
unfoldable pub told_length : Result ℕ Refusal → ℕ
told_length (Ok n) = n
told_length (Err r) = 0

-- after a string, with the drive and the answer as they are then
unfoldable pub heard_as : Result ℕ Refusal → Machine → List ℕ → Outcome
heard_as (Ok n) m answer = record { refusal = 0; answer = answer; ending = no_wait; machine = m }
heard_as (Err r) m answer = refused (number_of r) m

-- after a string, with the drive after it and the buffer before and after it: the outcome is that of the call, the length is that of its answer,
-- and the answer stands at the front of the buffer, whose later bytes keep their content
pub record Answering (r : Result ℕ Refusal) (next : Machine) (before later : List ℕ) (o : Outcome) : Type 0 where
  pub outcome : heard_as r next o.answer ≡ o
  pub count : told_length r ≡ length o.answer
  pub bytes : later ≡ filled o.answer before

-- 01: "the order and the outputs must also be equal after each of its milliseconds": what a wait shows meanwhile
unfoldable pub shown_during : ℕ → Machine → List Shown
shown_during n m = map (shown_at m.cells) (wait n m.cells m.state).trace

-- "says which it was, and hands back how many were given"
unfoldable pub ending_as : Ending → List Shown → EndingOf
ending_as e shown = ended_with e.end e.given.0 shown

-- after a wait, with the drive as it is then and what was shown meanwhile
unfoldable pub waited_as : Result Ending Refusal → Machine → List Shown → Outcome
waited_as (Ok e) m shown = record { refusal = 0; answer = []; ending = ending_as e shown; machine = m }
waited_as (Err r) m shown = refused (number_of r) m
