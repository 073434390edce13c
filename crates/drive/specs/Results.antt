-- What an operation of the program hands back, as 01's numbers and values: the outcome of a call that demand 3's lists are made of.
-- Assumes nothing.
use Rattle.std.specs.Prelude.{ℕ, List, [], take, Result, Ok, Err}
use Rattle.laws.specs.Tests.{choose}
use Rattle.machine.specs.Soundness.{sound}
use Rattle.machine.specs.Calls.{Shown, Outcome, done, refused}
use Rattle.machine.specs.Calls.Ending.{NoWait as no_wait}
use Rattle.machine.specs.Operations.{Made, Ordered}
use Rattle.machine.specs.Operations.Made.{NotMade as not_made, Drive as drive}
use Rattle.machine.specs.Operations.Ordered.{NoOrder as no_order, Order as an_order}
use Rattle.machine.specs.declared.Machine.{Machine}
use Rattle.machine.specs.declared.answers.BoardOrder.{BoardOrder}
use Rattle.operations.specs.Results.{number_of, ending_as}
use Rattle.operations.specs.declared.results.Refusal.{Refusal}
use Rattle.operations.specs.declared.results.Refusal.TheVariants.{Unsound}
use Rattle.drive.specs.declared.Drive.{Drive}
use Rattle.drive.specs.declared.results.Refused.{Refused}
use Rattle.drive.specs.declared.results.Told.{Told}
use Rattle.drive.specs.declared.results.Waited.{Waited}

-- 01: "Every refusal hands back its number, the drive as it came"
unfoldable pub refused_with : Refusal → Drive → Refused
refused_with r d = record { refusal = r; drive = d }

-- what a refused call comes to
unfoldable pub refused_as : Refused → Outcome
refused_as r = refused (number_of r.refusal) r.drive.machine

-- after an event
unfoldable pub done_as : Result Drive Refused → Outcome
done_as (Ok d) = done d.machine
done_as (Err r) = refused_as r

-- after a string, with the buffer as it is then: the answer stands at its front
unfoldable pub told_as : Result Told Refused → List ℕ → Outcome
told_as (Ok t) buffer = record { refusal = 0; answer = take t.length buffer; ending = no_wait; machine = t.drive.machine }
told_as (Err r) buffer = refused_as r

-- how many bytes of the buffer answer a string, none where it is refused
unfoldable pub length_of : Result Told Refused → ℕ
length_of (Ok t) = t.length
length_of (Err r) = 0

-- after a wait, with what was shown meanwhile
unfoldable pub waited_as : Result Waited Refused → List Shown → Outcome
waited_as (Ok w) shown = record { refusal = 0; answer = []; ending = ending_as w.ending shown; machine = w.drive.machine }
waited_as (Err r) shown = refused_as r

-- 01: "Fresh: 1, address above 47."
unfoldable pub made_as : Result Drive Refused → Made
made_as (Ok d) = drive d.machine
made_as (Err r) = not_made (number_of r.refusal)

-- the record of the drive, also of the one beside a refusal
unfoldable pub machine_of : Result Drive Refused → Machine
machine_of (Ok d) = d.machine
machine_of (Err r) = r.drive.machine

-- 01: "Millisecond, board order: 2."
unfoldable pub ordered_as : Result BoardOrder Refusal → Ordered
ordered_as (Ok o) = an_order o
ordered_as (Err r) = no_order (number_of r)
