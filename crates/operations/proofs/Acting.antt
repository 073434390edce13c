-- What the lower crates give, at the cells that a drive has present, as the outcome of a call.
-- Assumes nothing.
use Prim.Native.Nat.{ℕ}
use mathlib.Core.Path.{◌≡◌, refl, sym, ap, subst, ◌∙◌}
use mathlib.Core.Bool.{Bool, true, false}
use mathlib.Core.List.{List}
use lib.Dec.{ltb}
use lib.ListN.{length}
use Rattle.std.specs.Prelude.{Ok, Err}
use Rattle.laws.proofs.Tests.{choose-true, choose-false}
use Rattle.instruction.specs.declared.Cell.{Cell}
use Rattle.machine.specs.Record.{with_state}
use Rattle.machine.specs.Milliseconds.{present, held, millisecond_at, millisecond}
use Rattle.machine.specs.Orders.{order_at, order_of}
use Rattle.machine.specs.Waiting.{wait}
use Rattle.machine.specs.Strings.{told}
use Rattle.machine.specs.Calls.{done, answered, waited, act}
use Rattle.machine.specs.Calls.Call.{SendString}
use Rattle.machine.specs.Operations.{filled}
use Rattle.machine.specs.declared.State.{State}
use Rattle.machine.specs.declared.Machine.{Machine}
use Rattle.machine.specs.declared.answers.BoardOrder.{BoardOrder}
use Rattle.waits.specs.Waiting.{ran_of}
use Rattle.waits.specs.declared.Ran.{Ran}
use Rattle.operations.specs.declared.results.Refusal.TheVariants.{ShortBuffer}
use Rattle.operations.specs.declared.results.Ending.{Ending}
use Rattle.operations.specs.Results.{number_of, told_length, heard_as, Answering, shown_during, ending_as, waited_as}

-- a millisecond and the order, at the present cell
pub time-at :
    (cells : List Cell) (s : State) {c h : Cell} {r : State} → present cells s ≡ c → held cells s ≡ h → r ≡ millisecond_at s c h →
    r ≡ millisecond cells s
unfolding millisecond
time-at cells s e q t = rw (e, q) t

pub order-at : (cells : List Cell) (s : State) {c : Cell} {r : BoardOrder} → present cells s ≡ c → r ≡ order_at s c → r ≡ order_of cells s
unfolding order_of
order-at cells s e t = rw e t

abbrev ended_by : Ran → Ending
ended_by r = record { end = r.end; given = r.given }

-- a wait that was given
pub ran-as :
    (m : Machine) (n : ℕ) {r : Ran} → r ≡ ran_of (wait n m.cells m.state) →
    waited_as (Ok (ended_by r)) (with_state m r.state) (shown_during n m) ≡ waited m (wait n m.cells m.state)
unfolding shown_during ending_as waited_as
ran-as m n e = ap (λ (r : Ran). waited_as (Ok (ended_by r)) (with_state m r.state) (shown_during n m)) e

-- a string whose buffer is too short
pub buffer-refused :
    (b buffer : List ℕ) (m : Machine) → ltb (length buffer) 64 ≡ true →
    Answering (Err ShortBuffer) m buffer buffer (act (SendString b buffer) m)
unfolding act number_of told_length heard_as filled
buffer-refused b buffer m t =
    subst (Answering _ m buffer buffer) (sym (choose-true _ _ _ t)) (record { outcome = refl; count = refl; bytes = refl })

-- a string that is given to the drive
pub string-told :
    (b buffer later : List ℕ) (m : Machine) {r : Machine} {n : ℕ} → ltb (length buffer) 64 ≡ false → r ≡ (told b m).machine →
    n ≡ length (told b m).answer → later ≡ filled (told b m).answer buffer →
    Answering (Ok n) r buffer later (act (SendString b buffer) m)
unfolding act told_length heard_as
string-told b buffer later m t e n l =
    subst (Answering _ _ buffer later) (sym (choose-false _ _ _ t))
    (record { outcome = ap (λ (x : Machine). answered (record { answer = (told b m).answer; machine = x })) e; count = n; bytes = l })
