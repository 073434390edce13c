-- 01, "Carrying out": waiting. "Waiting gives milliseconds until idle, moving or the budget is spent, judged in that order before each".
-- Assumes nothing.
use Rattle.std.specs.Prelude.{ℕ, zero, suc, ◌≤◌, ◌<◌, ◌≡◌, Bool, true, false, ◌⊎◌, List, [], ◌∷◌}
use Rattle.laws.specs.Tests.{choose, either}
use Rattle.instruction.specs.declared.Cell.{Cell}
use Rattle.machine.specs.Record.{idle, moving}
use Rattle.machine.specs.Milliseconds.{millisecond}
use Rattle.machine.specs.declared.State.{State}
use Rattle.machine.specs.declared.answers.End.{End}
use Rattle.machine.specs.declared.answers.End.TheVariants as end

-- idle or moving: a wait does not go on from here
unfoldable pub settled : State → Bool
settled s = either (idle s) (moving s)

-- how a wait that ends here ended, "judged in that order"
unfoldable pub end_at : State → End
end_at s = choose (idle s) end.Idle (choose (moving s) end.Moving end.Spent)

-- how many milliseconds were given, the state after each of them, and the state at the end
pub record Waited : Type 0 where
  pub given : ℕ
  pub trace : List State
  pub last : State

abbrev pub no_more : State → Waited
no_more s = record { given = 0; trace = []; last = s }

abbrev pub one_more : State → Waited → Waited
one_more s w = record { given = suc w.given; trace = s ∷ w.trace; last = w.last }

-- with so many milliseconds left of the budget; the flag says that the state is settled
unfoldable pub wait_from : ℕ → Bool → List Cell → State → Waited
wait_from zero b cells s = no_more s
wait_from (suc n) true cells s = no_more s
wait_from (suc n) false cells s =
    one_more (millisecond cells s) (wait_from n (settled (millisecond cells s)) cells (millisecond cells s))

unfoldable pub wait : ℕ → List Cell → State → Waited
wait budget cells s = wait_from budget (settled s) cells s

-- so many milliseconds, one after the other
unfoldable pub milliseconds : ℕ → List Cell → State → State
milliseconds zero cells s = s
milliseconds (suc n) cells s = milliseconds n cells (millisecond cells s)

-- 01: "That number is the least, from 0 to the budget, after which one of the three holds", "the drive being as after that many"
pub record Least (budget : ℕ) (cells : List Cell) (s : State) (w : Waited) : Type 0 where
  pub within : w.given ≤ budget
  pub holds : (settled (milliseconds w.given cells s) ≡ true) ⊎ (w.given ≡ budget)
  pub before : (k : ℕ) → k < w.given → settled (milliseconds k cells s) ≡ false
  pub state : w.last ≡ milliseconds w.given cells s
