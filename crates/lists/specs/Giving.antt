-- What the function of each word promises: the next drive, and what is seen of it, put into a buffer.
-- Assumes nothing.
use Rattle.std.specs.Prelude.{ℕ, ◌≡◌, Bool, true, false, List, length, Result, Ok, Err}
use Rattle.laws.specs.Writing.{Put}
use Rattle.machine.specs.declared.State.{State}
use Rattle.machine.specs.declared.Machine.{Machine}
use Rattle.operations.specs.Results.{number_of}
use Rattle.operations.specs.declared.results.Refusal.{Refusal}
use Rattle.encoding.specs.declared.Head.{Head}
use Rattle.encoding.specs.declared.Head.TheVariants.{NoWord, Text, Inputs, Millisecond, Step, AtSpeed, Halted, Wait, Order, Travel}
use Rattle.lists.specs.Listing.{Word, word_next, word_seen}

-- from the drive m and the bytes before, the word w led to the drive m' and the bytes later; what is seen of it stands from a place to an end
pub record Carries (w : Word) (m m' : Machine) (before later : List ℕ) (a e : ℕ) : Type 0 where
  pub machine : m' ≡ word_next w m
  pub bytes : Put before later (word_seen w m) a e

-- whether a word needs the whole drive
unfoldable pub is_whole : Head → Bool
is_whole NoWord = false
is_whole (Text room length) = true
is_whole (Inputs w) = false
is_whole Millisecond = false
is_whole Step = false
is_whole AtSpeed = false
is_whole Halted = false
is_whole (Wait n) = true
is_whole Order = false
is_whole (Travel n) = false

-- the refusal's number of an event, 0 where it is taken; and the state after it
unfoldable pub refusal_in : Result State Refusal → ℕ
refusal_in (Ok s) = 0
refusal_in (Err r) = number_of r

unfoldable pub state_after : State → Result State Refusal → State
state_after s (Ok next) = next
state_after s (Err r) = s
