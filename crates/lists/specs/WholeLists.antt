-- Calls written as the words of a list come to what the calls come to one by one: the drive after them, and what is seen of each.
-- Assumes nothing.
use Rattle.std.specs.Prelude.{ℕ, ◌+◌, ◌≤◌, ◌≡◌, Bool, true, List, [], ◌∷◌, ◌++◌, ltb, length, Ok}
use Rattle.laws.specs.Tests.{both}
use Rattle.laws.specs.Tables.{every}
use Rattle.machine.specs.Calls.{Call, Seen, after, seen}
use Rattle.machine.specs.Calls.Call.{SendString, SetInputs, Millisecond, Step, AtSpeed, Halted, Wait}
use Rattle.machine.specs.declared.Machine.{Machine}
use Rattle.encoding.specs.Numbers.{pair_bytes, number_bytes}
use Rattle.encoding.specs.Refusing.{refusal_of}
use Rattle.seen.specs.Bytes.{call_bytes}
use Rattle.lists.specs.Listing.{words_of, calls_of, bytes_of}

-- a call as a word: docs/PROTOCOL.md, the second column
unfoldable pub call_word : Call → List ℕ
call_word (SendString text buffer) = 83 ∷ length buffer ∷ (pair_bytes (length text) ++ text)
call_word (SetInputs w) = 73 ∷ pair_bytes w
call_word Millisecond = 77 ∷ []
call_word Step = 80 ∷ []
call_word AtSpeed = 65 ∷ []
call_word Halted = 72 ∷ []
call_word (Wait n) = 87 ∷ number_bytes n

-- one after another
unfoldable pub encode : List Call → List ℕ
encode [] = []
encode (c ∷ cs) = call_word c ++ encode cs

-- a call whose numbers a word can hold
unfoldable pub fits : Call → Bool
fits (SendString text buffer) = both (ltb (length text) 65536) (ltb (length buffer) 256)
fits (SetInputs w) = ltb w 65536
fits Millisecond = true
fits Step = true
fits AtSpeed = true
fits Halted = true
fits (Wait n) = ltb n 4294967296

-- how many bytes can be seen of a call, and of calls: the last column
unfoldable pub call_room : Call → ℕ
call_room (SendString text buffer) = 66
call_room (SetInputs w) = 1
call_room Millisecond = 1
call_room Step = 1
call_room AtSpeed = 1
call_room Halted = 1
call_room (Wait n) = 6

unfoldable pub room_needed : List Call → ℕ
room_needed [] = 0
room_needed (c ∷ cs) = call_room c + room_needed cs

-- what is seen of calls, as bytes, one after another
unfoldable pub told : List Call → List Seen → List ℕ
told [] ss = []
told (c ∷ cs) [] = []
told (c ∷ cs) (s ∷ ss) = call_bytes c s ++ told cs ss

pub record WholeLists : Type 0 where
  pub performs :
      (cs : List Call) (m : Machine) → every fits cs ≡ true →
      (after (calls_of (words_of (encode cs)) m) m ≡ after cs m) × (bytes_of (words_of (encode cs)) m ≡ told cs (seen cs m))
  pub taken : (cs : List Call) (space : ℕ) → every fits cs ≡ true → room_needed cs ≤ space → refusal_of space (encode cs) ≡ Ok tt
