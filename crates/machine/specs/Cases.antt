-- The cases that 01, "Bench strings and near misses", marks with *, in one table. A fresh drive of address 00 is meant.
-- Assumes nothing.
use Rattle.std.specs.Prelude.{ℕ, Bool, List, [], ◌∷◌, ◌++◌, replicate, eqb}
use Prim.Native.String.{String}
use Rattle.laws.specs.Text.{bytes}
use Rattle.frequency.specs.Rounding.{round_of}
use Rattle.instruction.specs.Numbers.{same_numbers}
use Rattle.machine.specs.Record.{fresh, moving}
use Rattle.machine.specs.Calls.{Call, next, look}
use Rattle.machine.specs.Calls.Call.{SendString, Millisecond}
use Rattle.machine.specs.declared.Machine.{Machine}

pub data Case : Type 0 where
  -- a frequency is stored as another
  Rounds : ℕ → ℕ → Case
  -- after some strings, a string is answered so
  Answers : List String → String → String → Case
  -- after some strings and a millisecond, a string is answered so
  Ends : List String → String → String → Case
  -- after some strings and a millisecond, a run is under way
  Runs : List String → Case

-- a string with its byte 13 and a buffer of 64 bytes
unfoldable pub send : String → Call
send s = SendString (bytes s ++ (13 ∷ [])) (replicate 64 0)

unfoldable pub send_all : List String → Machine → Machine
send_all [] m = m
send_all (s ∷ ss) m = send_all ss (next (send s) m)

unfoldable pub replies : String → String → Machine → Bool
replies s a m = same_numbers (look (send s) m).answer (bytes a ++ (13 ∷ []))

abbrev pub bench : Machine
bench = fresh (record { 0 = 0 })

unfoldable pub holds : Case → Bool
holds (Rounds v w) = eqb (round_of v) w
holds (Answers ss s a) = replies s a (send_all ss bench)
holds (Ends ss s a) = replies s a (next Millisecond (send_all ss bench))
holds (Runs ss) = moving (next Millisecond (send_all ss bench)).state

unfoldable pub starred : List Case
starred =
    Rounds 1 1 ∷ Rounds 224 224 ∷ Rounds 318 318 ∷ Rounds 319 318 ∷ Rounds 320 320 ∷ Rounds 2200 2181 ∷ Rounds 4799 4571 ∷ Rounds 4800 4800 ∷
    Answers ("00WN,100,21,2200,+007,X4,000" ∷ []) "00QM,100" "00QM,100,21,2181,+7,x4,000" ∷
    Answers ("00WN,100,57,0,-55,000" ∷ []) "00QM,100" "00QM,100,57,0,+0,000" ∷
    Answers [] "00WN,231,00,000" "00N" ∷
    Answers [] "00WN,230,00,000" "00Y" ∷
    Ends ("00WS,CM,1" ∷ "00SA,1" ∷ "00WN,100,11,05,-8388607,x1,000" ∷ "00PS,100" ∷ []) "00QE" "00QE,50,100" ∷
    Runs ("00WS,CM,1" ∷ "00WN,100,11,05,-8388607,x1,000" ∷ "00PS,100" ∷ []) ∷
    []
