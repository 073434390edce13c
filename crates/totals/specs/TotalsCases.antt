-- Worked totals, from the sentences of 02, Slip 2: what the walk from a start cell gives, and what a run of it makes.
-- Assumes nothing.
use Rattle.std.specs.Prelude.{ℕ, zero, suc, ◌≡◌, Bool, true, false, List, [], ◌∷◌, eqb, ℤ, pos, negsuc, Ok, Err}
use Prim.Native.String.{String}
use Rattle.laws.specs.Tests.{choose, both}
use Rattle.units.specs.declared.CellAddress.{CellAddress}
use Rattle.instruction.specs.declared.Cell.{Cell}
use Rattle.instruction.specs.declared.Instruction.{Instruction}
use Rattle.instruction.specs.declared.Instruction.TheVariants.{Indexed, TimeDelay}
use Rattle.machine.specs.Record.{fresh, fresh_state, idle}
use Rattle.machine.specs.Calls.{Call, after}
use Rattle.machine.specs.Calls.Call.{Millisecond}
use Rattle.machine.specs.Cases.{send, bench}
use Rattle.machine.specs.declared.Machine.{Machine}
use Rattle.trace.specs.Course.{begun, steps_over, delays_over, course}
use Rattle.totals.specs.Walk.{Totalled, totals_of}

pub data TotalsCase : Type 0 where
  -- from a start cell, so many net steps and milliseconds
  Gives : String → Machine → ℕ → ℤ → ℕ → TotalsCase
  -- a refusal's number
  Refuses : String → Machine → ℕ → ℕ → TotalsCase
  -- a program started there and left alone makes so many net steps and milliseconds, in so many calls and no fewer
  Runs : String → Machine → ℕ → ℕ → ℤ → ℕ → TotalsCase

abbrev pub address : ℕ → CellAddress
address n = record { 0 = n }

unfoldable pub same_steps : ℤ → ℤ → Bool
same_steps (pos m) (pos n) = eqb m n
same_steps (negsuc m) (negsuc n) = eqb m n
same_steps (pos m) (negsuc n) = false
same_steps (negsuc m) (pos n) = false

unfoldable pub gives : Totalled → ℤ → ℕ → Bool
gives (Ok s) steps delay = both (same_steps s.steps.0 steps) (eqb s.delay.0 delay)
gives (Err k) steps delay = false

unfoldable pub refuses : Totalled → ℕ → Bool
refuses (Ok s) k = false
refuses (Err n) k = eqb n k

unfoldable pub idle_after : ℕ → Machine → Bool
idle_after n m = idle (after (course n m) m).state

unfoldable pub runs : ℕ → Machine → ℤ → ℕ → Bool
runs n m steps delay =
    both (choose (idle_after n m) false true)
    (both (idle_after (suc n) m)
    (both (same_steps (steps_over (course (suc n) m) m) steps) (eqb (delays_over (course (suc n) m) m) delay)))

unfoldable pub totals_hold : TotalsCase → Bool
totals_hold (Gives s m a steps delay) = gives (totals_of m (address a)) steps delay
totals_hold (Refuses s m a k) = refuses (totals_of m (address a)) k
totals_hold (Runs s m a n steps delay) = runs n (begun m (address a)) steps delay

unfoldable pub named : TotalsCase → String
named (Gives s m a steps delay) = s
named (Refuses s m a k) = s
named (Runs s m a n steps delay) = s

-- the sentences whose cases do not hold
unfoldable pub unheld : List TotalsCase → List String
unheld [] = []
unheld (c ∷ cs) = choose (totals_hold c) (unheld cs) (named c ∷ unheld cs)

-- a fresh drive at 00 after strings
abbrev pub told : List Call → Machine
told cs = after cs bench

-- ---- programs

-- so many cells of one instruction, each followed by the next address, and 000 after the last
unfoldable pub chain_from : ℕ → ℕ → Instruction → List Cell
chain_from zero a i = []
chain_from (suc zero) a i = record { instruction = i; next = address 0 } ∷ []
chain_from (suc (suc n)) a i = record { instruction = i; next = address (suc a) } ∷ chain_from (suc n) (suc a) i

-- a fresh drive with all 131 cells in such a chain
unfoldable pub chained : Instruction → Machine
chained i = record { state = fresh_state (record { 0 = 0 }); cells = chain_from 131 100 i }

-- five steps back at x4, an output, position 0, 400 milliseconds, three steps on
unfoldable pub program : List Call
program =
    send "00WN,100,11,05,-5,x4,101" ∷ send "00WN,101,58,O1,1,102" ∷ send "00WN,102,60,103" ∷ send "00WN,103,65,400,104" ∷
    send "00WN,104,31,030,10,+3,x1,000" ∷ []

unfoldable pub short : List Call
short = send "00WN,100,21,0100,-2,x4,110" ∷ send "00WN,110,65,3,120" ∷ send "00WN,120,01,03,10,+5,x1,000" ∷ []

-- ---- totals

unfoldable pub of_totals : List TotalsCase
of_totals =
    Gives "the net steps (with multipliers) and the delay milliseconds" (told program) 100 (negsuc 16) 400 ∷
    Gives "From a start cell" (told program) 103 (pos 3) 400 ∷
    Gives "relative mode" (after (send "00WS,CM,1" ∷ send "00SA,1000" ∷ []) (told program)) 100 (negsuc 16) 400 ∷
    Gives "if RS allows x4" (after (send "00WS,RS,D0" ∷ []) (told program)) 100 (negsuc 16) 400 ∷
    Gives "Codes 00, 57, 70" (told (send "00WN,100,00,230" ∷ send "00WN,230,57,1,+9,110" ∷ send "00WN,110,70,1,000" ∷ [])) 100 (pos 0) 0 ∷
    Gives "01, 11, 21, 31"
    (told
    (send "00WN,100,01,03,10,+1,x4,101" ∷ send "00WN,101,11,05,+10,x1,102" ∷ send "00WN,102,21,0100,+100,x4,103" ∷
    send "00WN,103,31,030,10,+1000,x1,000" ∷ []))
    100 (pos 1414) 0 ∷
    Gives "a run of 0 steps and a delay of 0" (told (send "00WN,230,11,05,+0,x4,100" ∷ send "00WN,100,65,0,000" ∷ [])) 230 (pos 0) 0 ∷
    Gives "131 cells of the longest run" (chained (Indexed 5 true (record { 0 = pos 8388607 }))) 100 (pos 4395630068) 0 ∷
    Gives "the same back" (chained (Indexed 5 true (record { 0 = negsuc 8388606 }))) 100 (negsuc 4395630067) 0 ∷
    Gives "131 of the longest delay" (chained (TimeDelay (record { 0 = 8388607 }))) 100 (pos 0) 1098907517 ∷
    Gives "131 delays of 65,535" (chained (TimeDelay (record { 0 = 65535 }))) 100 (pos 0) 8585085 ∷
    Gives "a busy drive" (after (send "00PS,104" ∷ Millisecond ∷ []) (told program)) 100 (negsuc 16) 400 ∷
    []

unfoldable pub of_refusals : List TotalsCase
of_refusals =
    Refuses "11, start outside 100 to 230 (000)" bench 0 11 ∷
    Refuses "11, start outside 100 to 230 (099)" bench 99 11 ∷
    Refuses "11, start outside 100 to 230 (231)" bench 231 11 ∷
    Refuses "after 2" (fresh (record { 0 = 48 })) 231 2 ∷
    Refuses "2 before 12" (after (send "00WN,100,00,100" ∷ []) (fresh (record { 0 = 48 }))) 100 2 ∷
    Refuses "12 for a cell met twice (itself)" (told (send "00WN,100,00,100" ∷ [])) 100 12 ∷
    Refuses "12 for a cell met twice (the start)" (told (send "00WN,100,65,9,101" ∷ send "00WN,101,00,100" ∷ [])) 100 12 ∷
    Refuses "12 for a cell met twice (on the way)"
    (told (send "00WN,100,00,101" ∷ send "00WN,101,11,05,+1,x1,230" ∷ send "00WN,230,00,101" ∷ [])) 100 12 ∷
    Refuses "13 for another code (the start)" (told (send "00WN,100,69" ∷ [])) 100 13 ∷
    Refuses "13 for another code (on the way)" (told (send "00WN,100,00,101" ∷ send "00WN,101,61,5,000" ∷ [])) 100 13 ∷
    Refuses "13 for another code (63)" (told (send "00WN,100,63,I0,0,100,000" ∷ [])) 100 13 ∷
    Refuses "13 for another code (62)" (told (send "00WN,100,62,100,000" ∷ [])) 100 13 ∷
    Refuses "13 for another code (12)" (told (send "00WN,100,12,05,+,x1,000" ∷ [])) 100 13 ∷
    Refuses "13 for another code (05)" (told (send "00WN,100,05,03,10,+,1,x1,000" ∷ [])) 100 13 ∷
    Refuses "whichever is met first" (told (send "00WN,100,00,101" ∷ send "00WN,101,03,03,10,+,02,100" ∷ [])) 100 13 ∷
    []

-- ---- runs

unfoldable pub of_runs : List TotalsCase
of_runs =
    Runs "The steps are those that an uninterrupted run makes" (told short) 100 18 (negsuc 2) 3 ∷
    Gives "The steps are those that an uninterrupted run makes (totals)" (told short) 100 (negsuc 2) 3 ∷
    []

pub record TotalsCases : Type 0 where
  pub totals : unheld of_totals ≡ []
  pub refusals : unheld of_refusals ≡ []
  pub runs : unheld of_runs ≡ []
