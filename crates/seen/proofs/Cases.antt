-- Worked cases: orders with the outputs, flags as bits, ends of waits, and what is seen of strings and waits.
-- Assumes nothing.
use Prim.Native.Nat.{ℕ}
use mathlib.Core.Path.{◌≡◌, refl}
use mathlib.Core.Bool.{Bool, true, false}
use mathlib.Core.List.{List, [], ◌∷◌, map}
use lib.IntN.{negsuc}
use Rattle.laws.specs.Tests.{choose}
use Rattle.laws.specs.Text.{bytes}
use Rattle.machine.specs.Calls.{Ending, Shown, Seen}
use Rattle.machine.specs.Calls.Call.{SendString, Step, Wait}
use Rattle.machine.specs.Calls.Ending.{NoWait, Ended}
use Rattle.machine.specs.declared.answers.BoardSignals.{BoardSignals}
use Rattle.machine.specs.declared.answers.BoardOrder.{BoardOrder}
use Rattle.machine.specs.declared.answers.BoardOrder.TheVariants.{Stand, Slow, Run}
use Rattle.machine.specs.declared.answers.End.TheVariants.{Idle, Moving, Spent}
use Rattle.encoding.specs.Numbers.{number_bytes}
use Rattle.seen.specs.Bytes.{bits_of, signal_bits, parts_of, parts_bytes, shown_bytes, end_number, ending_bytes, call_bytes}

-- the first output and the last
abbrev ends : List Bool
ends =
    true ∷ false ∷ false ∷ false ∷ false ∷ false ∷ false ∷ false ∷ false ∷ false ∷ false ∷ false ∷ false ∷ true ∷ []

abbrev signals : ℕ → Bool → Bool → BoardSignals
signals current powered fc = record { current = current; powered = powered; fc = fc }

abbrev with-ends : BoardOrder → Shown
with-ends order = record { order = order; outputs = ends }

-- a stand with CU, a slow with FC, and a run backward with both: 9000 Hz, ramp 15, 31754 steps to go
shown-cases :
    map (λ (o : BoardOrder). shown_bytes (with-ends o))
    (Stand (signals 1 true false) ∷ Slow (signals 3 false true) ∷ Run (signals 2 true true) true 9000 15 (record { 0 = negsuc 31753 }) ∷ [])
    ≡ (0 ∷ 1 ∷ 1 ∷ 0 ∷ 0 ∷ 0 ∷ 0 ∷ 0 ∷ 0 ∷ 0 ∷ 0 ∷ 0 ∷ 1 ∷ 32 ∷ 0 ∷ 0 ∷ [])
    ∷ (1 ∷ 3 ∷ 2 ∷ 0 ∷ 0 ∷ 0 ∷ 0 ∷ 0 ∷ 0 ∷ 0 ∷ 0 ∷ 0 ∷ 1 ∷ 32 ∷ 0 ∷ 0 ∷ [])
    ∷ (2 ∷ 2 ∷ 7 ∷ 15 ∷ 40 ∷ 35 ∷ 0 ∷ 0 ∷ 246 ∷ 131 ∷ 255 ∷ 255 ∷ 1 ∷ 32 ∷ 0 ∷ 0 ∷ []) ∷ []
unfolding shown_bytes parts_bytes parts_of signal_bits bits_of number_bytes choose
shown-cases = refl

-- the first and the last of 14, the first two of three
bits-cases : map bits_of (ends ∷ (true ∷ true ∷ false ∷ []) ∷ []) ≡ 8193 ∷ 3 ∷ []
unfolding bits_of choose
bits-cases = refl

-- a wait that was refused, and each of the three ends
ending-cases :
    map ending_bytes (NoWait ∷ Ended Idle 5 [] ∷ Ended Moving 259 [] ∷ Ended Spent 1000000 [] ∷ [])
    ≡ (0 ∷ 0 ∷ 0 ∷ 0 ∷ 0 ∷ []) ∷ (1 ∷ 5 ∷ 0 ∷ 0 ∷ 0 ∷ []) ∷ (2 ∷ 3 ∷ 1 ∷ 0 ∷ 0 ∷ []) ∷ (3 ∷ 64 ∷ 66 ∷ 15 ∷ 0 ∷ []) ∷ []
unfolding ending_bytes end_number number_bytes
ending-cases = refl

abbrev seen_as : ℕ → List ℕ → Ending → Seen
seen_as refusal answer ending =
    record { refusal = refusal; answer = answer; ending = ending; shown = with-ends (Stand (signals 1 true false)) }

-- a string's answer, a string refused; a step refused; a wait that gave 5 milliseconds, and one refused
call-cases :
    call_bytes (SendString (bytes "00QS\r") []) (seen_as 0 (bytes "00Y\r") NoWait) ∷ call_bytes (SendString [] []) (seen_as 3 [] NoWait)
    ∷ call_bytes Step (seen_as 5 [] NoWait) ∷ call_bytes (Wait 9) (seen_as 0 [] (Ended Idle 5 [])) ∷ call_bytes (Wait 0) (seen_as 8 [] NoWait) ∷ []
    ≡ (0 ∷ 4 ∷ 48 ∷ 48 ∷ 89 ∷ 13 ∷ []) ∷ (3 ∷ 0 ∷ []) ∷ (5 ∷ []) ∷ (0 ∷ 1 ∷ 5 ∷ 0 ∷ 0 ∷ 0 ∷ []) ∷ (8 ∷ 0 ∷ 0 ∷ 0 ∷ 0 ∷ 0 ∷ []) ∷ []
unfolding call_bytes ending_bytes end_number number_bytes bytes
call-cases = refl
