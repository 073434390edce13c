-- What is seen of a call, as bytes: docs/PROTOCOL.md, the fourth column.
-- Assumes nothing.
use Rattle.std.specs.Prelude.{ℕ, ◌+◌, ◌*◌, Bool, false, List, [], ◌∷◌, ◌++◌, length, Option, Some, None}
use Rattle.laws.specs.Tests.{choose}
use Rattle.machine.specs.Calls.{Call, Ending, Shown, Seen}
use Rattle.machine.specs.Calls.Call.{SendString, SetInputs, Millisecond, Step, AtSpeed, Halted, Wait}
use Rattle.machine.specs.Calls.Ending.{NoWait, Ended}
use Rattle.machine.specs.declared.answers.BoardSignals.{BoardSignals}
use Rattle.machine.specs.declared.answers.BoardOrder.{BoardOrder}
use Rattle.machine.specs.declared.answers.BoardOrder.TheVariants.{Stand, Slow, Run}
use Rattle.machine.specs.declared.answers.End.{End}
use Rattle.machine.specs.declared.answers.End.TheVariants.{Idle, Moving, Spent}
use Rattle.units.specs.Bits.{bits_of as step_bits}
use Rattle.operations.specs.Results.{ending_as}
use Rattle.operations.specs.declared.results.Ending.{Ending as EndingBy}
use Rattle.encoding.specs.Numbers.{number_bytes}
use Rattle.seen.specs.declared.orders.Parts.{Parts}

-- flags as bits, the first in bit 0
unfoldable pub bits_of : List Bool → ℕ
bits_of [] = 0
bits_of (b ∷ bs) = choose b 1 0 + 2 * bits_of bs

-- CU in bit 0, FC in bit 1, a run backward in bit 2
unfoldable pub signal_bits : BoardSignals → Bool → ℕ
signal_bits s backward = choose s.powered 1 0 + choose s.fc 2 0 + choose backward 4 0

abbrev pub standing : ℕ → BoardSignals → Parts
standing kind s =
    record { kind = kind; current = s.current; signals = signal_bits s false; ramp = 0; hertz = 0; remaining = 0 }

-- the parts of an order: kind, IN, signals, and of a run its ramp, Hz and rest
unfoldable pub parts_of : BoardOrder → Parts
parts_of (Stand s) = standing 0 s
parts_of (Slow s) = standing 1 s
parts_of (Run s backward hertz ramp remaining) =
    record { kind = 2; current = s.current; signals = signal_bits s backward; ramp = ramp; hertz = hertz; remaining = step_bits remaining }

unfoldable pub parts_bytes : Parts → List ℕ
parts_bytes p = p.kind ∷ p.current ∷ p.signals ∷ p.ramp ∷ number_bytes p.hertz ++ number_bytes p.remaining

-- an order and the outputs
unfoldable pub shown_bytes : Shown → List ℕ
shown_bytes s = parts_bytes (parts_of s.order) ++ number_bytes (bits_of s.outputs)

unfoldable pub end_number : End → ℕ
end_number Idle = 1
end_number Moving = 2
end_number Spent = 3

-- which end a wait had and how many milliseconds it gave; zeros where it was refused
unfoldable pub ending_bytes : Ending → List ℕ
ending_bytes NoWait = 0 ∷ number_bytes 0
ending_bytes (Ended end given shown) = end_number end ∷ number_bytes given

-- how a wait ended, if it was not refused
unfoldable pub ended_as : Option EndingBy → Ending
ended_as (Some e) = ending_as e []
ended_as None = NoWait

-- of each call its refusal; of a string also the answer with its length, of a wait its end
unfoldable pub call_bytes : Call → Seen → List ℕ
call_bytes (SendString b buffer) s = s.refusal ∷ length s.answer ∷ s.answer
call_bytes (SetInputs w) s = s.refusal ∷ []
call_bytes Millisecond s = s.refusal ∷ []
call_bytes Step s = s.refusal ∷ []
call_bytes AtSpeed s = s.refusal ∷ []
call_bytes Halted s = s.refusal ∷ []
call_bytes (Wait n) s = s.refusal ∷ ending_bytes s.ending
