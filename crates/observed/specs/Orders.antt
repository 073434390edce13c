-- The order to the board as text, `stand:IN,CU,FC`, `slow:IN,CU,FC` or `run:+,Hz,ramp,+rest,IN,CU,FC`, and the end of a wait.
-- Assumes nothing.
use Rattle.std.specs.Prelude.{ℕ, Bool, true, false, List, ◌++◌}
use Rattle.laws.specs.Text.{bytes}
use Rattle.units.specs.Bits.{bits_of}
use Rattle.units.specs.declared.Steps.{Steps}
use Rattle.decimal.specs.Printing.{decimal, signed}
use Rattle.machine.specs.declared.answers.BoardSignals.{BoardSignals}
use Rattle.machine.specs.declared.answers.BoardOrder.{BoardOrder}
use Rattle.machine.specs.declared.answers.BoardOrder.TheVariants.{Stand, Slow, Run}
use Rattle.machine.specs.declared.answers.End.{End}
use Rattle.machine.specs.declared.answers.End.TheVariants.{Idle, Moving, Spent}

unfoldable pub flag_text : Bool → List ℕ
flag_text true = bytes ",1"
flag_text false = bytes ",0"

-- IN, CU and FC
unfoldable pub signals_text : BoardSignals → List ℕ
signals_text l = decimal l.current ++ (flag_text l.powered ++ flag_text l.fc)

-- a number and a comma
unfoldable pub field_text : ℕ → List ℕ
field_text v = decimal v ++ bytes ","

unfoldable pub direction_text : Bool → List ℕ
direction_text true = bytes "run:-,"
direction_text false = bytes "run:+,"

-- the direction, Hz, the ramp code and the rest, which is signed
unfoldable pub run_text : Bool → ℕ → ℕ → Steps → List ℕ
run_text backward hertz ramp remaining =
    direction_text backward ++ (field_text hertz ++ (field_text ramp ++ (signed (bits_of remaining) ++ bytes ",")))

unfoldable pub order_text : BoardOrder → List ℕ
order_text (Stand signals) = bytes "stand:" ++ signals_text signals
order_text (Slow signals) = bytes "slow:" ++ signals_text signals
order_text (Run signals backward hertz ramp remaining) = run_text backward hertz ramp remaining ++ signals_text signals

unfoldable pub end_text : End → List ℕ
end_text Idle = bytes "idle"
end_text Moving = bytes "moving"
end_text Spent = bytes "spent"
