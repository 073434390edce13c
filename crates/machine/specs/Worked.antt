-- The form of a worked case: some calls on a fresh drive of address 00, and what must come next. The cases are in WorkedCases.
-- Assumes nothing.
use Rattle.std.specs.Prelude.{ℕ, ◌+◌, ◌^◌, Bool, List, [], ◌∷◌, ◌++◌, eqb}
use Prim.Native.String.{String}
use Rattle.laws.specs.Tests.{choose, both}
use Rattle.laws.specs.Tables.{every}
use Rattle.laws.specs.Text.{bytes}
use Rattle.units.specs.Bits.{bits_of}
use Rattle.decimal.specs.Printing.{decimal}
use Rattle.fields.specs.Rows.{print_fields}
use Rattle.fields.specs.declared.kinds.Kind.TheVariants.{Count, Sign}
use Rattle.format.specs.Formats.{bit}
use Rattle.instruction.specs.Numbers.{bit_of, same_numbers}
use Rattle.machine.specs.Record.{in_px, in_s0, in_st, in_es, in_ee}
use Rattle.machine.specs.Commands.{any_signed}
use Rattle.machine.specs.Calls.{Call, Ending, proper, look, after, shown}
use Rattle.machine.specs.Calls.Call.{Wait}
use Rattle.machine.specs.Calls.Ending.{NoWait, Ended}
use Rattle.machine.specs.Cases.{send, replies, bench}
use Rattle.machine.specs.declared.Machine.{Machine}
use Rattle.machine.specs.declared.answers.BoardSignals.{BoardSignals}
use Rattle.machine.specs.declared.answers.BoardOrder.{BoardOrder}
use Rattle.machine.specs.declared.answers.BoardOrder.TheVariants as order
use Rattle.machine.specs.declared.answers.End.{End}
use Rattle.machine.specs.declared.answers.End.TheVariants as end

-- what comes next
pub data Expected : Type 0 where
  -- a string is answered so
  Answer : String → String → Expected
  -- a string is not answered
  Silence : String → Expected
  -- the order to the board is this
  Order : String → Expected
  -- a wait of this budget ends so, after so many milliseconds
  Waits : ℕ → String → Expected
  -- a call is refused by this number, or taken where it is 0
  Refusal : Call → ℕ → Expected

-- the sentence of 01 or 02 or the paragraph of 001 that is held, the calls, and what comes next
pub data Worked : Type 0 where
  Case : String → List Call → Expected → Worked

-- ---- orders and ends as text, with fields like those of an answer

-- IN, CU and FC
unfoldable pub signals_text : BoardSignals → List ℕ
signals_text l = print_fields (Count 0 3 ∷ bit ∷ bit ∷ []) (l.current ∷ bit_of l.powered ∷ bit_of l.fc ∷ [])

-- of a run: direction, Hz × m, ramp code and rest, then the signals
unfoldable pub order_text : BoardOrder → List ℕ
order_text (order.Stand l) = bytes "stand" ++ signals_text l
order_text (order.Slow l) = bytes "slow" ++ signals_text l
order_text (order.Run l b h r n) =
    bytes "run"
    ++ (print_fields (Sign ∷ Count 0 96000 ∷ Count 0 42 ∷ any_signed ∷ []) (bit_of b ∷ h ∷ r ∷ bits_of n ∷ []) ++ signals_text l)

unfoldable pub end_text : End → List ℕ
end_text end.Idle = bytes "idle "
end_text end.Moving = bytes "moving "
end_text end.Spent = bytes "spent "

unfoldable pub ending_text : Ending → List ℕ
ending_text NoWait = []
ending_text (Ended e n shown) = end_text e ++ decimal n

-- ---- the test

unfoldable pub comes : Expected → Machine → Bool
comes (Answer s a) m = replies s a m
comes (Silence s) m = same_numbers (look (send s) m).answer []
comes (Order o) m = same_numbers (order_text (shown m).order) (bytes o)
comes (Waits n e) m = same_numbers (ending_text (look (Wait n) m).ending) (bytes e)
comes (Refusal c n) m = eqb (look c m).refusal n

-- the sentences and paragraphs whose cases do not hold; the calls of a case are calls of demand 3
unfoldable pub unmet : List Worked → List String
unmet [] = []
unmet (Case s cs e ∷ ws) = choose (both (every proper cs) (comes e (after cs bench))) (unmet ws) (s ∷ unmet ws)

-- ---- the bits of an inputs word

-- the word with the input of a place on
abbrev pub bit_at : ℕ → ℕ
bit_at k = 2 ^ k

abbrev pub i1 : ℕ
i1 = bit_at 1

abbrev pub px : ℕ
px = bit_at in_px

abbrev pub s0 : ℕ
s0 = bit_at in_s0

abbrev pub s1 : ℕ
s1 = bit_at (in_s0 + 1)

abbrev pub s2 : ℕ
s2 = bit_at (in_s0 + 2)

abbrev pub s3 : ℕ
s3 = bit_at (in_s0 + 3)

abbrev pub st : ℕ
st = bit_at in_st

abbrev pub es : ℕ
es = bit_at in_es

abbrev pub ee : ℕ
ee = bit_at in_ee
