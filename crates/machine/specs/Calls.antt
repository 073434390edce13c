-- Calls, lists of calls, and what is seen of them: "Its calls are the events and waits."
-- Assumes nothing.
use Rattle.std.specs.Prelude.{ℕ, Bool, true, List, [], ◌∷◌, map, length, leb, ltb}
use Rattle.laws.specs.Tests.{choose, both}
use Rattle.laws.specs.Tables.{every}
use Rattle.instruction.specs.declared.Cell.{Cell}
use Rattle.machine.specs.Record.{with_state, moving}
use Rattle.machine.specs.Soundness.{sound}
use Rattle.machine.specs.Milliseconds.{millisecond}
use Rattle.machine.specs.Stepping.{step}
use Rattle.machine.specs.InputWords.{input_word}
use Rattle.machine.specs.Reports.{takes_at_speed, at_speed, takes_halted, halted}
use Rattle.machine.specs.Orders.{order_of}
use Rattle.machine.specs.Waiting.{Waited, wait, end_at}
use Rattle.machine.specs.Strings.{Heard, told}
use Rattle.machine.specs.declared.State.{State}
use Rattle.machine.specs.declared.Machine.{Machine}
use Rattle.machine.specs.declared.answers.BoardOrder.{BoardOrder}
use Rattle.machine.specs.declared.answers.End.{End}

-- 01: "A string comes with its own answer buffer, of any length and content, lent for that call only"
pub data Call : Type 0 where
  SendString : List ℕ → List ℕ → Call
  SetInputs : ℕ → Call
  Millisecond : Call
  Step : Call
  AtSpeed : Call
  Halted : Call
  Wait : ℕ → Call

-- strings and buffers are bytes
unfoldable pub is_byte : ℕ → Bool
is_byte b = ltb b 256

unfoldable pub proper : Call → Bool
proper (SendString b buffer) = both (every is_byte b) (every is_byte buffer)
proper (SetInputs w) = true
proper Millisecond = true
proper Step = true
proper AtSpeed = true
proper Halted = true
proper (Wait n) = true

-- 01: "afterwards the order and the outputs, O0 to O3, F0 to F7, FC and CU"
pub record Shown : Type 0 where
  pub order : BoardOrder
  pub outputs : List Bool

unfoldable pub shown_at : List Cell → State → Shown
shown_at cells s = record { order = order_of cells s; outputs = s.outputs }

unfoldable pub shown : Machine → Shown
shown m = shown_at m.cells m.state

-- of a wait which end and how many, and what was shown after each of its milliseconds
pub data Ending : Type 0 where
  NoWait : Ending
  Ended : End → ℕ → List Shown → Ending

-- what a call hands back: a refusal's number or 0, the answer bytes (none if silent or refused), the end of a wait, the next drive
pub record Outcome : Type 0 where
  pub refusal : ℕ
  pub answer : List ℕ
  pub ending : Ending
  pub machine : Machine

-- 01: "Every refusal hands back its number, the drive as it came, and untouched buffers"
abbrev pub refused : ℕ → Machine → Outcome
refused n m = record { refusal = n; answer = []; ending = NoWait; machine = m }

abbrev pub done : Machine → Outcome
done m = record { refusal = 0; answer = []; ending = NoWait; machine = m }

abbrev pub answered : Heard → Outcome
answered h = record { refusal = 0; answer = h.answer; ending = NoWait; machine = h.machine }

abbrev pub waited : Machine → Waited → Outcome
waited m w =
    record {
      refusal = 0;
      answer = [];
      ending = Ended (end_at w.last) w.given (map (shown_at m.cells) w.trace);
      machine = with_state m w.last;
    }

-- 01, "By operation", on a sound drive: 3, 4, 5, 6 and 8
unfoldable pub act : Call → Machine → Outcome
act (SendString b buffer) m = choose (ltb (length buffer) 64) (refused 3 m) (answered (told b m))
act (SetInputs w) m = choose (ltb 2047 w) (refused 4 m) (done (with_state m (input_word w m.cells m.state)))
act Millisecond m = done (with_state m (millisecond m.cells m.state))
act Step m = choose (moving m.state) (done (with_state m (step m.cells m.state))) (refused 5 m)
act AtSpeed m =
    choose (takes_at_speed m.cells m.state) (done (with_state m (at_speed m.state))) (refused 6 m)
act Halted m = choose (takes_halted m.state) (done (with_state m (halted m.cells m.state))) (refused 6 m)
act (Wait n) m =
    choose (both (leb 1 n) (leb n 1000000)) (waited m (wait n m.cells m.state)) (refused 8 m)

-- 01: "2, drive unsound", before all else
unfoldable pub apply : Call → Machine → Outcome
apply c m = choose (sound m) (act c m) (refused 2 m)

-- ---- whole lists

unfoldable pub next : Call → Machine → Machine
next c m = (apply c m).machine

-- 01: "Alike means that at each call these are equal: refusal number or none, answer bytes .., of a wait which end and how many, and afterwards the
-- order and the outputs"
pub record Seen : Type 0 where
  pub refusal : ℕ
  pub answer : List ℕ
  pub ending : Ending
  pub shown : Shown

unfoldable pub look : Call → Machine → Seen
look c m =
    record {
      refusal = (apply c m).refusal;
      answer = (apply c m).answer;
      ending = (apply c m).ending;
      shown = shown (apply c m).machine;
    }

-- 01: "A list's first call gets a fresh drive, each later one the drive handed back before it"
unfoldable pub after : List Call → Machine → Machine
after [] m = m
after (c ∷ cs) m = after cs (next c m)

unfoldable pub seen : List Call → Machine → List Seen
seen [] m = []
seen (c ∷ cs) m = look c m ∷ seen cs (next c m)
