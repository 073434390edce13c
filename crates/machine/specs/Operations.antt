-- 01, "By operation": what the operations hand back that is no part of a list of calls: the answer buffer, a fresh drive, the board order.
-- The other refusals are in Calls, that of frequency rounding is frequency's `rounded_of`.
-- Assumes nothing.
use Rattle.std.specs.Prelude.{ℕ, List, ◌++◌, length, drop, ltb}
use Rattle.laws.specs.Tests.{choose}
use Rattle.machine.specs.Record.{fresh}
use Rattle.machine.specs.Soundness.{sound}
use Rattle.machine.specs.Orders.{order_of}
use Rattle.machine.specs.Calls.{apply}
use Rattle.machine.specs.Calls.Call.{SendString}
use Rattle.machine.specs.declared.Machine.{Machine}
use Rattle.machine.specs.declared.answers.BoardOrder.{BoardOrder}

-- 01: "Answers fill the front; later bytes keep their content."
unfoldable pub filled : List ℕ → List ℕ → List ℕ
filled answer buffer = answer ++ drop (length answer) buffer

-- the buffer after a string: a refused or silent string has no answer, so its buffer is untouched
unfoldable pub buffer_after : List ℕ → List ℕ → Machine → List ℕ
buffer_after b buffer m = filled (apply (SendString b buffer) m).answer buffer

pub data Made : Type 0 where
  NotMade : ℕ → Made
  Drive : Machine → Made

-- 01: "A fresh drive takes its address (0 to 47)"; "Fresh: 1, address above 47."
unfoldable pub made : ℕ → Made
made a = choose (ltb 47 a) (NotMade 1) (Drive (fresh (record { 0 = a })))

pub data Ordered : Type 0 where
  NoOrder : ℕ → Ordered
  Order : BoardOrder → Ordered

-- 01: "Millisecond, board order: 2."
unfoldable pub ordered : Machine → Ordered
ordered m = choose (sound m) (Order (order_of m.cells m.state)) (NoOrder 2)
