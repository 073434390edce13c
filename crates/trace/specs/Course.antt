-- A program that nothing interrupts: the calls that time and the board make, and what the drive makes of them.
-- 02, Slip 2: "The steps are those that an uninterrupted run makes".
-- Assumes nothing.
use Rattle.std.specs.Prelude.{ℕ, zero, suc, ◌+◌, Bool, true, false, List, [], ◌∷◌, eqb, ℤ, pos, negsuc, ◌+ℤ◌}
use Rattle.laws.specs.Tests.{choose}
use Rattle.units.specs.declared.CellAddress.{CellAddress}
use Rattle.machine.specs.Record.{moving, with_state}
use Rattle.machine.specs.Starting.{started}
use Rattle.machine.specs.Milliseconds.{present}
use Rattle.machine.specs.Stepping.{runs_backward}
use Rattle.machine.specs.Waiting.{wait}
use Rattle.machine.specs.Calls.{Call, apply, next}
use Rattle.machine.specs.Calls.Call.{SendString, SetInputs, Millisecond, Step, AtSpeed, Halted, Wait}
use Rattle.machine.specs.declared.Phase.{Phase}
use Rattle.machine.specs.declared.Phase.TheVariants.{Waiting, Delay, Run, Braking, Slowing, EmergencySlowing, BackOff}
use Rattle.machine.specs.declared.State.{State}
use Rattle.machine.specs.declared.Machine.{Machine}

-- 01: "clears the error and makes BBB .. the present cell": a program started at a cell
abbrev pub begun : Machine → CellAddress → Machine
begun m a = with_state m (started m.state a)

-- no string and no inputs word comes; what is left is time, and the board: every other call, in any order, refused ones included
unfoldable pub uninterrupted : Call → Bool
uninterrupted (SendString b buffer) = false
uninterrupted (SetInputs w) = false
uninterrupted Millisecond = true
uninterrupted Step = true
uninterrupted AtSpeed = true
uninterrupted Halted = true
uninterrupted (Wait n) = true

-- a call that is not refused
unfoldable pub taken : Call → Machine → Bool
taken c m = eqb (apply c m).refusal 0

-- ---- steps

-- 01: "A step moves the position by one": forward or back
unfoldable pub signed : Bool → ℤ
signed backward = choose backward (negsuc 0) (pos 1)

-- the step that a call makes
unfoldable pub step_of : Call → Machine → ℤ
step_of Step m = choose (taken Step m) (signed (runs_backward m.state (present m.cells m.state))) (pos 0)
step_of (SendString b buffer) m = pos 0
step_of (SetInputs w) m = pos 0
step_of Millisecond m = pos 0
step_of AtSpeed m = pos 0
step_of Halted m = pos 0
step_of (Wait n) m = pos 0

-- the steps that a list of calls makes, net
unfoldable pub steps_over : List Call → Machine → ℤ
steps_over [] m = pos 0
steps_over (c ∷ cs) m = step_of c m +ℤ steps_over cs (next c m)

-- ---- milliseconds of delays

-- 01: "65: a delay of nnn later milliseconds"
unfoldable pub in_delay : Phase → ℕ
in_delay Delay = 1
in_delay Waiting = 0
in_delay Run = 0
in_delay Braking = 0
in_delay Slowing = 0
in_delay EmergencySlowing = 0
in_delay BackOff = 0

-- the same of each millisecond of a wait: of a state, and of those after it but the last
unfoldable pub delays_from : State → List State → ℕ
delays_from s [] = 0
delays_from s (t ∷ ts) = in_delay s.running.phase + delays_from t ts

-- the milliseconds of a delay that a call counts
unfoldable pub delay_of : Call → Machine → ℕ
delay_of Millisecond m = choose (taken Millisecond m) (in_delay m.state.running.phase) 0
delay_of (Wait n) m = choose (taken (Wait n) m) (delays_from m.state (wait n m.cells m.state).trace) 0
delay_of (SendString b buffer) m = 0
delay_of (SetInputs w) m = 0
delay_of Step m = 0
delay_of AtSpeed m = 0
delay_of Halted m = 0

-- the milliseconds of delays that a list of calls counts
unfoldable pub delays_over : List Call → Machine → ℕ
delays_over [] m = 0
delays_over (c ∷ cs) m = delay_of c m + delays_over cs (next c m)

-- ---- left alone

-- what comes next to a drive that is left alone: the board's step while a run is under way, else a millisecond
unfoldable pub given : Machine → Call
given m = choose (moving m.state) Step Millisecond

unfoldable pub course : ℕ → Machine → List Call
course zero m = []
course (suc n) m = given m ∷ course n (next (given m) m)
