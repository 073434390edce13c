-- What taking a cell and a millisecond change of a state, and what a change makes of it. The laws in proofs/Changing say that a state so
-- changed is the one that `take` and `millisecond_at` of `machine` give.
-- Assumes nothing.
use Rattle.std.specs.Prelude.{ℕ, ◌-◌, Bool, true, false, List, eqb, leb}
use Rattle.laws.specs.Tests.{choose, same}
use Rattle.units.specs.declared.CellAddress.{CellAddress}
use Rattle.units.specs.declared.Milliseconds.{Milliseconds}
use Rattle.instruction.specs.declared.Cell.{Cell}
use Rattle.instruction.specs.declared.Instruction.{Instruction}
use Rattle.instruction.specs.declared.Instruction.TheVariants.{Null, IndexedRamp, IndexedRampFine, FreeRamp, FreeRampFine}
use Rattle.instruction.specs.declared.Instruction.TheVariants.{Indexed, IndexedFine, Free, FreeFine, ZeroSearch, DelayedStop}
use Rattle.instruction.specs.declared.Instruction.TheVariants.{CamSetting, OutputSetting, CounterReset, OpeningLoop, ClosingLoop}
use Rattle.instruction.specs.declared.Instruction.TheVariants.{ConditionalJump, TimeDelay, Recovery, CurrentSetting}
use Rattle.machine.specs.Record.{at_rest, origin, with_cam, with_fault, with_output, with_position, with_running, out_cu}
use Rattle.machine.specs.Taking.{level_at}
use Rattle.machine.specs.declared.Phase.{Phase}
use Rattle.machine.specs.declared.Phase.TheVariants.{Waiting, Delay, Run, Braking, Slowing, EmergencySlowing, BackOff}
use Rattle.machine.specs.declared.Remaining.{Remaining}
use Rattle.machine.specs.declared.Remaining.TheVariants.{Nothing, Counted, Timed}
use Rattle.machine.specs.declared.Running.{Running}
use Rattle.machine.specs.declared.State.{State}
use Rattle.progress.specs.Passing.{passed_to}
use Rattle.changes.specs.declared.Change.{Change}
use Rattle.changes.specs.declared.Change.TheVariants as change

-- a change that does not say all: another cell, or a run
abbrev pub is_more : Change → Bool
is_more change.Nothing = false
is_more (change.Advance a n) = false
is_more (change.Output a k v) = false
is_more (change.Cam a x) = false
is_more (change.Position a x) = false
is_more (change.Delay m n) = false
is_more (change.Fault code) = false
is_more change.More = true

-- the running part in a delay of which so much remains, with at_speed
abbrev pub delay_of : Running → Bool → Milliseconds → Running
delay_of r m n = record { cell = r.cell; phase = Delay; remaining = Timed n; loops = r.loops; at_speed = m }

-- the running part after a change. 01: "An error ends the program"
abbrev pub running_after : Change → Running → Running
running_after change.Nothing r = r
running_after (change.Advance a n) r = passed_to a n
running_after (change.Output a k v) r = passed_to a r.loops
running_after (change.Cam a x) r = passed_to a r.loops
running_after (change.Position a x) r = passed_to a r.loops
running_after (change.Delay m n) r = delay_of r m n
running_after (change.Fault code) r = at_rest
running_after change.More r = r

-- the state with the one other part that a change sets, where it sets one
abbrev pub part_set : Change → State → State
part_set change.Nothing s = s
part_set (change.Advance a n) s = s
part_set (change.Output a k v) s = with_output s k v
part_set (change.Cam a x) s = with_cam s x
part_set (change.Position a x) s = with_position s x
part_set (change.Delay m n) s = s
part_set (change.Fault code) s = with_fault s (record { code = code; cell = s.running.cell })
part_set change.More s = s

-- the state that a change makes of one
abbrev pub changed_by : Change → State → State
changed_by x s = with_running (part_set x s) (running_after x s.running)

-- the place of the output that is set, among the 14
abbrev pub place_in : Change → ℕ
place_in change.Nothing = 0
place_in (change.Advance a n) = 0
place_in (change.Output a k v) = k
place_in (change.Cam a x) = 0
place_in (change.Position a x) = 0
place_in (change.Delay m n) = 0
place_in (change.Fault code) = 0
place_in change.More = 0

-- ---- taking a cell

-- 01: "62: count 0 is error 52; else one less, then DDD at 0, EEE otherwise"
unfoldable pub closing_loop : ℕ → CellAddress → CellAddress → Change
closing_loop n jump next =
    choose (eqb n 0) (change.Fault 52) (change.Advance (choose (eqb n 1) next jump) (n - 1))

-- 01: "65: a delay of nnn later milliseconds; 0 passes on"
unfoldable pub time_delay : Milliseconds → ℕ → CellAddress → Change
time_delay d n next = choose (eqb d.0 0) (change.Advance next n) (change.Delay false d)

-- 01: "00, 57, 58, 60 (position 0), 70 (CU), 61 (loop count = nnn) act and pass to DDD"; "63: EEE if II equals V, else DDD".
-- A run that begins and a 69, which goes on at another cell, change more.
unfoldable pub change_of : ℕ → List Bool → List Bool → Instruction → CellAddress → Change
change_of n ins outs Null next = change.Advance next n
change_of n ins outs (CamSetting v p) next = change.Cam next (record { set = v; position = p })
change_of n ins outs (OutputSetting o v) next = change.Output next o.0 v
change_of n ins outs CounterReset next = change.Position next origin
change_of n ins outs (CurrentSetting v) next = change.Output next out_cu v
change_of n ins outs (OpeningLoop k) next = change.Advance next k
change_of n ins outs (ClosingLoop e) next = closing_loop n e next
change_of n ins outs (ConditionalJump i v e) next = change.Advance (choose (same (level_at ins outs i.0) v) e next) n
change_of n ins outs (TimeDelay t) next = time_delay t n next
change_of n ins outs Recovery next = change.More
change_of n ins outs (IndexedRamp f r x k) next = change.More
change_of n ins outs (IndexedRampFine f r x k) next = change.More
change_of n ins outs (FreeRamp f r b x) next = change.More
change_of n ins outs (FreeRampFine f r b x) next = change.More
change_of n ins outs (Indexed f x k) next = change.More
change_of n ins outs (IndexedFine x f k) next = change.More
change_of n ins outs (Free f b x) next = change.More
change_of n ins outs (FreeFine b x f) next = change.More
change_of n ins outs (ZeroSearch f r b l) next = change.More
change_of n ins outs (DelayedStop f r t k) next = change.More

-- the same of a state
abbrev pub taken_change : State → Instruction → CellAddress → Change
taken_change s i next = change_of s.running.loops s.inputs s.outputs i next

-- ---- a millisecond

-- a millisecond of a delay: one less remains, and after the last the program goes on
unfoldable pub delay_change : Remaining → Bool → ℕ → CellAddress → Change
delay_change (Timed n) m loops next = choose (leb n.0 1) (change.Advance next loops) (change.Delay m (record { 0 = n.0 - 1 }))
delay_change Nothing m loops next = change.Nothing
delay_change (Counted n) m loops next = change.Nothing

-- 01: "Each millisecond outside a run or delay takes the present cell"
unfoldable pub change_in : Phase → Running → List Bool → List Bool → Cell → Change
change_in Waiting r ins outs c = change_of r.loops ins outs c.instruction c.next
change_in Delay r ins outs c = delay_change r.remaining r.at_speed r.loops c.next
change_in Run r ins outs c = change.Nothing
change_in Braking r ins outs c = change.Nothing
change_in Slowing r ins outs c = change.Nothing
change_in EmergencySlowing r ins outs c = change.Nothing
change_in BackOff r ins outs c = change.Nothing

-- what the next millisecond of a busy drive changes, given the present cell
abbrev pub change_at : Running → List Bool → List Bool → Cell → Change
change_at r ins outs c = change_in r.phase r ins outs c

abbrev pub next_change : State → Cell → Change
next_change s c = change_at s.running s.inputs s.outputs c
