-- What remains of a delay or a run: as an integer, and back, with the unit that the record gives it.
-- Assumes nothing.
use Rattle.std.specs.Prelude.{ℕ, Bool, true, false, List, eqb, Option, Some, None}
use Rattle.laws.specs.Tests.{choose, both}
use Rattle.units.specs.Bits.{steps_of, bits_of}
use Rattle.units.specs.declared.CellAddress.{CellAddress}
use Rattle.instruction.specs.declared.Cell.{Cell}
use Rattle.machine.specs.Record.{cell_at, with_suspended, with_running}
use Rattle.machine.specs.Soundness.{is_cell, is_delay}
use Rattle.machine.specs.declared.Phase.{Phase}
use Rattle.machine.specs.declared.Phase.TheVariants.{Waiting, Delay, Run, Braking, Slowing, EmergencySlowing, BackOff}
use Rattle.machine.specs.declared.Remaining.{Remaining}
use Rattle.machine.specs.declared.Remaining.TheVariants.{Nothing, Counted, Timed}
use Rattle.machine.specs.declared.State.{State}
use Rattle.machine.specs.declared.Suspended.{Suspended}
use Rattle.machine.specs.declared.Running.{Running}
use Rattle.raw.specs.Integers.{fits_long, fits_signed, long_of, extended}
use Rattle.raw.specs.declared.remaining.Counts.{Counts}

-- a remaining count as an integer; nothing is 0
unfoldable pub integer_of : Remaining → ℕ
integer_of Nothing = 0
integer_of (Counted n) = extended (bits_of n)
integer_of (Timed n) = n.0

-- both remaining counts of a state as integers: that of the interrupted record, and that of the program under way
unfoldable pub counts_of : State → Counts
counts_of s = record { suspended = integer_of s.suspended.remaining; running = integer_of s.running.remaining }

-- docs/SCRIPTS.md: "milliseconds where the phase is delay"
abbrev pub in_delay : Phase → Bool
in_delay Waiting = false
in_delay Delay = true
in_delay Run = false
in_delay Braking = false
in_delay Slowing = false
in_delay EmergencySlowing = false
in_delay BackOff = false

-- docs/SCRIPTS.md: "or in the interrupted record where its cell holds a 65"; where the cell is not 100 to 230 it holds none
unfoldable pub holds_delay : List Cell → CellAddress → Bool
holds_delay cells a = both (is_cell a) (is_delay (cell_at cells a).instruction)

-- docs/SCRIPTS.md: "0 is nothing. Any other number is milliseconds where .. else steps"; "Negative milliseconds are unrepresentable".
-- Both have 32 bits, steps with a sign.
unfoldable pub count_of : Bool → ℕ → Option Remaining
count_of timed v =
    choose (eqb v 0) (Some Nothing)
    (choose timed (choose (fits_long v) (Some (Timed (record { 0 = long_of v }))) None)
    (choose (fits_signed v) (Some (Counted (steps_of (long_of v)))) None))

-- a state with other remaining counts
abbrev pub suspended_with : Suspended → Remaining → Suspended
suspended_with r y = record { cell = r.cell; remaining = y; loops = r.loops }

abbrev pub running_with : Running → Remaining → Running
running_with r y =
    record { cell = r.cell; phase = r.phase; remaining = y; loops = r.loops; at_speed = r.at_speed }

abbrev pub with_counts : State → Remaining → Remaining → State
with_counts s from left = with_running (with_suspended s (suspended_with s.suspended from)) (running_with s.running left)

-- a state with both counts in their units, where it can hold them: that of the interrupted record is one of milliseconds where timed,
-- that of the program under way where the phase is delay
unfoldable pub with_both : State → Option Remaining → Option Remaining → Option State
with_both s None left = None
with_both s (Some from) None = None
with_both s (Some from) (Some left) = Some (with_counts s from left)

abbrev pub running_count : State → Counts → Option Remaining
running_count s n = count_of (in_delay s.running.phase) n.running

unfoldable pub counted : Bool → State → Counts → Option State
counted timed s n = with_both s (count_of timed n.suspended) (running_count s n)
