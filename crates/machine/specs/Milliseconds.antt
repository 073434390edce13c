-- 01, "Carrying out": a millisecond.
-- Assumes nothing.
use Rattle.std.specs.Prelude.{◌-◌, List, leb}
use Rattle.laws.specs.Tests.{choose}
use Rattle.units.specs.declared.CellAddress.{CellAddress}
use Rattle.instruction.specs.declared.Cell.{Cell}
use Rattle.machine.specs.Record.{cell_at, idle}
use Rattle.machine.specs.Starting.{advanced, in_phase}
use Rattle.machine.specs.Taking.{take_cell}
use Rattle.machine.specs.declared.Remaining.{Remaining}
use Rattle.machine.specs.declared.Remaining.TheVariants.{Nothing, Counted, Timed}
use Rattle.machine.specs.declared.Phase.{Phase}
use Rattle.machine.specs.declared.Phase.TheVariants.{Waiting, Delay, Run, Braking, Slowing, EmergencySlowing, BackOff}
use Rattle.machine.specs.declared.State.{State}

-- the cell that is present
unfoldable pub present : List Cell → State → Cell
present cells s = cell_at cells s.running.cell

-- a millisecond of a delay: one less remains, and after the last the program goes on
unfoldable pub count_down : Remaining → State → CellAddress → State
count_down (Timed n) s next = choose (leb n.0 1) (advanced s next) (in_phase s Delay (Timed (record { 0 = n.0 - 1 })))
count_down Nothing s next = s
count_down (Counted n) s next = s

-- the cell of the interrupted record
unfoldable pub held : List Cell → State → Cell
held cells s = cell_at cells s.suspended.cell

-- what a millisecond does in a phase, given the present cell and the interrupted record's cell
unfoldable pub millisecond_in : Phase → State → Cell → Cell → State
millisecond_in Waiting s c h = take_cell s c h
millisecond_in Delay s c h = count_down s.running.remaining s c.next
millisecond_in Run s c h = s
millisecond_in Braking s c h = s
millisecond_in Slowing s c h = s
millisecond_in EmergencySlowing s c h = s
millisecond_in BackOff s c h = s

-- 01: "Each millisecond outside a run or delay takes the present cell"; an idle drive has none
unfoldable pub millisecond_at : State → Cell → Cell → State
millisecond_at s c h = choose (idle s) s (millisecond_in s.running.phase s c h)

unfoldable pub millisecond : List Cell → State → State
millisecond cells s = millisecond_at s (present cells s) (held cells s)
