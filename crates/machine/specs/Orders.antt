-- 01, "Carrying out": "After each event the order to the board is ..".
-- Assumes nothing.
use Rattle.std.specs.Prelude.{ℕ, ◌*◌, Bool, not, List}
use Rattle.laws.specs.Tests.{choose}
use Rattle.units.specs.declared.Steps.{Steps}
use Rattle.instruction.specs.Runs.{profile_of, still}
use Rattle.instruction.specs.declared.Cell.{Cell}
use Rattle.instruction.specs.declared.run.Profile.{Profile}
use Rattle.machine.specs.Record.{output_at, out_fc, out_cu}
use Rattle.machine.specs.Milliseconds.{present}
use Rattle.machine.specs.Stepping.{backward_in}
use Rattle.machine.specs.declared.Remaining.{Remaining}
use Rattle.machine.specs.declared.Remaining.TheVariants.{Nothing, Counted, Timed}
use Rattle.machine.specs.declared.Phase.{Phase}
use Rattle.machine.specs.declared.Phase.TheVariants.{Waiting, Delay, Run, Braking, Slowing, EmergencySlowing, BackOff}
use Rattle.machine.specs.declared.State.{State}
use Rattle.machine.specs.declared.answers.BoardSignals.{BoardSignals}
use Rattle.machine.specs.declared.answers.BoardOrder.{BoardOrder}
use Rattle.machine.specs.declared.answers.BoardOrder.TheVariants as order

-- 01: "always with IN, CU and FC"
abbrev pub signals_of : State → BoardSignals
signals_of s = record { current = s.presets.current; powered = output_at s out_cu; fc = output_at s out_fc }

-- 01: "signed rest (0 where none is counted)"
unfoldable pub remaining_steps : Remaining → Steps
remaining_steps (Counted n) = n
remaining_steps Nothing = still
remaining_steps (Timed n) = still

-- 01: "Hz × m"
unfoldable pub multiplied : ℕ → Bool → ℕ
multiplied hertz x4 = choose x4 (hertz * 4) hertz

-- 01: "direction, Hz × m, ramp code (0 without and in back) and signed rest"
unfoldable pub run_order : Phase → State → Profile → BoardOrder
run_order phase s p =
    order.Run (signals_of s) (backward_in phase p s.running.remaining) (multiplied p.hertz p.x4) p.ramp
    (remaining_steps s.running.remaining)

-- 01: "stand outside a run; slow in both slowings"; a 03 in back goes "at LL against s"
unfoldable pub order_in : Phase → State → Profile → BoardOrder
order_in Waiting s p = order.Stand (signals_of s)
order_in Delay s p = order.Stand (signals_of s)
order_in Run s p = run_order Run s p
order_in Braking s p = run_order Braking s p
order_in Slowing s p = order.Slow (signals_of s)
order_in EmergencySlowing s p = order.Slow (signals_of s)
order_in BackOff s p = order.Run (signals_of s) (not p.backward) p.slow 0 still

-- the order, given the present cell
unfoldable pub order_at : State → Cell → BoardOrder
order_at s c = order_in s.running.phase s (profile_of c.instruction)

unfoldable pub order_of : List Cell → State → BoardOrder
order_of cells s = order_at s (present cells s)
