-- 02, Slip 2, as one statement: "The steps are those that an uninterrupted run makes, if RS allows x4."
-- Assumes nothing.
use Rattle.std.specs.Prelude.{ℕ, ◌≤◌, ◌<◌, ◌≡◌, true, false, List, length, Ok}
use Rattle.laws.specs.Tables.{every}
use Rattle.units.specs.declared.CellAddress.{CellAddress}
use Rattle.instruction.specs.declared.adding.Sums.{Sums}
use Rattle.machine.specs.Record.{idle, input_at, in_ee, is_absolute}
use Rattle.machine.specs.Taking.{allows_x4}
use Rattle.machine.specs.Calls.{Call, after, next}
use Rattle.machine.specs.Calls.Call.{SendString}
use Rattle.machine.specs.Invariant.{Kept}
use Rattle.machine.specs.Demand2.{address_at, starting}
use Rattle.machine.specs.declared.Machine.{Machine}
use Rattle.trace.specs.Course.{begun, uninterrupted, steps_over, delays_over, course}
use Rattle.totals.specs.Walk.{totals_of}

-- a list of calls ends the program, and these are its steps, net, and the milliseconds of its delays
pub record Made (zs : List Call) (m : Machine) (total : Sums) : Type 0 where
  pub ends : idle (after zs m).state ≡ true
  pub steps : steps_over zs m ≡ total.steps.0
  pub delay : delays_over zs m ≡ total.delay.0

-- what a program makes that nothing interrupts
pub record Makes (m : Machine) (total : Sums) : Type 0 where
  -- left alone, it ends and has made exactly these
  pub alone : (n : ℕ) × Made (course n m) m total
  -- so it has in whichever order milliseconds, waits and the board's reports come, once it has ended
  pub exactly : (zs : List Call) → every uninterrupted zs ≡ true → idle (after zs m).state ≡ true → Made zs m total
  -- and whatever has come of these, left alone from then on it ends
  pub always :
      (zs : List Call) → every uninterrupted zs ≡ true →
      (n : ℕ) × (idle (after (course n (after zs m)) (after zs m)).state ≡ true)

pub record Figures : Type 0 where
  -- the totals of a start cell are made by a program that is started there, in relative mode, if RS allows x4
  pub figures :
      (m : Machine) → Kept m → is_absolute m.state.presets ≡ false → allows_x4 m.state.presets.resolution ≡ true →
      (a : CellAddress) (total : Sums) → totals_of m a ≡ Ok total → Makes (begun m a) total
  -- and a PS so starts it on an idle drive, if EE is off
  pub starts :
      (m : Machine) → Kept m → idle m.state ≡ true → input_at m.state in_ee ≡ false → (k : ℕ) → k < 131 →
      (buffer : List ℕ) → 64 ≤ length buffer → next (SendString (starting m k) buffer) m ≡ begun m (address_at k)
