-- Going on to the next cell replaces the running part.
-- Assumes nothing.
use Prim.Native.Nat.{ℕ}
use mathlib.Core.Path.{◌≡◌, refl}
use mathlib.Core.Bool.{Bool, true, false}
use lib.Dec.{eqb}
use Rattle.laws.specs.Tests.{choose}
use Rattle.units.specs.declared.CellAddress.{CellAddress}
use Rattle.machine.specs.Record.{at_rest, with_running, stopped}
use Rattle.machine.specs.Starting.{waiting_at, advanced}
use Rattle.machine.specs.declared.State.{State}
use Rattle.progress.specs.Passing.{passed_to}

passing-by :
    (b : Bool) (s : State) (next : CellAddress) (n : ℕ) →
    with_running s (choose b at_rest (waiting_at next n)) ≡ choose b (stopped s) (with_running s (waiting_at next n))
unfolding choose
passing-by true s next n = refl
passing-by false s next n = refl

-- passing on replaces the running part
pub passing : (s : State) (next : CellAddress) → with_running s (passed_to next s.running.loops) ≡ advanced s next
unfolding passed_to advanced
passing s next = passing-by (eqb next.0 0) s next s.running.loops
