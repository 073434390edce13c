-- 02, Slip 5, as one statement over lists of calls.
-- Assumes nothing.
use Rattle.std.specs.Prelude.{ℕ, ◌≡◌, Bool, List, [], ◌∷◌}
use Rattle.instruction.specs.declared.Cell.{Cell}
use Rattle.machine.specs.Calls.{Call, after, next}
use Rattle.machine.specs.Calls.Call.{SendString, SetInputs, Millisecond, Step, AtSpeed, Halted, Wait}
use Rattle.machine.specs.declared.Machine.{Machine}
use Rattle.reachability.specs.Graph.{Counted, is_root}
use Rattle.usage.specs.Updating.{place_in, Updated}

-- what a call makes of the map beside its drive: a string brings it up to date, "with each WN", whichever string it is; no other call touches it
unfoldable pub Brought : Call → Machine → List Bool → List Bool → Type 0
Brought (SendString b buffer) m used map = Updated m.cells (next (SendString b buffer) m).cells (place_in b) used map
Brought (SetInputs w) m used map = used ≡ map
Brought Millisecond m used map = used ≡ map
Brought Step m used map = used ≡ map
Brought AtSpeed m used map = used ≡ map
Brought Halted m used map = used ≡ map
Brought (Wait n) m used map = used ≡ map

-- and a list of calls
pub data Along : List Call → Machine → List Bool → List Bool → Type 0 where
  end : {m : Machine} {used : List Bool} → Along [] m used used
  call :
      {z : Call} {zs : List Call} {m : Machine} {used mid map : List Bool} →
      Brought z m used mid → Along zs (next z m) mid map → Along (z ∷ zs) m used map

pub record UsedCells : Type 0 where
  -- "After every list of WN strings, from a fresh or loaded drive with its map so counted, the map is what a fresh count over the cells gives": of any
  -- calls, and from any drive
  pub exactly :
      (zs : List Call) (m : Machine) (used map : List Bool) → Counted m.cells is_root used → Along zs m used map →
      Counted (after zs m).cells is_root map
  -- a fresh count has one outcome
  pub one : (cells : List Cell) (used map : List Bool) → Counted cells is_root used → Counted cells is_root map → used ≡ map
  -- and so has an update, also of a map that was not so counted
  pub settled :
      (before new : List Cell) (at : ℕ) (used mid map : List Bool) → Updated before new at used mid → Updated before new at used map → mid ≡ map
