-- Worked cases, by computation: how many steps some travels give, and where one goes on.
-- Assumes nothing.
use Prim.Native.Nat.{ℕ}
use mathlib.Core.Path.{◌≡◌, refl}
use mathlib.Core.Bool.{true, false}
use lib.IntN.{pos}
use lib.ListN.{set, replicate}
use Rattle.instruction.specs.declared.Instruction.TheVariants.{Indexed}
use Rattle.machine.specs.Record.{null_cell, no_cam, none, fresh_state, fresh, with_cam, with_running}
use Rattle.machine.specs.declared.Cam.{Cam}
use Rattle.machine.specs.declared.Remaining.TheVariants.{Counted}
use Rattle.machine.specs.declared.Phase.TheVariants.{Run}
use Rattle.machine.specs.declared.State.{State}
use Rattle.machine.specs.declared.Machine.{Machine}
use Rattle.machine.proofs.Computing.{computing}
use Rattle.travel.specs.Travel.{alike, goes_on, given_from, travelled}

travels : Unit {0}
unfolding computing alike goes_on given_from travelled
travels = tt

-- a fresh drive but for an indexed run at a cell with 3 steps left, and a cam
abbrev running_at : ℕ → Cam → State
running_at a cam =
    with_running (with_cam (fresh_state (record { 0 = 0 })) cam)
    (record { cell = record { 0 = a }; phase = Run; remaining = Counted (record { 0 = pos 3 }); loops = 0; at_speed = false })

-- that run is of cell 100, the last of its program
abbrev running : Cam → Machine
running cam =
    record {
      state = running_at 100 cam;
      cells = set (replicate 131 null_cell) 0 (record { instruction = Indexed 10 false (record { 0 = pos 8 }); next = none });
    }

-- the run is over after its 3 steps
over-at-3 : travelled 5 (running no_cam) ≡ 3
unfolding travels
over-at-3 = refl

-- the cam is met with the second
met-at-2 : travelled 5 (running (record { set = true; position = record { 0 = 2 } })) ≡ 2
unfolding travels
met-at-2 = refl

-- no more than the limit
limited : travelled 1 (running no_cam) ≡ 1
unfolding travels
limited = refl

-- no run is under way
idle-none : travelled 5 (fresh (record { 0 = 0 })) ≡ 0
unfolding travels
idle-none = refl

-- a run of another cell is another travel
other-cell : goes_on (running_at 100 no_cam) (running_at 101 no_cam) ≡ false
unfolding travels
other-cell = refl
