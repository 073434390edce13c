-- `parts::present_cell` meets its contract: the cell that a sound drive names has a place, and is sound.
-- Assumes nothing.
use native.Mathlib.Omega.{arith}
use borrow.Author.Rules.{rules}
use Rattle.machine.specs.Milliseconds.{present}
use Rattle.machine.proofs.Places.{place-cell, place-sound, running-place, sound-cells, sound-running}
use Rattle.operations.proofs.parts.present_cell.Goals as goal

pub bounds-machine-place : goal.bounds-machine-place
bounds-machine-place c = running-place _ _ (sound-running _ c.requires) c.place.ensures

pub offset_bounds-machine-place : goal.offset_bounds-machine-place
offset_bounds-machine-place c = omega (arith, running-place _ _ (sound-running _ c.requires) c.place.ensures)

pub returns : goal.returns
unfolding present
returns c =
    record {
      state_value = place-cell _ _ c.place.ensures;
      sound = place-sound _ _ (sound-cells _ c.requires);
    }
