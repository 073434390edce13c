-- `time::millisecond` meets its contract: the cells that a sound drive names have places and are sound, and one millisecond passes at them.
-- Assumes nothing.
use native.Mathlib.Omega.{arith}
use borrow.Author.Rules.{rules}
use Rattle.machine.specs.Milliseconds.{held}
use Rattle.machine.proofs.Places.{place-cell, place-present, place-sound, running-place, suspended-place, sound-cells, sound-running, sound-suspended}
use Rattle.operations.proofs.Acting.{time-at}
use Rattle.operations.proofs.time.millisecond.Goals as goal

pub bounds-machine-place : goal.bounds-machine-place
bounds-machine-place c = running-place _ _ (sound-running _ c.requires) c.place.ensures

pub bounds-machine-place-2 : goal.bounds-machine-place-2
bounds-machine-place-2 c =
    suspended-place _ _ (sound-suspended _ c.requires) c.place-2.ensures

pub offset_bounds-machine-place : goal.offset_bounds-machine-place
offset_bounds-machine-place c = omega (arith, running-place _ _ (sound-running _ c.requires) c.place.ensures)

pub offset_bounds-machine-place-2 : goal.offset_bounds-machine-place-2
offset_bounds-machine-place-2 c = omega (arith, suspended-place _ _ (sound-suspended _ c.requires) c.place-2.ensures)

pub millisecond-requires : goal.millisecond-requires
millisecond-requires c =
    let cells = sound-cells _ c.requires in
    (place-sound _ _ cells, place-sound _ _ cells)

pub returns : goal.returns
unfolding held
returns c =
    let cell = place-present _ _ c.place.ensures in
    time-at _ _ cell (place-cell _ _ c.place-2.ensures) c.millisecond.ensures
