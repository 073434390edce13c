-- `wait` meets its contract.
-- Assumes nothing.
use native.Mathlib.Omega.{arith}
use mathlib.Core.Path.{◌≡◌, refl, sym, ap, ◌∙◌}
use lib.ListN.{length}
use borrow.Author.Rules.{rules}
use Prim.Native.Nat.{◌<◌}
use Rattle.machine.specs.Record.{with_running}
use Rattle.machine.proofs.Places.{place-sound, suspended-place, running-place}
use Rattle.changes.proofs.Changing.{place-within}
use Rattle.waits.proofs.Carried.{millisecond-placed, changed-step}
use Rattle.waits.proofs.Waits.{ran_over, waiting-start, waiting-going, waiting-step, waiting-skip}
use Rattle.waits.proofs.wait.Goals as goal

pub loop-cells-init : goal.loop-cells-init
loop-cells-init c =
    let f : c.args.budget.0 < 4294967296 = search rules in
    let l : length c.args.cells ≡ 131 = search rules in
    let i : length c.args.state.inputs ≡ 11 = search rules in
    let o : length c.args.state.outputs ≡ 14 = search rules in
    waiting-start _ _ _ f l i o c.requires

-- the wait is over
pub returns-then-is_over : goal.returns-then-is_over
returns-then-is_over c =
    let t = sym c.is_over.ensures ∙ c.if-is_over.true in
    c.ended.ensures ∙ ran_over _ _ _ _ t ∙ c.loop-cells.invariant.rest

-- a delay that lasts
pub loop-cells-preserved-then-given-gt0 : goal.loop-cells-preserved-then-given-gt0
loop-cells-preserved-then-given-gt0 c =
    let l = c.lasting-given.ensures in
    let g = waiting-going c.loop-cells.invariant (sym c.is_over.ensures ∙ c.if-is_over.false) in
    waiting-skip g refl (omega (arith, l)) (omega (arith, l, g.room)) (ap (with_running c.loop-cells.d) c.counted_down-d.ensures)

-- the cell that is taken
pub offset_bounds-cells-place : goal.offset_bounds-cells-place
offset_bounds-cells-place c = omega (arith, running-place _ _ c.loop-cells.invariant.parts.running c.place.ensures)

pub bounds-cells-place : goal.bounds-cells-place
bounds-cells-place c = running-place _ _ c.loop-cells.invariant.parts.running c.place.ensures

pub next_change-change-requires : goal.next_change-change-requires
next_change-change-requires c = place-sound _ _ c.loop-cells.invariant.memory.sound

pub overflow_add-n-in-loop-cells : goal.overflow_add-n-in-loop-cells
overflow_add-n-in-loop-cells c =
    let g = waiting-going c.loop-cells.invariant (sym c.is_over.ensures ∙ c.if-is_over.false) in
    omega (arith, g.waiting.fits, g.room)

-- a change by value
pub offset_bounds-cells-place-then-is_more : goal.offset_bounds-cells-place-then-is_more
offset_bounds-cells-place-then-is_more c =
    omega (arith, suspended-place _ _ c.loop-cells.invariant.parts.suspended c.place-then-is_more.ensures)

pub bounds-cells-place-then-is_more : goal.bounds-cells-place-then-is_more
bounds-cells-place-then-is_more c = suspended-place _ _ c.loop-cells.invariant.parts.suspended c.place-then-is_more.ensures

pub millisecond-d-requires : goal.millisecond-d-requires
millisecond-d-requires c =
    let s = c.loop-cells.invariant.memory.sound in
    (place-sound _ _ s, place-sound _ _ s)

pub loop-cells-smaller-then-is_more : goal.loop-cells-smaller-then-is_more
loop-cells-smaller-then-is_more c =
    let g = waiting-going c.loop-cells.invariant (sym c.is_over.ensures ∙ c.if-is_over.false) in
    omega (arith, g.room)

pub loop-cells-preserved-then-is_more : goal.loop-cells-preserved-then-is_more
loop-cells-preserved-then-is_more c =
    let g = waiting-going c.loop-cells.invariant (sym c.is_over.ensures ∙ c.if-is_over.false) in
    let m = millisecond-placed c.args.cells c.loop-cells.d c.place.ensures c.place-then-is_more.ensures in
    waiting-step g (c.millisecond-d.ensures ∙ m)

-- a change in place
pub carry_out-requires : goal.carry_out-requires
carry_out-requires c =
    place-within c.loop-cells.d _ c.next_change-change.ensures (place-sound _ _ c.loop-cells.invariant.memory.sound)

pub loop-cells-smaller : goal.loop-cells-smaller
loop-cells-smaller c =
    let g = waiting-going c.loop-cells.invariant (sym c.is_over.ensures ∙ c.if-is_over.false) in
    omega (arith, g.room)

pub loop-cells-preserved : goal.loop-cells-preserved
loop-cells-preserved c =
    let g = waiting-going c.loop-cells.invariant (sym c.is_over.ensures ∙ c.if-is_over.false) in
    changed-step g c.place.ensures c.next_change-change.ensures (sym c.is_more.ensures ∙ c.if-is_more.false) c.carry_out.ensures
