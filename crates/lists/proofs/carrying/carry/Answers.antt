-- `carrying::carry` meets its contract.
-- Assumes nothing.
use Rattle.std.proofs.Common.{◌≡◌, length, sym, ◌∙◌, arith, rules}
use Rattle.machine.proofs.Places.{place-cell, place-present, place-sound, running-place, suspended-place, sound-cells, sound-running, sound-suspended}
use Rattle.lists.proofs.Turns.{carrying-start, carrying-word, carrying-step, carrying-end, word_fits, room-here, whole-turn, small-turn}
use Rattle.lists.proofs.carrying.carry.Goals as goal
use Rattle.lists.proofs.carrying.carry.Goals.{then-is_whole, else-is_whole}

pub loop-at-init : goal.loop-at-init
loop-at-init c =
    let m = c.args.machine in
    let l : length m.cells ≡ 131 = search (rules, c.well_formed) in
    let i : length m.state.inputs ≡ 11 = search (rules, c.well_formed) in
    let o : length m.state.outputs ≡ 14 = search (rules, c.well_formed) in
    carrying-start _ _ _ (record { cells = l; inputs = i; outputs = o; sound = c.requires.machine_value }) c.requires.list_value

pub overflow_add-at : goal.overflow_add-at
overflow_add-at c =
    let w = carrying-word c.loop-at.invariant c.loop-at-test.true in
    omega (arith, (word_fits _ _ c.head_of-head.ensures w c.size-size.ensures).1)

pub slice_bounds-tell-end : goal.slice_bounds-tell-end
slice_bounds-tell-end c =
    let w = carrying-word c.loop-at.invariant c.loop-at-test.true in
    omega (arith, (word_fits _ _ c.head_of-head.ensures w c.size-size.ensures).1)

pub tell-written-requires-clause-head_in_bounds : goal.tell-written-requires-clause-head_in_bounds
tell-written-requires-clause-head_in_bounds c =
    let l = c.loop-at in
    room-here _ _ c.head_of-head.ensures _ (carrying-word l.invariant c.loop-at-test.true) l.invariant.room

pub offset_bounds-machine-i : goal.offset_bounds-machine-i
offset_bounds-machine-i c =
    omega (arith, running-place _ _ (sound-running _ c.loop-at.invariant.kept.sound) c.place-i.ensures)

pub bounds-machine-i : goal.bounds-machine-i
bounds-machine-i c = running-place _ _ (sound-running _ c.loop-at.invariant.kept.sound) c.place-i.ensures

pub offset_bounds-machine-j : goal.offset_bounds-machine-j
offset_bounds-machine-j c =
    omega (arith, suspended-place _ _ (sound-suspended _ c.loop-at.invariant.kept.sound) c.place-j.ensures)

pub bounds-machine-j : goal.bounds-machine-j
bounds-machine-j c = suspended-place _ _ (sound-suspended _ c.loop-at.invariant.kept.sound) c.place-j.ensures

pub give-written-requires-clause-cell_value : goal.give-written-requires-clause-cell_value
give-written-requires-clause-cell_value c =
    let cells = sound-cells _ c.loop-at.invariant.kept.sound in
    (place-sound _ _ cells, place-sound _ _ cells)

pub give-written-requires-clause-head_in_bounds : goal.give-written-requires-clause-head_in_bounds
give-written-requires-clause-head_in_bounds c =
    let l = c.loop-at in
    room-here _ _ c.head_of-head.ensures _ (carrying-word l.invariant c.loop-at-test.true) l.invariant.room

pub overflow_add-at-in-loop-at : goal.overflow_add-at-in-loop-at
overflow_add-at-in-loop-at c =
    let w = carrying-word c.loop-at.invariant c.loop-at-test.true in
    omega (arith, (word_fits _ _ c.head_of-head.ensures w c.size-size.ensures).1)

pub loop-at-smaller : goal.loop-at-smaller
loop-at-smaller c =
    let w = carrying-word c.loop-at.invariant c.loop-at-test.true in
    let f = word_fits _ _ c.head_of-head.ensures w c.size-size.ensures in
    omega (arith, f.0, f.1)

pub loop-at-preserved : goal.loop-at-preserved
loop-at-preserved c =
    let l = c.loop-at in
    let q = c.head_of-head.ensures in
    let z = c.size-size.ensures in
    carrying-step l.invariant c.loop-at-test.true q z
    (elim c.if-is_whole.branch [
      | then-is_whole w ↦
          rw (w.buffer-is, w.machine-is, w.written-is)
          (whole-turn _ _ q z (sym c.is_whole.ensures ∙ w.if-is_whole.true) w.tell-written.ensures.carries w.tell-written.ensures.room)
      | else-is_whole w ↦
          let here = place-present _ _ w.place-i.ensures in
          let held = place-cell _ _ w.place-j.ensures in
          rw (w.buffer-is, w.machine-is, w.written-is)
          (small-turn _ _ q (sym c.is_whole.ensures ∙ w.if-is_whole.false)
          (w.give-written.ensures.carries _ l.invariant.kept here held) w.give-written.ensures.room)
    ])

pub returns-clause-machine_value_2 : goal.returns-clause-machine_value_2
returns-clause-machine_value_2 c = (carrying-end c.loop-at.invariant (omega (arith, c.loop-at-test.false))).0

pub returns-clause-bytes : goal.returns-clause-bytes
returns-clause-bytes c = (carrying-end c.loop-at.invariant (omega (arith, c.loop-at-test.false))).1.0
