-- `follow` meets its contract: each way through a turn is a way through the definition's.
-- Assumes nothing.
use Rattle.std.proofs.Common.{ℕ, ◌<◌, subst, ◌∙◌}
use mir.Facts.{to_z-of_z}
use Rattle.cellmap.specs.Marks.{marked, unmarked}
use Rattle.totals.proofs.Turning.{under-ended, under-place, under-again, under_other, under_on, under-linked, under-room, under-passed}
use Rattle.totals.proofs.walk.+follow.Goals as goal

pub returns-then-at-eq0-clause-sums_after : goal.returns-then-at-eq0-clause-sums_after
returns-then-at-eq0-clause-sums_after t c = under-ended c.args.cells.now c.requires.linked c.requires.room c.if-at-eq0.true

pub bounds-met-place : goal.bounds-met-place
bounds-met-place t c = under-place c.args.cells.now c.requires.linked c.requires.room c.place-place.ensures c.if-at-eq0.false

pub returns-then-met-place-clause-sums_after : goal.returns-then-met-place-clause-sums_after
returns-then-met-place-clause-sums_after t c = under-again c.args.cells.now c.requires.linked c.requires.room c.place-place.ensures c.if-at-eq0.false c.if-met-place.true

pub bounds-cells-place : goal.bounds-cells-place
bounds-cells-place t c = under-place c.args.cells.now c.requires.linked c.requires.room c.place-place.ensures c.if-at-eq0.false

pub returns-in_default-clause-sums_after : goal.returns-in_default-clause-sums_after
returns-in_default-clause-sums_after t c = under_other c.args.cells.now c.requires.linked c.requires.room c.place-place.ensures c.if-at-eq0.false c.if-met-place.false c.adds.ensures c.in_default.is

pub bounds-met-place-2 : goal.bounds-met-place-2
bounds-met-place-2 t c = under-place c.args.cells.now c.requires.linked c.requires.room c.place-place.ensures c.if-at-eq0.false

pub overflow_add-sums : goal.overflow_add-sums
overflow_add-sums t c =
    let w = under_on c.args.cells.now c.requires.linked c.requires.room c.place-place.ensures c.if-at-eq0.false c.requires.cells_value c.if-met-place.false c.adds.ensures c.in-Some.is in
    rw (to_z-of_z w.before, to_z-of_z w.steps) w.sum

pub overflow_add-sums-2 : goal.overflow_add-sums-2
overflow_add-sums-2 t c =
    let w = under_on c.args.cells.now c.requires.linked c.requires.room c.place-place.ensures c.if-at-eq0.false c.requires.cells_value c.if-met-place.false c.adds.ensures c.in-Some.is in
    record { fits = w.delay }

pub follow-requires : goal.follow-requires
follow-requires t c =
    let w = under_on c.args.cells.now c.requires.linked c.requires.room c.place-place.ensures c.if-at-eq0.false c.requires.cells_value c.if-met-place.false c.adds.ensures c.in-Some.is in (
      subst (λ (j : ℕ). unmarked (marked c.args.met.now c.place-place.result) < j) c.decreases w.less,
      (c.requires.cells_value, (under-linked c.args.cells.now c.requires.linked c.requires.room c.place-place.ensures c.if-at-eq0.false c.requires.cells_value c.if-met-place.false c.adds.ensures c.in-Some.is, under-room c.args.cells.now c.requires.linked c.requires.room c.place-place.ensures c.if-at-eq0.false c.requires.cells_value c.if-met-place.false c.adds.ensures c.in-Some.is)),
    )

pub returns-clause-sums_after : goal.returns-clause-sums_after
returns-clause-sums_after t c = c.follow.ensures.sums_after ∙ under-passed c.args.cells.now c.requires.linked c.requires.room c.place-place.ensures c.if-at-eq0.false c.requires.cells_value c.if-met-place.false c.adds.ensures c.in-Some.is
