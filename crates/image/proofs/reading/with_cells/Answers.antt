-- Each return by the step that led there.
-- Assumes nothing.
use native.Mathlib.Omega.{arith}
use mathlib.Core.Path.{refl, sym, ap, ◌∙◌}
use lib.ListN.{length}
use lib.Seq.{length-take-le}
use Rattle.machine.specs.Record.{fresh}
use Rattle.machine.specs.declared.Machine.{Machine}
use Rattle.image.specs.Results.{made_of}
use Rattle.image.proofs.ReadingSteps.{made_ok, loaded-refused, loaded-none, loaded-longer, loaded-unsound, loaded-whole}
use Rattle.image.proofs.reading.with_cells.Goals as goal

pub returns-in_err-fresh : goal.returns-in_err-fresh
unfolding made_of
returns-in_err-fresh c =
    rw c.from_residual.ensures (sym (loaded-refused _ c.args.presets _ _ c.fresh.ensures.result_value c.in_err-fresh.ensures.value))

pub slice_bounds-read_cells-end : goal.slice_bounds-read_cells-end
unfolding fresh
slice_bounds-read_cells-end c =
    let made = made_ok _ _ _ c.fresh.ensures.drive c.in_ok-fresh.ensures.value in
    let cells = ap (λ (m : Machine). length m.cells) made in
    sym (length-take-le 128 _ (rw cells (omega arith)))

pub returns-in_err-end : goal.returns-in_err-end
unfolding made_of
returns-in_err-end c =
    let made = made_ok _ _ _ c.fresh.ensures.drive c.in_ok-fresh.ensures.value in
    rw c.from_residual-in_err-end.ensures (sym (loaded-none _ _ _ _ _ _ made c.in_err-end.ensures refl))

pub returns-then-end-bytes : goal.returns-then-end-bytes
unfolding made_of
returns-then-end-bytes c =
    let made = made_ok _ _ _ c.fresh.ensures.drive c.in_ok-fresh.ensures.value in
    sym (loaded-longer _ _ _ _ _ _ made c.in_ok-end.ensures _ refl c.if-end-bytes.true)

pub returns-then-not-sound : goal.returns-then-not-sound
unfolding made_of
returns-then-not-sound c =
    let made = made_ok _ _ _ c.fresh.ensures.drive c.in_ok-fresh.ensures.value in
    sym (loaded-unsound _ _ _ _ _ _ made c.in_ok-end.ensures _ refl (sym c.sound.ensures ∙ c.if-not-sound.true))

pub returns : goal.returns
unfolding made_of
returns c =
    let made = made_ok _ _ _ c.fresh.ensures.drive c.in_ok-fresh.ensures.value in
    sym (loaded-whole _ _ _ _ _ _ made c.in_ok-end.ensures _ refl c.if-end-bytes.false (sym c.sound.ensures ∙ c.if-not-sound.false))
