-- `Cell::sound` meets its contract: each arm joins what the definition joins of its variant.
-- Assumes nothing.
use mathlib.Core.Path.{◌≡◌, sym, ap, ◌∙◌}
use mathlib.Core.Bool.{Bool}
use mathlib.Core.Logic.{⊎_elim}
use Rattle.laws.specs.Tests.{choose}
use Rattle.units.specs.declared.CellAddress.{CellAddress}
use Rattle.instruction.specs.declared.Instruction.{Instruction}
use Rattle.instruction.specs.Codes.{code_of}
use Rattle.format.specs.Formats.{fields_in, fields_of}
use Rattle.instruction.specs.Numbers.{travel_backward, travel_x4, numbers_with}
use Rattle.instruction.specs.Soundness.{canonical, cell_sound}
use Rattle.instruction.proofs.TestsFields.{settable-valid, condition-valid, count-valid, upto-valid}
use Rattle.instruction.proofs.TestsRows.{row-none, row_next, row-value, row_one, row-one-value, row-jump, row-cam}
use Rattle.instruction.proofs.TestsRows.{row-free, row-free-ramp, row-search, row-indexed, row-indexed-ramp, row-stop}
use Rattle.instruction.proofs.Cell.sound.Goals as goal

-- the soundness of a cell whose instruction is known to be another
told : (d : CellAddress) {i j : Instruction} {r : Bool} → i ≡ j →
    r ≡ cell_sound (record { instruction = j; next = d }) → r ≡ cell_sound (record { instruction = i; next = d })
told d e q = q ∙ sym (ap (λ (i : Instruction). cell_sound (record { instruction = i; next = d })) e)

-- what the definition opens to, at each instruction
opened : Unit {0}
unfolding cell_sound canonical code_of fields_of fields_in choose numbers_with
opened = tt

pub returns-in-IndexedRamp : goal.returns-in-IndexedRamp
unfolding opened
returns-in-IndexedRamp c =
    let w = c.in-IndexedRamp in
    told _ w.is (row-indexed-ramp _ _ _ _ _ _ w.x4 (c.ramped.ensures 2) c.is_next-linked.ensures c.within.ensures)

pub returns-in-IndexedRampFine : goal.returns-in-IndexedRampFine
unfolding opened
returns-in-IndexedRampFine c =
    let w = c.in-IndexedRampFine in
    told _ w.is (row-indexed-ramp _ _ _ _ _ _ w.x4 (c.ramped-in-IndexedRampFine.ensures 3) c.is_next-linked.ensures c.within-in-IndexedRampFine.ensures)

pub returns-in-FreeRamp : goal.returns-in-FreeRamp
unfolding opened
returns-in-FreeRamp c =
    let w = c.in-FreeRamp in
    told _ w.is (row-free-ramp _ _ _ _ _ w.backward w.x4 (c.ramped-in-FreeRamp.ensures 2) c.is_next-linked.ensures)

pub returns-in-FreeRampFine : goal.returns-in-FreeRampFine
unfolding opened
returns-in-FreeRampFine c =
    let w = c.in-FreeRampFine in
    told _ w.is (row-free-ramp _ _ _ _ _ w.backward w.x4 (c.ramped-in-FreeRampFine.ensures 3) c.is_next-linked.ensures)

pub returns-in-Indexed : goal.returns-in-Indexed
unfolding opened
returns-in-Indexed c =
    let w = c.in-Indexed in
    told _ w.is (row-indexed _ _ _ _ w.x4 (c.between.ensures 2) c.is_next-linked.ensures c.within-in-Indexed.ensures)

pub returns-in-IndexedFine : goal.returns-in-IndexedFine
unfolding opened
returns-in-IndexedFine c =
    let w = c.in-IndexedFine in
    told _ w.is (row-indexed _ _ _ _ w.x4 c.in_table.ensures c.is_next-linked.ensures c.within-in-IndexedFine.ensures)

pub returns-in-Free : goal.returns-in-Free
unfolding opened
returns-in-Free c = let w = c.in-Free in told _ w.is (row-free _ _ _ w.backward w.x4 (c.between-in-Free.ensures 2) c.is_next-linked.ensures)

pub returns-in-FreeFine : goal.returns-in-FreeFine
unfolding opened
returns-in-FreeFine c =
    let w = c.in-FreeFine in
    told _ w.is (row-free _ _ _ w.backward w.x4 c.in_table-in-FreeFine.ensures c.is_next-linked.ensures)

pub returns-in-ZeroSearch : goal.returns-in-ZeroSearch
unfolding opened
returns-in-ZeroSearch c =
    let w = c.in-ZeroSearch in
    told _ w.is (row-search _ _ _ _ _ _ _ w.backward (c.ramped-in-ZeroSearch.ensures 2) (c.between-in-ZeroSearch.ensures 2) c.is_next-linked.ensures)

pub returns-in-DelayedStop : goal.returns-in-DelayedStop
unfolding opened
returns-in-DelayedStop c =
    let w = c.in-DelayedStop in
    told _ w.is (row-stop _ _ _ _ _ _ w.steps (travel_backward w.travel) (travel_x4 w.travel) (c.ramped-in-DelayedStop.ensures 2) c.is_next-linked.ensures c.counted.ensures)

pub returns-in-CamSetting : goal.returns-in-CamSetting
unfolding opened
returns-in-CamSetting c = let w = c.in-CamSetting in told _ w.is (row-cam _ _ _ w.set _ c.is_next-linked.ensures c.stored.ensures)

pub returns-in-OutputSetting : goal.returns-in-OutputSetting
unfolding opened
returns-in-OutputSetting c =
    let w = c.in-OutputSetting in
    told _ w.is (row-one-value _ _ _ w.on (settable-valid _) c.is_next-linked.ensures)

pub returns-in-OpeningLoop : goal.returns-in-OpeningLoop
unfolding opened
returns-in-OpeningLoop c = told _ c.in-OpeningLoop.is (row_one _ _ _ (count-valid _ _ _) c.is_next-linked.ensures)

pub returns-in-ClosingLoop : goal.returns-in-ClosingLoop
unfolding opened
returns-in-ClosingLoop c = told _ c.in-ClosingLoop.is (row_one _ _ _ (c.between-in-ClosingLoop.ensures 3) c.is_next-linked.ensures)

pub returns-in-ConditionalJump : goal.returns-in-ConditionalJump
unfolding opened
returns-in-ConditionalJump c =
    let w = c.in-ConditionalJump in
    told _ w.is (row-jump _ _ _ _ _ w.on (condition-valid _) (c.between-in-ConditionalJump.ensures 3) c.is_next-linked.ensures)

pub returns-in-TimeDelay : goal.returns-in-TimeDelay
unfolding opened
returns-in-TimeDelay c = told _ c.in-TimeDelay.is (row_one _ _ _ (upto-valid _ _) c.is_next-linked.ensures)

pub returns-in-CurrentSetting : goal.returns-in-CurrentSetting
unfolding opened
returns-in-CurrentSetting c =
    let l = c.is_next-linked.ensures in
    ⊎_elim (λ w. told _ w.1 (row-value w.0 _ l)) (⊎_elim (λ e. told _ e (row_next _ l)) (λ e. told _ e (row_next _ l))) c.in-CurrentSetting.is

pub returns-in-Recovery : goal.returns-in-Recovery
unfolding opened
returns-in-Recovery c = told _ c.in-Recovery.is (row-none _)
