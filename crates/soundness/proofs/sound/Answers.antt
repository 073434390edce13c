-- `sound` meets its contract.
-- Assumes nothing.
use borrow.Author.Rules.{rules}
use Rattle.laws.proofs.Joins.{and-as}
use Rattle.machine.specs.Soundness.{sound}
use Rattle.soundness.proofs.Pass.{pass-start, pass_step, pass-end, place-holds}
use Rattle.soundness.proofs.sound.Goals as goal

pub loop-cell-init : goal.loop-cell-init
loop-cell-init c = pass-start (search rules)

pub loop-cell-preserved : goal.loop-cell-preserved
loop-cell-preserved c = pass_step c.loop-cell-test.true c.sound-ok.ensures c.loop-cell.invariant

pub returns : goal.returns
unfolding sound
returns c =
    and-as (pass-end c.loop-cell-test.false c.loop-cell.invariant)
    (c.state_sound.ensures _ (place-holds _ _ c.place.ensures)
    (place-holds _ _ c.place-2.ensures))
