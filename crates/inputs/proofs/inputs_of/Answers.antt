-- `inputs_of` meets its contract: a turn stores one bit more.
-- Assumes nothing.
use Prim.Native.Nat.{◌<◌}
use native.Mathlib.Omega.{arith}
use mathlib.Core.Path.{sym, ◌∙◌}
use lib.ListN.{length, length-set}
use Rattle.machine.specs.InputWords.{inputs_of}
use Rattle.inputs.proofs.Bits.{bits-turn, bits-end}
use Rattle.inputs.proofs.inputs_of.Goals as goal

pub loop-input-preserved : goal.loop-input-preserved
loop-input-preserved c =
    let l = c.loop-input.input-items in
    let i = c.loop-input.input-index in
    let inv = c.loop-input.invariant in
    let g : i < length l = omega arith in
    (simp length-set inv.0, bits-turn l i c.loop-input.left c.loop-input-test.true g ∙ inv.1)

pub returns : goal.returns
unfolding inputs_of
returns c = sym (bits-end _ _ _ c.loop-input-test.array_long c.loop-input-test.false) ∙ c.loop-input.invariant.1
