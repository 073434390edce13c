-- The ways through taking an indexed run.
-- Assumes nothing.
use mathlib.Core.Path.{◌≡◌, sym}
use mathlib.Core.Bool.{Bool, true, false}
use lib.IntN.{ℤ}
use borrow.Author.Tests.{leb-true}
use Rattle.laws.specs.Tests.{choose, both}
use Rattle.laws.proofs.Tests.{choose-true, choose-false}
use Rattle.units.specs.Shift.{Within, shift_of, is_beyond_of}
use Rattle.units.specs.declared.CellAddress.{CellAddress}
use Rattle.units.proofs.Limits.{within-scaled, within-not-beyond}
use Rattle.instruction.specs.Soundness.{steps_within}
use Rattle.instruction.specs.declared.run.Profile.{Profile}
use Rattle.machine.specs.Starting.{failed}
use Rattle.machine.specs.Taking.{begin_indexed, shift_for, take_indexed}
use Rattle.machine.specs.declared.State.{State}

within_by :
    (z : ℤ) (p : Profile) (s : State) (absolute : Bool) → z ≡ shift_of p.steps p.x4 absolute s.position →
    steps_within p.steps ≡ true → both absolute (is_beyond_of z) ≡ false → Within z
unfolding both shift_of choose steps_within
within_by z p s true e w t = within-not-beyond z t
within_by z p s false e w t = rw e (within-scaled p.steps p.x4 (leb-true _ 8388607 w))

module _ (s : State) (p : Profile) (z : ℤ) (e : z ≡ shift_of p.steps p.x4 s.presets.absolute s.position) where
  -- a shift that is not too long is steps again
  pub within-shift : steps_within p.steps ≡ true → both s.presets.absolute (is_beyond_of z) ≡ false → Within z
  within-shift w t = within_by z p s s.presets.absolute e w t

  -- 02: "A shift beyond 8,388,607 either way gives error 50"
  pub indexed-far :
      (next : CellAddress) → both s.presets.absolute (is_beyond_of z) ≡ true → failed s 50 ≡ take_indexed s p next
  unfolding take_indexed shift_for
  indexed-far next t = sym (choose-true _ _ _ (rw e at t))

  pub indexed-near :
      (next : CellAddress) → both s.presets.absolute (is_beyond_of z) ≡ false → begin_indexed s z next ≡ take_indexed s p next
  unfolding take_indexed shift_for
  indexed-near next t = rw e (sym (choose-false _ _ _ (rw e at t)))
