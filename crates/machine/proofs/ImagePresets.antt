-- The presets as the first row of an image: their numbers are those that the kinds admit, and make the same presets again.
-- Assumes nothing.
use native.Mathlib.Omega.{arith}
use mathlib.Core.Path.{◌≡◌, refl}
use mathlib.Core.Bool.{true}
use Rattle.laws.specs.Tests.{choose, both}
use Rattle.laws.specs.Tables.{every}
use Rattle.laws.proofs.Tests.{both_true}
use Rattle.fields.specs.Kinds.{good, valid}
use Rattle.fields.specs.Rows.{all_good, all_valid}
use Rattle.instruction.proofs.Values.{keeps-byte, one_bit}
use Rattle.instruction.proofs.TestsFields.{valid-value}
use Rattle.machine.specs.Soundness.{presets_sound}
use Rattle.machine.specs.Commands.{preset_kind}
use Rattle.machine.specs.Answers.{preset_value}
use Rattle.machine.specs.Images.{preset_kinds, preset_numbers, presets_from}
use Rattle.machine.specs.declared.Presets.{Presets}
use Rattle.machine.proofs.Showing.{within-valid, resolution-placed, presets-small}

pub kinds-good : all_good preset_kinds ≡ true
unfolding all_good every good preset_kind both choose
kinds-good = refl

pub numbers-valid : (p : Presets) → presets_sound p ≡ true → all_valid preset_kinds (preset_numbers p) ≡ true
unfolding all_valid preset_numbers preset_kind preset_value valid choose
numbers-valid p h =
    let q = presets-small p h in
    both_true (within-valid _ _ q.0)
    (both_true (within-valid _ _ q.1)
    (both_true (resolution-placed p.resolution).1
    (both_true (valid-value p.interlock) (both_true (valid-value p.absolute) refl))))

-- the presets of their own numbers
pub presets-back : (p : Presets) → presets_sound p ≡ true → presets_from (preset_numbers p) ≡ p
unfolding presets_from preset_numbers preset_value choose
presets-back p h =
    let q = presets-small p h in
    let a = keeps-byte p.address.0 (omega (arith, q.0)) in
    let c = keeps-byte p.current (omega (arith, q.1)) in
    λ j. record {
      address = record { 0 = a j };
      current = c j;
      resolution = (resolution-placed p.resolution).0 j;
      interlock = one_bit p.interlock j;
      absolute = one_bit p.absolute j;
    }
