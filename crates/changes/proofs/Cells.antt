-- What a sound cell says of the numbers that taking it uses.
-- Assumes nothing.
use Prim.Native.Nat.{ℕ, ◌<◌}
use mathlib.Core.Path.{◌≡◌}
use mathlib.Core.Bool.{Bool, true}
use borrow.Author.Tests.{ltb-true}
use Rattle.laws.specs.Tests.{choose}
use Rattle.laws.proofs.Tests.{both_left}
use Rattle.fields.specs.Kinds.{valid}
use Rattle.fields.specs.Names.{list_of, listed}
use Rattle.fields.specs.Rows.{all_valid}
use Rattle.instruction.specs.Codes.{code_of}
use Rattle.format.specs.Formats.{fields_of, fields_in}
use Rattle.instruction.specs.Numbers.{numbers_with}
use Rattle.instruction.specs.Soundness.{cell_sound}
use Rattle.instruction.specs.declared.Cell.{Cell}
use Rattle.instruction.specs.declared.ConditionName.{ConditionName}
use Rattle.instruction.specs.declared.OutputName.{OutputName}
use Rattle.instruction.specs.declared.Instruction.TheVariants.{OutputSetting, ConditionalJump}
use Rattle.units.specs.declared.CellAddress.{CellAddress}

output-valid :
    (o : OutputName) (v : Bool) (d : ℕ) →
    all_valid (fields_of (code_of (OutputSetting o v))) (numbers_with (OutputSetting o v) d) ≡ true → o.0 < 13
unfolding all_valid fields_of fields_in choose code_of numbers_with valid list_of listed
output-valid o v d t = ltb-true o.0 13 (both_left _ _ t)

-- 01: "58 `OO,V` (O0 to O3, FC, F0 to F7)"
pub output-place : (c : Cell) (o : OutputName) (v : Bool) → c.instruction ≡ OutputSetting o v → cell_sound c ≡ true → o.0 < 13
unfolding cell_sound
output-place c o v e t = output-valid o v c.next.0 (rw e at (both_left _ _ t))

condition-valid :
    (i : ConditionName) (v : Bool) (j : CellAddress) (d : ℕ) →
    all_valid (fields_of (code_of (ConditionalJump i v j))) (numbers_with (ConditionalJump i v j) d) ≡ true → i.0 < 16
unfolding all_valid fields_of fields_in choose code_of numbers_with valid list_of listed
condition-valid i v j d t = ltb-true i.0 16 (both_left _ _ t)

-- 01: "63 `II,V,EEE` (I0 to I2, PX, S0 to S3, F0 to F7)"
pub condition_place :
    (c : Cell) (i : ConditionName) (v : Bool) (j : CellAddress) → c.instruction ≡ ConditionalJump i v j → cell_sound c ≡ true → i.0 < 16
unfolding cell_sound
condition_place c i v j e t = condition-valid i v j c.next.0 (rw e at (both_left _ _ t))
