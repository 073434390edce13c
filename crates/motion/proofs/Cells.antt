-- What a sound cell says of the numbers that carrying it out uses.
-- Assumes nothing.
use Prim.Native.Nat.{ℕ, ◌≤◌}
use native.Mathlib.Omega.{arith}
use mathlib.Core.Path.{◌≡◌}
use mathlib.Core.Bool.{true}
use lib.Dec.{lit≤}
use borrow.Author.Tests.{leb-true}
use Rattle.laws.specs.Tests.{choose}
use Rattle.laws.proofs.Tests.{both_left, both_right}
use Rattle.frequency.specs.Places.{hertz_of}
use Rattle.fields.specs.Kinds.{valid}
use Rattle.fields.specs.Rows.{all_valid}
use Rattle.instruction.specs.Codes.{code_of}
use Rattle.format.specs.Formats.{fields_of, fields_in}
use Rattle.instruction.specs.Numbers.{numbers_with}
use Rattle.instruction.specs.Runs.{profile_of}
use Rattle.instruction.specs.Soundness.{cell_sound}
use Rattle.instruction.specs.declared.Cell.{Cell}
use Rattle.instruction.specs.declared.Instruction.{Instruction}
use Rattle.instruction.specs.declared.Instruction.TheVariants.{Null, IndexedRamp, IndexedRampFine, FreeRamp, FreeRampFine}
use Rattle.instruction.specs.declared.Instruction.TheVariants.{Indexed, IndexedFine, Free, FreeFine, ZeroSearch, DelayedStop}
use Rattle.instruction.specs.declared.Instruction.TheVariants.{CamSetting, OutputSetting, CounterReset, OpeningLoop, ClosingLoop}
use Rattle.instruction.specs.declared.Instruction.TheVariants.{ConditionalJump, TimeDelay, Recovery, CurrentSetting}
use Rattle.motion.specs.Bounds.{WithinHertz}

hertz-in : (i : Instruction) (d : ℕ) → all_valid (fields_of (code_of i)) (numbers_with i d) ≡ true → (profile_of i).hertz ≤ 24000
unfolding all_valid fields_of fields_in choose code_of numbers_with profile_of valid
hertz-in (IndexedRamp f r x n) d v = omega (arith, leb-true f 24 (both_right _ _ (both_left _ _ v)))
hertz-in (IndexedRampFine f r x n) d v = omega (arith, leb-true f 240 (both_right _ _ (both_left _ _ v)))
hertz-in (FreeRamp f r s x) d v = omega (arith, leb-true f 24 (both_right _ _ (both_left _ _ v)))
hertz-in (FreeRampFine f r s x) d v = omega (arith, leb-true f 240 (both_right _ _ (both_left _ _ v)))
hertz-in (Indexed f x n) d v = omega (arith, leb-true f 30 (both_right _ _ (both_left _ _ v)))
hertz-in (IndexedFine x f n) d v = omega (arith, leb-true (hertz_of f) 4800 (both_right _ _ (both_left _ _ v)))
hertz-in (Free f s x) d v = omega (arith, leb-true f 30 (both_right _ _ (both_left _ _ v)))
hertz-in (FreeFine s x f) d v = omega (arith, leb-true (hertz_of f) 4800 (both_right _ _ (both_left _ _ v)))
hertz-in (ZeroSearch f r s l) d v = omega (arith, leb-true f 24 (both_right _ _ (both_left _ _ v)))
hertz-in (DelayedStop f r t n) d v = omega (arith, leb-true f 24 (both_right _ _ (both_left _ _ v)))
hertz-in (CamSetting u p) d v = lit≤ tt
hertz-in (OutputSetting o u) d v = lit≤ tt
hertz-in CounterReset d v = lit≤ tt
hertz-in (OpeningLoop n) d v = lit≤ tt
hertz-in (ClosingLoop e) d v = lit≤ tt
hertz-in (ConditionalJump i u e) d v = lit≤ tt
hertz-in (TimeDelay n) d v = lit≤ tt
hertz-in (CurrentSetting s) d v = lit≤ tt
hertz-in Null d v = lit≤ tt
hertz-in Recovery d v = lit≤ tt

-- 01: "FF in the ramp codes is 03 to 24 thousand Hz": no run is faster
pub hertz_within : (c : Cell) → cell_sound c ≡ true → WithinHertz (profile_of c.instruction).hertz
unfolding cell_sound
hertz_within c t = record { within = hertz-in c.instruction c.next.0 (both_left _ _ t) }
