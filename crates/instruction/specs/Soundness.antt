-- What a cell may hold.
-- Assumes nothing.
use Rattle.std.specs.Prelude.{ℕ, Bool, true, List, eqb, leb, nat_abs}
use Rattle.laws.specs.Tests.{both, either}
use Rattle.fields.specs.Rows.{all_valid}
use Rattle.fields.specs.declared.kinds.Kind.{Kind}
use Rattle.units.specs.Limits.{step_limit}
use Rattle.units.specs.declared.Steps.{Steps}
use Rattle.instruction.specs.Codes.{code_of}
use Rattle.format.specs.Formats.{fields_of}
use Rattle.instruction.specs.Numbers.{numbers_of}
use Rattle.instruction.specs.declared.Instruction.{Instruction}
use Rattle.instruction.specs.declared.Instruction.TheVariants.{Null, IndexedRamp, IndexedRampFine, FreeRamp, FreeRampFine}
use Rattle.instruction.specs.declared.Instruction.TheVariants.{Indexed, IndexedFine, Free, FreeFine, ZeroSearch, DelayedStop}
use Rattle.instruction.specs.declared.Instruction.TheVariants.{CamSetting, OutputSetting, CounterReset, OpeningLoop, ClosingLoop}
use Rattle.instruction.specs.declared.Instruction.TheVariants.{ConditionalJump, TimeDelay, Recovery, CurrentSetting}
use Rattle.instruction.specs.declared.Cell.{Cell}

-- 01: "n is ±nnn within 8,388,607 each way"
unfoldable pub steps_within : Steps → Bool
steps_within n = leb (nat_abs n.0) step_limit

-- the stored form, where the numbers say less than the record could hold: steps are a number of 32 bits, a 57 is "stored +0 for V=0",
-- and "Code 69 has no DDD"
unfoldable pub canonical : Instruction → ℕ → Bool
canonical (CamSetting v p) d = either v (eqb p.0 0)
canonical Recovery d = eqb d 0
canonical (IndexedRamp f r x n) d = steps_within n
canonical (IndexedRampFine f r x n) d = steps_within n
canonical (FreeRamp f r s x) d = true
canonical (FreeRampFine f r s x) d = true
canonical (Indexed f x n) d = steps_within n
canonical (IndexedFine x f n) d = steps_within n
canonical (Free f s x) d = true
canonical (FreeFine s x f) d = true
canonical (ZeroSearch f r s l) d = true
canonical (DelayedStop f r t n) d = steps_within n
canonical (OutputSetting o v) d = true
canonical CounterReset d = true
canonical (OpeningLoop n) d = true
canonical (ClosingLoop e) d = true
canonical (ConditionalJump i v e) d = true
canonical (TimeDelay n) d = true
canonical (CurrentSetting s) d = true
canonical Null d = true

-- 01: "all fields lie in these ranges": each number is one that its field admits, in its stored form. By the fields of each code
abbrev pub cell_sound_by : (ℕ → List Kind) → Cell → Bool
cell_sound_by fields c =
    both (all_valid (fields (code_of c.instruction)) (numbers_of c)) (canonical c.instruction c.next.0)

unfoldable pub cell_sound : Cell → Bool
cell_sound c = cell_sound_by fields_of c
