-- The code of each instruction.
-- Assumes nothing.
use Rattle.std.specs.Prelude.{ℕ}
use Rattle.instruction.specs.declared.Instruction.{Instruction}
use Rattle.instruction.specs.declared.Instruction.TheVariants.{Null, IndexedRamp, IndexedRampFine, FreeRamp, FreeRampFine}
use Rattle.instruction.specs.declared.Instruction.TheVariants.{Indexed, IndexedFine, Free, FreeFine, ZeroSearch, DelayedStop}
use Rattle.instruction.specs.declared.Instruction.TheVariants.{CamSetting, OutputSetting, CounterReset, OpeningLoop, ClosingLoop}
use Rattle.instruction.specs.declared.Instruction.TheVariants.{ConditionalJump, TimeDelay, Recovery, CurrentSetting}

-- 01, "Instructions": the codes, under the names that 001, chapter 4.1, gives them
unfoldable pub code_of : Instruction → ℕ
code_of (IndexedRamp f r x n) = 1
code_of (IndexedRampFine f r x n) = 31
code_of (FreeRamp f r s x) = 2
code_of (FreeRampFine f r s x) = 32
code_of (Indexed f x n) = 11
code_of (IndexedFine x f n) = 21
code_of (Free f s x) = 12
code_of (FreeFine s x f) = 22
code_of (ZeroSearch f r s l) = 3
code_of (DelayedStop f r t n) = 5
code_of (CamSetting v p) = 57
code_of (OutputSetting o v) = 58
code_of CounterReset = 60
code_of (OpeningLoop n) = 61
code_of (ClosingLoop e) = 62
code_of (ConditionalJump i v e) = 63
code_of (TimeDelay n) = 65
code_of (CurrentSetting s) = 70
code_of Null = 0
code_of Recovery = 69
