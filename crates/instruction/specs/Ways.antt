-- 02, Slip 5: where an instruction leads beside its next.
-- Assumes nothing.
use Rattle.units.specs.declared.CellAddress.{CellAddress}
use Rattle.instruction.specs.declared.Instruction.{Instruction}
use Rattle.instruction.specs.declared.Instruction.TheVariants.{Null, IndexedRamp, IndexedRampFine, FreeRamp, FreeRampFine}
use Rattle.instruction.specs.declared.Instruction.TheVariants.{Indexed, IndexedFine, Free, FreeFine, ZeroSearch, DelayedStop}
use Rattle.instruction.specs.declared.Instruction.TheVariants.{CamSetting, OutputSetting, CounterReset, OpeningLoop, ClosingLoop}
use Rattle.instruction.specs.declared.Instruction.TheVariants.{ConditionalJump, TimeDelay, Recovery, CurrentSetting}

-- "through DDD and EEE": EEE of a 62 or a 63; of any other DDD, which is its only way then
unfoldable pub jump_of : Instruction → CellAddress → CellAddress
jump_of (ClosingLoop e) d = e
jump_of (ConditionalJump i v e) d = e
jump_of Null d = d
jump_of (IndexedRamp f r x n) d = d
jump_of (IndexedRampFine f r x n) d = d
jump_of (FreeRamp f r s x) d = d
jump_of (FreeRampFine f r s x) d = d
jump_of (Indexed f x n) d = d
jump_of (IndexedFine x f n) d = d
jump_of (Free f s x) d = d
jump_of (FreeFine s x f) d = d
jump_of (ZeroSearch f r s l) d = d
jump_of (DelayedStop f r t n) d = d
jump_of (CamSetting v p) d = d
jump_of (OutputSetting o v) d = d
jump_of CounterReset d = d
jump_of (OpeningLoop n) d = d
jump_of (TimeDelay n) d = d
jump_of Recovery d = d
jump_of (CurrentSetting s) d = d
