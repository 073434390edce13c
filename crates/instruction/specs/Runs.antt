-- What a run needs of an instruction.
-- Assumes nothing.
use Rattle.std.specs.Prelude.{ℕ, ◌*◌, Bool, false, pos}
use Rattle.frequency.specs.Places.{hertz_of}
use Rattle.units.specs.declared.Steps.{Steps}
use Rattle.instruction.specs.Numbers.{travel_backward, travel_x4}
use Rattle.instruction.specs.declared.Travel.{Travel}
use Rattle.instruction.specs.declared.Instruction.{Instruction}
use Rattle.instruction.specs.declared.Instruction.TheVariants.{Null, IndexedRamp, IndexedRampFine, FreeRamp, FreeRampFine}
use Rattle.instruction.specs.declared.Instruction.TheVariants.{Indexed, IndexedFine, Free, FreeFine, ZeroSearch, DelayedStop}
use Rattle.instruction.specs.declared.Instruction.TheVariants.{CamSetting, OutputSetting, CounterReset, OpeningLoop, ClosingLoop}
use Rattle.instruction.specs.declared.Instruction.TheVariants.{ConditionalJump, TimeDelay, Recovery, CurrentSetting}
use Rattle.instruction.specs.declared.run.Motion.{Motion}
use Rattle.instruction.specs.declared.run.Motion.TheVariants.{NoRun, IndexedRun, FreeRun, SearchRun, DelayedStopRun}
use Rattle.instruction.specs.declared.run.Profile.{Profile}

abbrev pub still : Steps
still = record { 0 = pos 0 }

-- motion, Hz before the multiplier, ramp code (0 without), x4, along s backward, steps, Hz of the slow part
abbrev pub profile : Motion → ℕ → ℕ → Bool → Bool → Steps → ℕ → Profile
profile m h r x s n l = record { motion = m; hertz = h; ramp = r; x4 = x; backward = s; steps = n; slow = l }

abbrev pub no_run : Profile
no_run = profile NoRun 0 0 false false still 0

abbrev pub indexed_run : ℕ → ℕ → Bool → Steps → Profile
indexed_run h r x n = profile IndexedRun h r x false n 0

abbrev pub free_run : ℕ → ℕ → Bool → Bool → Profile
free_run h r s x = profile FreeRun h r x s still 0

abbrev pub search_run : ℕ → ℕ → Bool → ℕ → Profile
search_run h r s l = profile SearchRun h r false s still l

abbrev pub stopped_run : ℕ → ℕ → Travel → Steps → Profile
stopped_run h r t n = profile DelayedStopRun h r (travel_x4 t) (travel_backward t) n 0

-- 01: "FF in the ramp codes is 03 to 24 thousand Hz, in 11, 12 and LL 02 to 30 hundred Hz; FFF 030 to 240 hundred Hz"; FFFF is in Hz
unfoldable pub profile_of : Instruction → Profile
profile_of (IndexedRamp f r x n) = indexed_run (f * 1000) r x n
profile_of (IndexedRampFine f r x n) = indexed_run (f * 100) r x n
profile_of (FreeRamp f r s x) = free_run (f * 1000) r s x
profile_of (FreeRampFine f r s x) = free_run (f * 100) r s x
profile_of (Indexed f x n) = indexed_run (f * 100) 0 x n
profile_of (IndexedFine x f n) = indexed_run (hertz_of f) 0 x n
profile_of (Free f s x) = free_run (f * 100) 0 s x
profile_of (FreeFine s x f) = free_run (hertz_of f) 0 s x
profile_of (ZeroSearch f r s l) = search_run (f * 1000) r s (l * 100)
profile_of (DelayedStop f r t n) = stopped_run (f * 1000) r t n
profile_of (CamSetting v p) = no_run
profile_of (OutputSetting o v) = no_run
profile_of CounterReset = no_run
profile_of (OpeningLoop n) = no_run
profile_of (ClosingLoop e) = no_run
profile_of (ConditionalJump i v e) = no_run
profile_of (TimeDelay n) = no_run
profile_of (CurrentSetting s) = no_run
profile_of Null = no_run
profile_of Recovery = no_run
