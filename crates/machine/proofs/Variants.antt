-- Which instruction is a 69, and which a 65: the code says it, and so does the variant.
-- Assumes nothing.
use mathlib.Core.Path.{◌≡◌, refl}
use mathlib.Core.Bool.{false}
use Rattle.instruction.specs.Codes.{code_of}
use Rattle.instruction.specs.declared.Instruction.{Instruction}
use Rattle.instruction.specs.declared.Instruction.TheVariants.{Null, IndexedRamp, IndexedRampFine, FreeRamp, FreeRampFine}
use Rattle.instruction.specs.declared.Instruction.TheVariants.{Indexed, IndexedFine, Free, FreeFine, ZeroSearch, DelayedStop}
use Rattle.instruction.specs.declared.Instruction.TheVariants.{CamSetting, OutputSetting, CounterReset, OpeningLoop, ClosingLoop}
use Rattle.instruction.specs.declared.Instruction.TheVariants.{ConditionalJump, TimeDelay, Recovery, CurrentSetting}
use Rattle.units.specs.declared.Milliseconds.{Milliseconds}
use Rattle.machine.specs.Soundness.{is_delay}
use Rattle.machine.specs.Taking.{is_recovery}

pub not_recovery : (i : Instruction) → (i ≡ Recovery → ⊥) → is_recovery i ≡ false
unfolding is_recovery code_of
not_recovery Null k = refl
not_recovery (IndexedRamp f r x n) k = refl
not_recovery (IndexedRampFine f r x n) k = refl
not_recovery (FreeRamp f r b x) k = refl
not_recovery (FreeRampFine f r b x) k = refl
not_recovery (Indexed f x n) k = refl
not_recovery (IndexedFine x f n) k = refl
not_recovery (Free f b x) k = refl
not_recovery (FreeFine b x f) k = refl
not_recovery (ZeroSearch f r b l) k = refl
not_recovery (DelayedStop f r t n) k = refl
not_recovery (CamSetting v p) k = refl
not_recovery (OutputSetting o v) k = refl
not_recovery CounterReset k = refl
not_recovery (OpeningLoop n) k = refl
not_recovery (ClosingLoop e) k = refl
not_recovery (ConditionalJump i v e) k = refl
not_recovery (TimeDelay n) k = refl
not_recovery Recovery k = absurd (k refl)
not_recovery (CurrentSetting v) k = refl

pub not_delay : (i : Instruction) → ((n : Milliseconds) → i ≡ TimeDelay n → ⊥) → is_delay i ≡ false
unfolding is_delay code_of
not_delay Null k = refl
not_delay (IndexedRamp f r x n) k = refl
not_delay (IndexedRampFine f r x n) k = refl
not_delay (FreeRamp f r b x) k = refl
not_delay (FreeRampFine f r b x) k = refl
not_delay (Indexed f x n) k = refl
not_delay (IndexedFine x f n) k = refl
not_delay (Free f b x) k = refl
not_delay (FreeFine b x f) k = refl
not_delay (ZeroSearch f r b l) k = refl
not_delay (DelayedStop f r t n) k = refl
not_delay (CamSetting v p) k = refl
not_delay (OutputSetting o v) k = refl
not_delay CounterReset k = refl
not_delay (OpeningLoop n) k = refl
not_delay (ClosingLoop e) k = refl
not_delay (ConditionalJump i v e) k = refl
not_delay (TimeDelay n) k = absurd (k n refl)
not_delay Recovery k = refl
not_delay (CurrentSetting v) k = refl
