-- 02, Slip 6, as one statement: what cells hold, what a wait leaves of a delay, and what an older gateway makes of images.
-- Assumes nothing.
use Rattle.std.specs.Prelude.{ℕ, ◌-◌, ◌≤◌, ◌<◌, ◌≡◌, Bool, true, false, not, List, [], ◌∷◌, eqb, leb, ltb, take, get_or}
use Rattle.laws.specs.Tests.{both, either}
use Rattle.units.specs.Limits.{delay_limit_before}
use Rattle.units.specs.declared.CellAddress.{CellAddress}
use Rattle.units.specs.declared.Milliseconds.{Milliseconds}
use Rattle.fields.specs.Kinds.{valid}
use Rattle.fields.specs.declared.kinds.Kind.TheVariants.{Next}
use Rattle.instruction.specs.Codes.{code_of}
use Rattle.instruction.specs.Numbers.{numbers_of}
use Rattle.instruction.specs.Soundness.{cell_sound}
use Rattle.instruction.specs.declared.Cell.{Cell}
use Rattle.instruction.specs.declared.Instruction.TheVariants.{OpeningLoop, TimeDelay}
use Rattle.machine.specs.Record.{with_state}
use Rattle.machine.specs.Soundness.{sound}
use Rattle.machine.specs.Starting.{in_phase}
use Rattle.machine.specs.Calls.{Outcome, Shown, apply}
use Rattle.machine.specs.Calls.Call.{Wait}
use Rattle.machine.specs.Calls.Ending.{Ended}
use Rattle.machine.specs.Operations.Made.{Drive}
use Rattle.machine.specs.Images.{image_cells, not_loaded, loaded_of, sound_before, loaded_before}
use Rattle.machine.specs.Invariant.{Kept}
use Rattle.machine.specs.MemoryImages.{restored, Makes}
use Rattle.machine.specs.declared.Phase.TheVariants.{Delay}
use Rattle.machine.specs.declared.Remaining.TheVariants.{Timed}
use Rattle.machine.specs.declared.Machine.{Machine}
use Rattle.machine.specs.declared.answers.End.TheVariants as end

-- "a longer wait": a 65 with an nnn above the limit as it was before
unfoldable pub is_longer_wait : Cell → Bool
is_longer_wait c = both (eqb (code_of c.instruction) 65) (ltb delay_limit_before (get_or (numbers_of c) 0 0))

unfoldable pub has_longer_wait : List Cell → Bool
has_longer_wait [] = false
has_longer_wait (c ∷ cs) = either (is_longer_wait c) (has_longer_wait cs)

-- a drive of which k milliseconds of a delay remain
pub record Delayed (m : Machine) (k : ℕ) : Type 0 where
  pub phase : m.state.running.phase ≡ Delay
  pub remaining : m.state.running.remaining ≡ Timed (record { 0 = k })

-- a wait of n milliseconds was spent: nothing else of the drive changes than that k of the delay remain
pub record SpentWait (m : Machine) (n k : ℕ) (o : Outcome) : Type 0 where
  pub refusal : o.refusal ≡ 0
  pub shown : List Shown
  pub ending : o.ending ≡ Ended end.Spent n shown
  pub machine : o.machine ≡ with_state m (in_phase m.state Delay (Timed (record { 0 = k })))

pub record LongerWaits : Type 0 where
  -- "Code 65 takes 0 to 8,388,607 milliseconds"
  pub delays :
      (n : Milliseconds) (next : CellAddress) →
      cell_sound (record { instruction = TimeDelay n; next = next }) ≡ both (leb n.0 8388607) (valid Next next.0)
  -- "and loop counts stay at 65,535"
  pub loops :
      (n : ℕ) (next : CellAddress) →
      cell_sound (record { instruction = OpeningLoop n; next = next }) ≡ both (both (leb 1 n) (leb n 65535)) (valid Next next.0)
  -- "Older images are read as before, byte for byte": whatever an older gateway takes is taken, and as the same drive, for which the writer makes
  -- these bytes again. So it "never shows a shorter one"
  pub same : (s : List ℕ) (m : Machine) → loaded_before s ≡ Drive m → (loaded_of s ≡ Drive m) × Makes m s
  -- "An older gateway refuses an image with a longer wait by 10"
  pub longer :
      (m : Machine) → Kept m → (s : List ℕ) → Makes m s → has_longer_wait (take image_cells m.cells) ≡ true → loaded_before s ≡ not_loaded
  -- and takes every other image
  pub others :
      (m : Machine) → Kept m → (s : List ℕ) → Makes m s → has_longer_wait (take image_cells m.cells) ≡ false →
      loaded_before s ≡ Drive (restored m)
  -- bytes that are no image were none before
  pub refused : (s : List ℕ) → loaded_of s ≡ not_loaded → loaded_before s ≡ not_loaded
  -- "the budget of a wait keeps its own": a wait that is shorter than the delay has left is spent, and that much less remains
  pub spent :
      (m : Machine) (n k : ℕ) → sound m ≡ true → Delayed m k → 1 ≤ n → n ≤ 1000000 → n < k → SpentWait m n (k - n) (apply (Wait n) m)
  -- "a drive that holds such a cell is sound": the drives that were sound before are those without one
  pub sound : (m : Machine) → sound_before m ≡ both (sound m) (not (has_longer_wait m.cells))
