-- What soundness says of a cell and of the run that its instruction asks for.
-- Assumes nothing.
use Prim.Native.Nat.{ℕ, ◌-◌, ◌≤◌}
use native.Mathlib.Omega.{arith}
use mathlib.Core.Path.{◌≡◌, refl, sym, ap, ◌∙◌}
use mathlib.Core.Bool.{Bool, true, false, not}
use mathlib.Core.List.{List}
use lib.Dec.{eqb, lit≤}
use lib.IntN.{ℤ, pos, negsuc, nat_abs}
use lib.ListN.{length}
use lib.Signed.{lt_z}
use mir.Syntax.{w32}
use mir.Val.{of_z}
use borrow.Author.Tests.{leb-true, eqb-true, ne_eqb, le-ltb, le-leb}
use Rattle.laws.specs.Tests.{choose, either}
use Rattle.laws.specs.Tables.{every}
use Rattle.laws.proofs.Tests.{both_left, both_right, both_true, either-true-right}
use Rattle.laws.proofs.Tables.{every-at}
use Rattle.fields.specs.Kinds.{valid, valid_signed}
use Rattle.fields.specs.Rows.{all_valid}
use Rattle.fields.specs.declared.kinds.Kind.TheVariants.{Next}
use Rattle.units.specs.Limits.{step_limit, delay_limit}
use Rattle.units.specs.Bits.{bits_of}
use Rattle.units.specs.Remaining.{is_negative_of}
use Rattle.units.specs.declared.CellAddress.{CellAddress}
use Rattle.units.specs.declared.Milliseconds.{Milliseconds}
use Rattle.units.specs.declared.Steps.{Steps}
use Rattle.units.specs.declared.position.Position.{Position}
use Rattle.instruction.specs.Codes.{code_of}
use Rattle.format.specs.Formats.{fields_of, fields_in, ramp}
use Rattle.instruction.specs.Numbers.{numbers_with}
use Rattle.instruction.specs.Runs.{profile_of, no_run, indexed_run, free_run, search_run, stopped_run}
use Rattle.instruction.specs.Soundness.{steps_within, canonical, cell_sound}
use Rattle.instruction.specs.declared.Cell.{Cell}
use Rattle.instruction.specs.declared.ConditionName.{ConditionName}
use Rattle.instruction.specs.declared.Travel.{Travel}
use Rattle.instruction.specs.declared.Instruction.{Instruction}
use Rattle.instruction.specs.declared.Instruction.TheVariants.{Null, IndexedRamp, IndexedRampFine, FreeRamp, FreeRampFine, Indexed, IndexedFine, Free, FreeFine, ZeroSearch, DelayedStop, CamSetting, OutputSetting, CounterReset, OpeningLoop, ClosingLoop, ConditionalJump, TimeDelay, Recovery, CurrentSetting}
use Rattle.instruction.specs.declared.run.Profile.{Profile}
use Rattle.machine.specs.Record.{cell_at, null_cell}
use Rattle.machine.specs.Soundness.{is_cell, position_sound, cam_sound, loop_count_sound, is_indexed, has_ramp, braking_phase, back_phase}
use Rattle.machine.proofs.Tests.{clash, either_second, second, third, fourth, fifth, sixth}

-- ---- addresses

-- 01: "DDD 000 (end) or 100 to 230"
pub next-cell : (a : CellAddress) → valid Next a.0 ≡ true → eqb a.0 0 ≡ false → is_cell a ≡ true
unfolding valid is_cell
next-cell a t u = either_second _ _ t u

pub cell-next : (a : CellAddress) → is_cell a ≡ true → valid Next a.0 ≡ true
unfolding valid is_cell
cell-next a t = either-true-right _ _ t

pub cell-from : (a : CellAddress) → is_cell a ≡ true → 100 ≤ a.0
unfolding is_cell
cell-from a t = leb-true 100 a.0 (both_left _ _ t)

pub cell-to : (a : CellAddress) → is_cell a ≡ true → a.0 ≤ 230
unfolding is_cell
cell-to a t = leb-true a.0 230 (both_right _ _ t)

pub cell-nonzero : (a : CellAddress) → is_cell a ≡ true → eqb a.0 0 ≡ false
cell-nonzero a t = ne_eqb a.0 0 (λ e. omega (arith, cell-from a t))

-- ---- the next cell

next-in : (i : Instruction) (d : ℕ) → all_valid (fields_of (code_of i)) (numbers_with i d) ≡ true → canonical i d ≡ true → valid Next d ≡ true
unfolding all_valid fields_of fields_in choose code_of numbers_with canonical
next-in (IndexedRamp f r x n) d v c = fifth _ _ _ _ _ _ v
next-in (IndexedRampFine f r x n) d v c = fifth _ _ _ _ _ _ v
next-in (FreeRamp f r s x) d v c = fifth _ _ _ _ _ _ v
next-in (FreeRampFine f r s x) d v c = fifth _ _ _ _ _ _ v
next-in (Indexed f x n) d v c = fourth _ _ _ _ _ v
next-in (IndexedFine x f n) d v c = fourth _ _ _ _ _ v
next-in (Free f s x) d v c = fourth _ _ _ _ _ v
next-in (FreeFine s x f) d v c = fourth _ _ _ _ _ v
next-in (ZeroSearch f r s l) d v c = fifth _ _ _ _ _ _ v
next-in (DelayedStop f r t n) d v c = sixth _ _ _ _ _ _ _ v
next-in (CamSetting u p) d v c = third _ _ _ _ v
next-in (OutputSetting o u) d v c = third _ _ _ _ v
next-in CounterReset d v c = both_left _ _ v
next-in (OpeningLoop n) d v c = second _ _ _ v
next-in (ClosingLoop e) d v c = second _ _ _ v
next-in (ConditionalJump i u e) d v c = fourth _ _ _ _ _ v
next-in (TimeDelay n) d v c = second _ _ _ v
next-in (CurrentSetting s) d v c = second _ _ _ v
next-in Null d v c = both_left _ _ v
next-in Recovery d v c = rw (eqb-true d 0 c) (unfold valid either in refl)

pub next-sound : (c : Cell) → cell_sound c ≡ true → valid Next c.next.0 ≡ true
unfolding cell_sound
next-sound c t = next-in c.instruction c.next.0 (both_left _ _ t) (both_right _ _ t)

-- ---- the run

-- 01: "RR 10 to 42"
ramp-sound : (r : ℕ) → valid ramp r ≡ true → not (eqb r 0) ≡ true
unfolding valid
ramp-sound r t = ap not (ne_eqb r 0 (λ e. omega (arith, leb-true 10 r (both_left _ _ t))))

within-small : (n : Steps) → steps_within n ≡ true → nat_abs n.0 ≤ step_limit
unfolding steps_within
within-small n t = leb-true (nat_abs n.0) step_limit t

-- the bits of a negative number are too many for a 05
not_negative : (z : ℤ) → nat_abs z ≤ step_limit → of_z w32 z ≤ step_limit → lt_z z (pos 0) ≡ false
not_negative (pos k) h l = le-ltb k 0 (omega arith)
not_negative (negsuc k) h l = absurd (omega arith)

-- what a sound instruction's run satisfies: 03 and 05 have a ramp, n is within its limit, and that of a 05 is not negative
pub record SoundRun (p : Profile) : Type 0 where
  pub ramped : either (braking_phase p.motion) (back_phase p.motion) ≡ true → has_ramp p ≡ true
  pub small : nat_abs p.steps.0 ≤ step_limit
  pub onward : braking_phase p.motion ≡ true → is_negative_of p.steps ≡ false

no-run : SoundRun no_run
unfolding either braking_phase back_phase
no-run = record { ramped = λ t. clash t; small = lit≤ tt; onward = λ t. clash t }

indexed-run : (h r : ℕ) (x : Bool) (n : Steps) → steps_within n ≡ true → SoundRun (indexed_run h r x n)
unfolding either braking_phase back_phase
indexed-run h r x n w = record { ramped = λ t. clash t; small = within-small n w; onward = λ t. clash t }

free-run : (h r : ℕ) (s x : Bool) → SoundRun (free_run h r s x)
unfolding either braking_phase back_phase
free-run h r s x = record { ramped = λ t. clash t; small = lit≤ tt; onward = λ t. clash t }

search-run : (h r : ℕ) (s : Bool) (l : ℕ) → valid ramp r ≡ true → SoundRun (search_run h r s l)
unfolding braking_phase has_ramp
search-run h r s l v = record { ramped = λ t. ramp-sound r v; small = lit≤ tt; onward = λ t. clash t }

stopped-run : (h r : ℕ) (t : Travel) (n : Steps) → valid ramp r ≡ true → steps_within n ≡ true → bits_of n ≤ step_limit → SoundRun (stopped_run h r t n)
unfolding has_ramp is_negative_of
stopped-run h r t n v w b =
    record { ramped = λ u. ramp-sound r v; small = within-small n w; onward = λ u. not_negative n.0 (within-small n w) b }

run_in : (i : Instruction) (d : ℕ) → all_valid (fields_of (code_of i)) (numbers_with i d) ≡ true → canonical i d ≡ true → SoundRun (profile_of i)
unfolding all_valid fields_of fields_in choose code_of numbers_with canonical profile_of valid
run_in (IndexedRamp f r x n) d v c = indexed-run _ _ x n c
run_in (IndexedRampFine f r x n) d v c = indexed-run _ _ x n c
run_in (FreeRamp f r s x) d v c = free-run _ _ s x
run_in (FreeRampFine f r s x) d v c = free-run _ _ s x
run_in (Indexed f x n) d v c = indexed-run _ _ x n c
run_in (IndexedFine x f n) d v c = indexed-run _ _ x n c
run_in (Free f s x) d v c = free-run _ _ s x
run_in (FreeFine s x f) d v c = free-run _ _ s x
run_in (ZeroSearch f r s l) d v c = search-run _ r s _ (second _ _ _ v)
run_in (DelayedStop f r t n) d v c = stopped-run _ r t n (second _ _ _ v) c (leb-true _ _ (both_right _ _ (fourth _ _ _ _ _ v)))
run_in (CamSetting u p) d v c = no-run
run_in (OutputSetting o u) d v c = no-run
run_in CounterReset d v c = no-run
run_in (OpeningLoop n) d v c = no-run
run_in (ClosingLoop e) d v c = no-run
run_in (ConditionalJump i u e) d v c = no-run
run_in (TimeDelay n) d v c = no-run
run_in (CurrentSetting s) d v c = no-run
run_in Null d v c = no-run
run_in Recovery d v c = no-run

pub run_sound : (c : Cell) → cell_sound c ≡ true → SoundRun (profile_of c.instruction)
unfolding cell_sound
run_sound c t = run_in c.instruction c.next.0 (both_left _ _ t) (both_right _ _ t)

-- 01: "n is ±nnn within 8,388,607 each way"
pub steps_within_run : (c : Cell) → cell_sound c ≡ true → steps_within (profile_of c.instruction).steps ≡ true
unfolding steps_within
steps_within_run c t = le-leb _ step_limit (run_sound c t).small

-- ---- what the other codes hold

module _ (next : CellAddress) where
  -- 01: "57 `V,±nnn` (32 bits signed, stored +0 for V=0)"
  pub cam-cell :
      (v : Bool) (p : Position) → cell_sound (record { instruction = CamSetting v p; next = next }) ≡ true →
      cam_sound (record { set = v; position = p }) ≡ true
  unfolding cell_sound all_valid fields_of fields_in choose code_of numbers_with canonical valid valid_signed cam_sound position_sound
  cam-cell v p t = both_true (both_left _ _ (second _ _ _ (both_left _ _ t))) (both_right _ _ t)

  -- 01: "61 nnn (1 to 65,535)"
  pub loop-cell : (n : ℕ) → cell_sound (record { instruction = OpeningLoop n; next = next }) ≡ true → loop_count_sound n ≡ true
  unfolding cell_sound all_valid fields_of fields_in choose code_of numbers_with valid loop_count_sound
  loop-cell n t = both_right _ _ (both_left _ _ (both_left _ _ t))

  -- 01: "62 EEE (100 to 230)"
  pub closing-cell : (j : CellAddress) → cell_sound (record { instruction = ClosingLoop j; next = next }) ≡ true → is_cell j ≡ true
  unfolding cell_sound all_valid fields_of fields_in choose code_of numbers_with valid is_cell
  closing-cell j t = both_left _ _ (both_left _ _ t)

  -- 01: "63 `II,V,EEE`"
  pub jump-cell :
      (i : ConditionName) (v : Bool) (j : CellAddress) → cell_sound (record { instruction = ConditionalJump i v j; next = next }) ≡ true →
      is_cell j ≡ true
  unfolding cell_sound all_valid fields_of fields_in choose code_of numbers_with valid is_cell
  jump-cell i v j t = third _ _ _ _ (both_left _ _ t)

  -- 02: "Code 65 takes 0 to 8,388,607 milliseconds"
  pub delay-cell : (n : Milliseconds) → cell_sound (record { instruction = TimeDelay n; next = next }) ≡ true → n.0 ≤ delay_limit
  unfolding cell_sound all_valid fields_of fields_in choose code_of numbers_with valid
  delay-cell n t = leb-true _ _ (both_right _ _ (both_left _ _ (both_left _ _ t)))

-- ---- the memory

-- sound cells, all 131 of them
pub record Memory (cells : List Cell) : Type 0 where
  pub sound : every cell_sound cells ≡ true
  pub count : length cells ≡ 131

pub cell-sound : {cells : List Cell} → Memory cells → (a : CellAddress) → is_cell a ≡ true → cell_sound (cell_at cells a) ≡ true
unfolding cell_at
cell-sound {cells} m a t =
    every-at cell_sound null_cell cells m.sound (a.0 - 100) (omega (arith, m.count, cell-from a t, cell-to a t))

-- ---- the code

-- whether a run is indexed: 01, 31, 11, 21
indexed_code : ℕ → Bool
indexed_code k = either (eqb k 1) (either (eqb k 31) (either (eqb k 11) (eqb k 21)))

indexed-code : (i : Instruction) → is_indexed (profile_of i).motion ≡ indexed_code (code_of i)
unfolding is_indexed profile_of code_of indexed_code either
indexed-code (IndexedRamp f r x n) = refl
indexed-code (IndexedRampFine f r x n) = refl
indexed-code (FreeRamp f r s x) = refl
indexed-code (FreeRampFine f r s x) = refl
indexed-code (Indexed f x n) = refl
indexed-code (IndexedFine x f n) = refl
indexed-code (Free f s x) = refl
indexed-code (FreeFine s x f) = refl
indexed-code (ZeroSearch f r s l) = refl
indexed-code (DelayedStop f r t n) = refl
indexed-code (CamSetting v p) = refl
indexed-code (OutputSetting o v) = refl
indexed-code CounterReset = refl
indexed-code (OpeningLoop n) = refl
indexed-code (ClosingLoop e) = refl
indexed-code (ConditionalJump i v e) = refl
indexed-code (TimeDelay n) = refl
indexed-code (CurrentSetting s) = refl
indexed-code Null = refl
indexed-code Recovery = refl

-- the code alone says whether a run is indexed
pub indexed-same : (i j : Instruction) → code_of i ≡ code_of j → is_indexed (profile_of i).motion ≡ is_indexed (profile_of j).motion
indexed-same i j e = indexed-code i ∙ ap indexed_code e ∙ sym (indexed-code j)
