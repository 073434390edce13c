-- What sound cells add stays within the limits of 131 cells.
-- Assumes nothing.
use Prim.Native.Nat.{ℕ, ◌+◌, ◌^◌, ◌≤◌, ◌<◌}
use native.Mathlib.Omega.{arith}
use mathlib.Core.Path.{◌≡◌, refl, subst}
use mathlib.Core.Bool.{Bool, true, false}
use mathlib.Core.List.{List}
use lib.Dec.{lit≤, lit<}
use lib.IntN.{ℤ, nat_abs, ◌+ℤ◌}
use lib.ListN.{length-set}
use mir.Syntax.{w64}
use mir.Val.{SFits, to_z, of_z}
use mir.Facts.{to_z-of_z}
use Rattle.std.specs.Prelude.{Option, Some}
use Rattle.laws.specs.Tests.{choose}
use Rattle.laws.specs.Tables.{every}
use Rattle.laws.proofs.Tests.{choose-by}
use Rattle.units.specs.Limits.{remaining_limit, delay_limit}
use Rattle.units.specs.declared.CellAddress.{CellAddress}
use Rattle.units.proofs.Integers.{nat_abs-add, sfits-nat_abs}
use Rattle.units.proofs.Limits.{within-scaled}
use Rattle.cellmap.specs.Marks.{no_marks, is_marked, marked, unmarked}
use Rattle.cellmap.proofs.Counting.{unmarked-less}
use Rattle.instruction.specs.Adding.{is_one_of, totalled_codes, net_of, delay_of, added_of}
use Rattle.instruction.specs.Codes.{code_of}
use Rattle.instruction.specs.Numbers.{numbers_with}
use Rattle.instruction.specs.Runs.{profile_of}
use Rattle.instruction.specs.Soundness.{cell_sound}
use Rattle.instruction.specs.declared.Cell.{Cell}
use Rattle.instruction.specs.declared.Instruction.{Instruction}
use Rattle.instruction.specs.declared.Instruction.TheVariants.{Null, IndexedRamp, IndexedRampFine, FreeRamp, FreeRampFine}
use Rattle.instruction.specs.declared.Instruction.TheVariants.{Indexed, IndexedFine, Free, FreeFine, ZeroSearch, DelayedStop}
use Rattle.instruction.specs.declared.Instruction.TheVariants.{CamSetting, OutputSetting, CounterReset, OpeningLoop, ClosingLoop}
use Rattle.instruction.specs.declared.Instruction.TheVariants.{ConditionalJump, TimeDelay, Recovery, CurrentSetting}
use Rattle.instruction.specs.declared.adding.Sums.{Sums}
use Rattle.machine.specs.Record.{cell_at}
use Rattle.machine.proofs.Cells.{next-sound, run_sound, delay-cell}
use Rattle.machine.proofs.Places.{place-sound}
use Rattle.totals.specs.Walk.{Rows, row_of, rows_of, place_of, nothing, sum_of}
use Rattle.totals.specs.Room.{steps_in, delay_in, Fits, Fitting, steps_limit, Room}

-- ---- a sound cell's row

-- 02: "Code 65 takes 0 to 8,388,607 milliseconds"
delay-small : (i : Instruction) (next : CellAddress) → cell_sound (record { instruction = i; next = next }) ≡ true → (delay_of i).0 ≤ delay_limit
unfolding delay_of choose code_of numbers_with
delay-small (TimeDelay n) next t = delay-cell next n t
delay-small Null next t = lit≤ tt
delay-small (IndexedRamp f r x n) next t = lit≤ tt
delay-small (IndexedRampFine f r x n) next t = lit≤ tt
delay-small (FreeRamp f r s x) next t = lit≤ tt
delay-small (FreeRampFine f r s x) next t = lit≤ tt
delay-small (Indexed f x n) next t = lit≤ tt
delay-small (IndexedFine x f n) next t = lit≤ tt
delay-small (Free f s x) next t = lit≤ tt
delay-small (FreeFine s x f) next t = lit≤ tt
delay-small (ZeroSearch f r s l) next t = lit≤ tt
delay-small (DelayedStop f r v n) next t = lit≤ tt
delay-small (CamSetting v p) next t = lit≤ tt
delay-small (OutputSetting o v) next t = lit≤ tt
delay-small CounterReset next t = lit≤ tt
delay-small (OpeningLoop n) next t = lit≤ tt
delay-small (ClosingLoop e) next t = lit≤ tt
delay-small (ConditionalJump i v e) next t = lit≤ tt
delay-small Recovery next t = lit≤ tt
delay-small (CurrentSetting v) next t = lit≤ tt

-- n is within its limit, and so is n×m within that of x4
net-small : (c : Cell) → cell_sound c ≡ true → nat_abs (net_of (profile_of c.instruction).steps (profile_of c.instruction).x4).0 ≤ remaining_limit
unfolding net_of
net-small c t =
    let p = profile_of c.instruction in
    (within-scaled p.steps p.x4 (run_sound c t).small).within

row_fits : (c : Cell) → cell_sound c ≡ true → Fits (row_of c)
unfolding added_of
row_fits c t =
    let k = is_one_of totalled_codes (code_of c.instruction) in
    record {
      steps = choose-by (λ (x : Option Sums). nat_abs (steps_in x) ≤ remaining_limit) k (λ _. net-small c t) (λ _. lit≤ tt);
      delay = choose-by (λ (x : Option Sums). delay_in x ≤ delay_limit) k (λ _. delay-small c.instruction c.next t) (λ _. lit≤ tt);
      next = next-sound c t;
    }

pub cells_fit : (cells : List Cell) → every cell_sound cells ≡ true → Fitting (rows_of cells)
unfolding cell_at
cells_fit cells t a = row_fits _ (place-sound cells _ t)

-- ---- sums

pub room-first : Room no_marks nothing
unfolding unmarked choose
room-first = record { count = refl; steps = lit≤ tt; delay = lit≤ tt }

pub steps-fit : (z : ℤ) → nat_abs z ≤ steps_limit → SFits w64 z
steps-fit z h = sfits-nat_abs w64 z steps_limit h (lit< tt)

-- what holds where the walk goes on, at a cell that is allowed and was not met before: met are the cells and s the sums before it, and it adds t
pub record Onward (met : List Bool) (k : ℕ) (s t : Sums) : Type 0 where
  pub before : SFits w64 s.steps.0
  pub steps : SFits w64 t.steps.0
  pub sum : SFits w64 (s.steps.0 +ℤ t.steps.0)
  pub delay : s.delay.0 + t.delay.0 < 2 ^ 32
  pub room : Room (marked met k) (sum_of s t)
  pub less : unmarked (marked met k) < unmarked met

pub onward :
    (rows : Rows) (a : CellAddress) (met : List Bool) (s t : Sums) → place_of a < 131 → Fitting rows → Room met s →
    is_marked met (place_of a) ≡ false → (rows a).added ≡ Some t → Onward met (place_of a) s t
unfolding sum_of
onward rows a met s t h f r m e =
    let u = unmarked-less met (place_of a) (omega (arith, h, r.count)) m in
    let w = subst (λ (x : Option Sums). nat_abs (steps_in x) ≤ remaining_limit) e (f a).steps in
    let v = subst (λ (x : Option Sums). delay_in x ≤ delay_limit) e (f a).delay in
    let i = nat_abs-add s.steps.0 t.steps.0 in
    record {
      before = steps-fit _ (omega (arith, r.steps));
      steps = steps-fit _ (omega (arith, w));
      sum = steps-fit _ (omega (arith, u, w, i, r.steps));
      delay = omega (arith, u, v, r.delay);
      room =
          record { count = simp length-set r.count; steps = omega (arith, u, w, i, r.steps); delay = omega (arith, u, v, r.delay) };
      less = omega (arith, u);
    }

-- the sum as the code makes it
pub carried : (x y : ℤ) → SFits w64 x → SFits w64 y → SFits w64 (x +ℤ y) → to_z w64 (of_z w64 (to_z w64 (of_z w64 x) +ℤ to_z w64 (of_z w64 y))) ≡ x +ℤ y
carried x y p q r = rw (to_z-of_z p, to_z-of_z q) (to_z-of_z r)
