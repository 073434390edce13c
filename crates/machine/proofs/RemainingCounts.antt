-- The steps and milliseconds that remain: of a run that begins, after one more, when braking, and in the record.
-- Assumes nothing.
use Prim.Native.Nat.{ℕ, zero, suc, ◌*◌, ◌≤◌}
use native.Mathlib.Omega.{arith}
use mathlib.Core.Path.{◌≡◌, refl, sym, ap, ◌∙◌}
use mathlib.Core.Bool.{Bool, true, false, not}
use lib.Dec.{eqb, lit≤}
use lib.IntN.{ℤ, pos, negsuc, neg_ℤ, nat_abs, pos-*ℤ-pos}
use lib.Signed.{lt_z}
use borrow.Author.Tests.{leb-true, le-leb, eqb-false, ne_eqb, le-ltb}
use Rattle.laws.specs.Tests.{choose, both, same}
use Rattle.laws.proofs.Tests.{both_left, both_right, both_true, choose-by, choose-true, choose-false}
use Rattle.units.specs.Limits.{step_limit, remaining_limit}
use Rattle.units.specs.Remaining.{is_zero_of, is_negative_of, nearer_of}
use Rattle.units.specs.Shift.{Within, multiplier_of, scaled_of}
use Rattle.units.specs.declared.Milliseconds.{Milliseconds}
use Rattle.units.specs.declared.Steps.{Steps}
use Rattle.units.proofs.Nearer.{within-nearer, is_negative-nearer}
use Rattle.instruction.specs.Codes.{code_of}
use Rattle.instruction.specs.Runs.{profile_of}
use Rattle.instruction.specs.declared.Instruction.{Instruction}
use Rattle.instruction.specs.declared.run.Profile.{Profile}
use Rattle.machine.specs.Soundness.{steps_remaining, time_remaining, is_nothing, is_steps, is_time, is_steps_along, is_indexed, is_delay, suspended_remaining, braking_phase, busy_remaining}
use Rattle.machine.specs.Stopping.{braking_count, braking_steps}
use Rattle.machine.specs.declared.Remaining.{Remaining}
use Rattle.machine.specs.declared.Remaining.TheVariants.{Nothing, Counted, Timed}
use Rattle.machine.specs.declared.Phase.TheVariants.{Run}
use Rattle.machine.proofs.Tests.{clash, by-test}
use Rattle.machine.proofs.Cells.{SoundRun, indexed-same}

-- ---- steps

pub within-steps : (n : Steps) → Within n.0 → is_zero_of n ≡ false → steps_remaining n ≡ true
unfolding steps_remaining
within-steps n w z = both_true (le-leb _ _ w.within) (ap not z)

steps-within : (n : Steps) → steps_remaining n ≡ true → Within n.0
unfolding steps_remaining
steps-within n t = record { within = leb-true _ _ (both_left _ _ t) }

-- one step less, where some remain
pub nearer-steps : (n : Steps) → steps_remaining n ≡ true → is_zero_of (nearer_of n) ≡ false → steps_remaining (nearer_of n) ≡ true
nearer-steps n t z = within-steps (nearer_of n) (within-nearer n (steps-within n t)) z

pub nearer-along :
    (b : Bool) (n : Steps) → is_steps_along b (Counted n) ≡ true → is_zero_of (nearer_of n) ≡ false →
    is_steps_along b (Counted (nearer_of n)) ≡ true
unfolding is_steps_along
nearer-along b n t z =
    both_true (nearer-steps n (both_left _ _ t) z)
    (ap (λ (c : Bool). same c b) (is_negative-nearer n z) ∙ both_right _ _ t)

-- ---- braking

-- at least one step, and not too many
record Positive (z : ℤ) : Type 0 where
  number : ℕ
  is : z ≡ pos number
  some : 1 ≤ number
  few : number ≤ remaining_limit

-- that many along a direction
along-steps : (b : Bool) (z : ℤ) → Positive z → is_steps_along b (Counted (record { 0 = choose b (neg_ℤ z) z })) ≡ true
along-steps b z p = rw p.is (along b p.number p.some p.few)
  where
    along : (c : Bool) (k : ℕ) → 1 ≤ k → k ≤ remaining_limit → is_steps_along c (Counted (record { 0 = choose c (neg_ℤ (pos k)) (pos k) })) ≡ true
    along c zero l h = absurd (omega arith)
    along true (suc k) l h =
        unfold is_steps_along steps_remaining choose is_zero_of is_negative_of same in
        both_true (both_true (le-leb (suc k) remaining_limit h) (ap not (ne_eqb (suc k) 0 (λ e. omega arith)))) refl
    along false (suc k) l h =
        unfold is_steps_along steps_remaining choose is_zero_of is_negative_of same in
        both_true (both_true (le-leb (suc k) remaining_limit h) (ap not (ne_eqb (suc k) 0 (λ e. omega arith))))
        (ap (λ (c : Bool). same c false) (le-ltb (suc k) 0 (omega arith)))

-- a number that is not negative
forward-number : (z : ℤ) → lt_z z (pos 0) ≡ false → z ≡ pos (nat_abs z)
forward-number (pos k) t = refl
forward-number (negsuc k) t = clash (sym t)

-- n×m, of an n that is neither negative nor 0
scaled-positive :
    (n : Steps) (x4 : Bool) → nat_abs n.0 ≤ step_limit → is_negative_of n ≡ false → is_zero_of n ≡ false → Positive (scaled_of n x4)
unfolding is_negative_of is_zero_of scaled_of multiplier_of choose
scaled-positive n true h t z =
    let k = nat_abs n.0 in
    let d = eqb-false k 0 z in
    record { number = k * 4; is = rw (forward-number n.0 t) (pos-*ℤ-pos k 4); some = omega arith; few = omega arith }
scaled-positive n false h t z =
    let k = nat_abs n.0 in
    let d = eqb-false k 0 z in
    record { number = k * 1; is = rw (forward-number n.0 t) (pos-*ℤ-pos k 1); some = omega arith; few = omega arith }

-- 01, of 05: "nnn×m steps along s, or 1 if nnn is 0"
pub braking-along :
    (p : Profile) → SoundRun p → braking_phase p.motion ≡ true → is_steps_along p.backward (Counted (braking_steps p)) ≡ true
unfolding braking_steps braking_count
braking-along p g t =
    along-steps p.backward _
    (choose-by Positive (is_zero_of p.steps) (λ z. record { number = 1; is = refl; some = lit≤ tt; few = lit≤ tt })
    (λ z. scaled-positive p.steps p.x4 g.small (g.onward t) z))

-- ---- milliseconds

pub time-sound : (n : ℕ) → 1 ≤ n → n ≤ remaining_limit → is_time (Timed (record { 0 = n })) ≡ true
unfolding is_time time_remaining
time-sound n l h = both_true (le-leb 1 n l) (le-leb n remaining_limit h)

pub time-within : (n : Milliseconds) → is_time (Timed n) ≡ true → n.0 ≤ remaining_limit
unfolding is_time time_remaining
time-within n t = leb-true _ _ (both_right _ _ t)

-- ---- in the record

pub nothing-suspended : (i : Instruction) (r : Remaining) → is_nothing r ≡ true → suspended_remaining r i ≡ true
unfolding is_nothing suspended_remaining
nothing-suspended i Nothing t = refl
nothing-suspended i (Counted n) t = clash t
nothing-suspended i (Timed n) t = clash t

pub steps-suspended :
    (i : Instruction) (r : Remaining) → is_steps r ≡ true → is_indexed (profile_of i).motion ≡ true → suspended_remaining r i ≡ true
unfolding is_steps suspended_remaining
steps-suspended i Nothing t e = clash t
steps-suspended i (Counted n) t e = both_true e t
steps-suspended i (Timed n) t e = clash t

pub time-suspended : (i : Instruction) (r : Remaining) → is_time r ≡ true → is_delay i ≡ true → suspended_remaining r i ≡ true
unfolding is_time suspended_remaining
time-suspended i Nothing t e = clash t
time-suspended i (Counted n) t e = clash t
time-suspended i (Timed n) t e = both_true e t

-- a run goes on with its steps, if it is indexed
pub run-suspended : (i : Instruction) (r : Remaining) → busy_remaining Run (profile_of i) r ≡ true → suspended_remaining r i ≡ true
unfolding busy_remaining
run-suspended i r t =
    by-test (is_indexed (profile_of i).motion) (λ e. steps-suspended i r (sym (choose-true _ _ _ e) ∙ t) e)
    (λ e. nothing-suspended i r (sym (choose-false _ _ _ e) ∙ t))

-- 01: "WN of equal content leaves it": a cell of the same code can resume the same rest
pub suspended-same : (i j : Instruction) (r : Remaining) → code_of i ≡ code_of j → suspended_remaining r i ≡ suspended_remaining r j
unfolding suspended_remaining is_delay
suspended-same i j Nothing e = refl
suspended-same i j (Counted n) e = ap (λ (b : Bool). both b (steps_remaining n)) (indexed-same i j e)
suspended-same i j (Timed n) e = ap (λ (k : ℕ). both (eqb k 65) (time_remaining n)) e
