-- An inputs word needs only the cell that was present before it: each of its parts either leaves the present cell, or leaves the drive waiting,
-- where the later parts do nothing.
-- Assumes nothing.
use Prim.Native.Nat.{ℕ}
use mathlib.Core.Path.{◌≡◌, refl, sym, ap, subst, ◌∙◌}
use mathlib.Core.Bool.{Bool, true, false}
use mathlib.Core.List.{List}
use mathlib.Core.Logic.{◌⊎◌, inl, inr}
use lib.Dec.{eqb}
use borrow.Author.Tests.{not-true}
use Rattle.laws.specs.Tests.{choose}
use Rattle.laws.proofs.Tests.{choose-by, choose-false, both_left, both_right}
use Rattle.units.specs.declared.CellAddress.{CellAddress}
use Rattle.instruction.specs.Runs.{profile_of}
use Rattle.instruction.specs.declared.Cell.{Cell}
use Rattle.instruction.specs.declared.run.Motion.{Motion}
use Rattle.instruction.specs.declared.run.Motion.TheVariants.{NoRun, IndexedRun, FreeRun, SearchRun, DelayedStopRun}
use Rattle.instruction.specs.declared.run.Profile.{Profile}
use Rattle.machine.specs.Record.{with_inputs, idle, input_at, in_es, in_ee, in_px}
use Rattle.machine.specs.Starting.{advanced}
use Rattle.machine.specs.Taking.{is_recovery}
use Rattle.machine.specs.Milliseconds.{present}
use Rattle.machine.specs.Stopping.{free_run_stop_of, free_run_stop_in, free_run_stop_at, px_seen_in, px_seen_at, emergency_in, emergency_stop_at}
use Rattle.machine.specs.InputWords.{inputs_of, starts, judged_st, judged_ee, judged_es, judged_px, judged_word, input_word_at, input_word}
use Rattle.machine.specs.declared.Phase.{Phase}
use Rattle.machine.specs.declared.Phase.TheVariants.{Waiting, Delay, Run, Braking, Slowing, EmergencySlowing, BackOff}
use Rattle.machine.specs.declared.State.{State}

-- the cell is present, or the drive waits at another
Held : List Cell → Cell → State → Type 0
Held cells c s = (present cells s ≡ c) ⊎ (s.running.phase ≡ Waiting)

-- the cell is present, or the drive waits at another and EE is off
Ready : List Cell → Cell → State → Type 0
Ready cells c s = (present cells s ≡ c) ⊎ ((input_at s in_ee ≡ false) × (s.running.phase ≡ Waiting))

stop-waiting : (s : State) (p : Profile) (next : CellAddress) → s.running.phase ≡ Waiting → free_run_stop_in s.running.phase s p next ≡ s
unfolding free_run_stop_in
stop-waiting s p next w = ap (λ (x : Phase). free_run_stop_in x s p next) w

px-waiting : (px : Bool) (s : State) (p : Profile) (next : CellAddress) → s.running.phase ≡ Waiting → px_seen_in s.running.phase px s p next ≡ s
unfolding px_seen_in
px-waiting px s p next w = ap (λ (x : Phase). px_seen_in x px s p next) w

advanced-held : (cells : List Cell) (c : Cell) (s : State) (next : CellAddress) → Held cells c (advanced s next)
unfolding Held advanced
advanced-held cells c s next = choose-by (Held cells c) (eqb next.0 0) (λ e. inr refl) (λ e. inr refl)

module _ (cells : List Cell) (c : Cell) (s : State) where
  -- ---- what the cell given and the memory give is the same
  ee-same : Ready cells c s → judged_ee s c ≡ judged_ee s (present cells s)
  unfolding Ready judged_ee
  ee-same (inl e) = ap (judged_ee s) (sym e)
  ee-same (inr w) = choose-false _ _ _ w.0 ∙ sym (choose-false _ _ _ w.0)

  es-same : Held cells c s → judged_es s c ≡ judged_es s (present cells s)
  unfolding Held judged_es free_run_stop_at
  es-same (inl e) = ap (judged_es s) (sym e)
  es-same (inr w) = ap (λ (x : State). choose (input_at s in_es) x s) (stop-waiting s _ _ w ∙ sym (stop-waiting s _ _ w))

  px-same : Held cells c s → judged_px s c ≡ judged_px s (present cells s)
  unfolding Held judged_px px_seen_at
  px-same (inl e) = ap (judged_px s) (sym e)
  px-same (inr w) = px-waiting (input_at s in_px) s _ _ w ∙ sym (px-waiting (input_at s in_px) s _ _ w)

  -- ---- what each part leaves
  emergency-held : present cells s ≡ c → (x : Phase) → Held cells c (emergency_in x s c)
  unfolding Held emergency_in present
  emergency-held e Waiting = choose-by (Held cells c) (is_recovery c.instruction) (λ t. inr refl) (λ t. inr refl)
  emergency-held e Delay = inr refl
  emergency-held e Run = choose-by (Held cells c) (eqb (profile_of c.instruction).ramp 0) (λ t. inr refl) (λ t. inl e)
  emergency-held e Braking = inl e
  emergency-held e Slowing = inl e
  emergency-held e EmergencySlowing = inl e
  emergency-held e BackOff = inr refl

  ee-held : Ready cells c s → Held cells c (judged_ee s c)
  unfolding Ready Held judged_ee emergency_stop_at
  ee-held (inl e) =
      choose-by (Held cells c) (input_at s in_ee)
      (λ t. choose-by (Held cells c) (idle s) (λ u. inl e) (λ u. emergency-held e s.running.phase))
      (λ t. inl e)
  ee-held (inr w) = subst (Held cells c) (sym (choose-false _ _ _ w.0)) (inr w.1)

  stop-of-held : present cells s ≡ c → (m : Motion) (p : Profile) (next : CellAddress) → Held cells c (free_run_stop_of m s p next)
  unfolding Held free_run_stop_of present
  stop-of-held e NoRun p next = inl e
  stop-of-held e IndexedRun p next = inl e
  stop-of-held e FreeRun p next =
      choose-by (Held cells c) (eqb p.ramp 0) (λ t. advanced-held cells c s next) (λ t. inl e)
  stop-of-held e SearchRun p next = inl e
  stop-of-held e DelayedStopRun p next = choose-by (Held cells c) s.running.at_speed (λ t. inl e) (λ t. inl e)

  stop-held : present cells s ≡ c → (x : Phase) (p : Profile) (next : CellAddress) → Held cells c (free_run_stop_in x s p next)
  unfolding Held free_run_stop_in
  stop-held e Waiting p next = inl e
  stop-held e Delay p next = inl e
  stop-held e Run p next = stop-of-held e p.motion p next
  stop-held e Braking p next = inl e
  stop-held e Slowing p next = inl e
  stop-held e EmergencySlowing p next = inl e
  stop-held e BackOff p next = inl e

  es-held : Held cells c s → Held cells c (judged_es s c)
  unfolding Held judged_es free_run_stop_at
  es-held (inl e) = choose-by (Held cells c) (input_at s in_es) (λ t. stop-held e s.running.phase _ _) (λ t. inl e)
  es-held (inr w) =
      choose-by (Held cells c) (input_at s in_es) (λ t. subst (Held cells c) (sym (stop-waiting s _ _ w)) (inr w)) (λ t. inr w)

-- a start has EE off
starts-ee : (before s : State) → starts before s ≡ true → input_at s in_ee ≡ false
unfolding starts
starts-ee before s t = not-true _ (both_left _ _ (both_right _ _ (both_right _ _ t)))

st-ready : (cells : List Cell) (c : Cell) (before s : State) → present cells s ≡ c → Ready cells c (judged_st before s)
unfolding Ready judged_st
st-ready cells c before s e =
    choose-by (Ready cells c) (starts before s) (λ t. inr (starts-ee before s t, refl)) (λ t. inl e)

pub input-word-present : (w : ℕ) (cells : List Cell) (s : State) (c : Cell) → present cells s ≡ c → input_word_at w s c ≡ input_word w cells s
unfolding judged_word input_word_at input_word present
input-word-present w cells s c e =
    let begun : State = judged_st s (with_inputs s (inputs_of w)) in
    let ready : Ready cells c begun = st-ready cells c s (with_inputs s (inputs_of w)) e in
    let ended : Held cells c (judged_ee begun c) = ee-held cells c begun ready in
    px-same cells c _ (es-held cells c (judged_ee begun c) ended)
    ∙ ap (λ (x : State). judged_px x (present cells x))
    (es-same cells c _ ended ∙ ap (λ (x : State). judged_es x (present cells x)) (ee-same cells c begun ready))
