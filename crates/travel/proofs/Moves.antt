-- What one step of a travel comes to: it only moves, or it ends the travel.
-- Assumes nothing.
use native.Mathlib.Omega.{arith}
use mathlib.Core.Path.{◌≡◌, refl, ap, ◌∙◌}
use mathlib.Core.Bool.{true, false, not}
use mathlib.Core.Logic.{⊎_elim}
use lib.ListN.{length}
use borrow.Author.Tests.{eq-eqb}
use Rattle.laws.specs.Tests.{either}
use Rattle.laws.proofs.Tests.{choose-by, choose-true, choose-false, both_true, either_left, either-right, either-cases}
use Rattle.laws.proofs.Joins.{both-false-left, both-false-right}
use Rattle.units.specs.Position.{stepped_of}
use Rattle.units.specs.declared.CellAddress.{CellAddress}
use Rattle.units.specs.declared.position.Position.{Position}
use Rattle.instruction.specs.declared.Cell.{Cell}
use Rattle.machine.specs.Record.{no_cam, with_position, with_cam, with_output, output_at, out_o3, moving}
use Rattle.machine.specs.Starting.{advanced, in_phase}
use Rattle.machine.specs.Stepping.{runs_backward, cam_tested, moved_by, arrived_in, counted, step_at}
use Rattle.machine.specs.declared.Remaining.{Remaining}
use Rattle.machine.specs.declared.Remaining.TheVariants.{Nothing, Counted, Timed}
use Rattle.machine.specs.declared.Phase.{Phase}
use Rattle.machine.specs.declared.Phase.TheVariants.{Waiting, Delay, Run, Braking, Slowing, EmergencySlowing, BackOff}
use Rattle.machine.specs.declared.State.{State}
use Rattle.machine.proofs.Tests.{clash, by-test}
use Rattle.travel.specs.Plain.{meets, is_last, lessened, placed}
use Rattle.travel.specs.Travel.{goes_on}
use Rattle.travel.proofs.Outputs.{alike_self, alike-not}

-- the position that a step leads to
abbrev pub onward : State → Cell → Position
onward s c = stepped_of s.position (not (runs_backward s c))

-- ---- what remains

-- one less remains, if steps are counted
counted-less :
    (r : Remaining) (u : State) (next : CellAddress) → u.running.remaining ≡ r → is_last r ≡ false →
    counted r u next ≡ in_phase u u.running.phase (lessened r)
unfolding counted is_last lessened
counted-less (Counted n) u next e t = choose-false _ _ _ t
counted-less Nothing u next e t = ap (in_phase u u.running.phase) e
counted-less (Timed n) u next e t = ap (in_phase u u.running.phase) e

advanced-rests : (u : State) (next : CellAddress) → moving (advanced u next) ≡ false
unfolding advanced moving
advanced-rests u next = choose-by (λ (s : State). moving s ≡ false) _ (λ t. refl) (λ t. refl)

arrived-rests : (p : Phase) (u : State) (next : CellAddress) → moving (arrived_in p u next) ≡ false
unfolding arrived_in moving
arrived-rests Waiting u next = advanced-rests u next
arrived-rests Delay u next = advanced-rests u next
arrived-rests Run u next = advanced-rests u next
arrived-rests Braking u next = advanced-rests u next
arrived-rests Slowing u next = advanced-rests u next
arrived-rests EmergencySlowing u next = refl
arrived-rests BackOff u next = advanced-rests u next

-- after the last no run is under way
counted-rests : (r : Remaining) (u : State) (next : CellAddress) → is_last r ≡ true → moving (counted r u next) ≡ false
unfolding counted is_last
counted-rests (Counted n) u next t = ap moving (choose-true _ _ _ t) ∙ arrived-rests u.running.phase u next
counted-rests Nothing u next t = clash t
counted-rests (Timed n) u next t = clash t

-- ---- the travel goes on, or not

pub goes_on_lem : (s : State) (p : Position) (r : Remaining) → moving s ≡ true → goes_on s (placed s p r) ≡ true
unfolding goes_on placed moving
goes_on_lem s p r t = both_true t (both_true (eq-eqb s.running.cell.0 _ refl) (alike_self s.outputs))

pub rests : (start s : State) → moving s ≡ false → goes_on start s ≡ false
unfolding goes_on
rests start s t = both-false-left _ _ t

-- ---- a step

-- it only moves
pub plain_step :
    (s : State) (c : Cell) → either (meets s.cam (onward s c)) (is_last s.running.remaining) ≡ false →
    step_at s c ≡ placed s (onward s c) (lessened s.running.remaining)
unfolding step_at moved_by cam_tested meets placed
plain_step s c t =
    ap (λ (u : State). counted s.running.remaining u c.next) (choose-false _ _ _ (either_left _ _ t))
    ∙ counted-less s.running.remaining (with_position s (onward s c)) c.next refl (either-right _ _ t)

-- it meets the cam, and more remain
cam-step :
    (start s : State) (c : Cell) → start.outputs ≡ s.outputs → length s.outputs ≡ 14 → meets s.cam (onward s c) ≡ true →
    is_last s.running.remaining ≡ false → goes_on start (step_at s c) ≡ false
unfolding step_at moved_by cam_tested meets goes_on
cam-step start s c o l t u =
    let v = with_position s (onward s c) in
    let w = with_cam (with_output v out_o3 (not (output_at v out_o3))) no_cam in
    let e : step_at s c ≡ in_phase w w.running.phase (lessened s.running.remaining) =
    ap (λ (x : State). counted s.running.remaining x c.next) (choose-true _ _ _ t)
    ∙ counted-less s.running.remaining w c.next refl u in
    ap (goes_on start) e ∙ both-false-right _ _ (both-false-right _ _ (rw o (alike-not s.outputs 3 (omega (arith, l)))))

-- it is the last: it meets the cam, or none remain
pub last_step :
    (start s : State) (c : Cell) → start.outputs ≡ s.outputs → length s.outputs ≡ 14 →
    either (meets s.cam (onward s c)) (is_last s.running.remaining) ≡ true → goes_on start (step_at s c) ≡ false
unfolding step_at
last_step start s c o l t =
    by-test (is_last s.running.remaining) over
    (λ u. ⊎_elim (λ m. cam-step start s c o l m u) over (either-cases (meets s.cam (onward s c)) _ t))
  where
    over : is_last s.running.remaining ≡ true → goes_on start (step_at s c) ≡ false
    over u = rests start (step_at s c) (counted-rests s.running.remaining _ c.next u)
