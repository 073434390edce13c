-- 02, Slip 5: the theorem.
-- Assumes nothing.
use Prim.Native.Nat.{ℕ, suc, ◌<◌}
use native.Mathlib.Omega.{arith}
use mathlib.Core.Path.{◌≡◌, refl, sym, ◌∙◌}
use mathlib.Core.Bool.{Bool, true, false, not}
use mathlib.Core.List.{List, [], ◌∷◌}
use mathlib.Core.Logic.{⊎_elim, ◌↔◌}
use lib.ListN.{length}
use borrow.Author.Tests.{not-true}
use Rattle.laws.proofs.Tests.{both_left, both_right, either-cases}
use Rattle.cellmap.specs.Marks.{is_marked}
use Rattle.instruction.specs.declared.Cell.{Cell}
use Rattle.machine.specs.Calls.{Call, after, next}
use Rattle.machine.proofs.Tests.{clash}
use Rattle.machine.specs.declared.Machine.{Machine}
use Rattle.reachability.specs.Graph.{Counted, is_root}
use Rattle.reachability.specs.Search.{Searched}
use Rattle.usage.specs.Updating.{loses, idles, Updated}
use Rattle.usage.specs.Updating.Updated.{kept, grown, recounted}
use Rattle.usage.specs.UsedCells.{Along, UsedCells}
use Rattle.usage.specs.UsedCells.Along.{end, call}
use Rattle.usage.proofs.Changing.{brought-counted}

-- ---- after every list

along-counted :
    (zs : List Call) (m : Machine) (used map : List Bool) → Counted m.cells is_root used → Along zs m used map → Counted (after zs m).cells is_root map
unfolding after
along-counted [] m used map c end = c
along-counted (z ∷ zs) m used map c (call {mid = mid} b w) = along-counted zs (next z m) mid map (brought-counted z m b c) w

-- ---- one outcome

-- two maps with the same marks are one
same-marks : (used map : List Bool) → length used ≡ length map → ((k : ℕ) → k < length used → is_marked used k ≡ is_marked map k) → used ≡ map
same-marks [] [] l f = refl
same-marks [] (y ∷ map) l f = absurd (omega (arith, l))
same-marks (x ∷ used) [] l f = absurd (omega (arith, l))
same-marks (x ∷ used) (y ∷ map) l f = λ i. f 0 (omega arith) i ∷ same-marks used map (omega (arith, l)) (λ k h. f (suc k) (omega (arith, h))) i

-- two tests that pass alike are equal
alike : (a b : Bool) → (a ≡ true → b ≡ true) → (b ≡ true → a ≡ true) → a ≡ b
alike true b f g = sym (f refl)
alike false true f g = g refl
alike false false f g = refl

-- two maps that say the same of each cell
exact_one :
    (P : ℕ → Type 0) (used map : List Bool) → length used ≡ 131 → length map ≡ 131 →
    ((k : ℕ) → k < 131 → (is_marked used k ≡ true) ↔ P k) → ((k : ℕ) → k < 131 → (is_marked map k ≡ true) ↔ P k) → used ≡ map
exact_one P used map l m f g =
    same-marks used map (l ∙ sym m) (λ k h.
    let b : k < 131 = omega (arith, h, l) in
    alike _ _ (λ t. (g k b).1 ((f k b).0 t)) (λ t. (f k b).1 ((g k b).0 t)))

counted-one : (cells : List Cell) (used map : List Bool) → Counted cells is_root used → Counted cells is_root map → used ≡ map
counted-one cells used map c d = exact_one _ used map c.size d.size c.exactly d.exactly

searched-one : {cells : List Cell} {follow : List ℕ} {first used map : List Bool} → Searched cells follow first used → Searched cells follow first map → used ≡ map
searched-one {used = used} {map = map} c d = exact_one _ used map c.size d.size c.exactly d.exactly

-- where no way of a used cell changes, none is taken off or added
idle-ways :
    (old new : Cell) (at : ℕ) (used : List Bool) → idles old new at used ≡ true → is_marked used at ≡ true → (loses old new ≡ false) × (loses new old ≡ false)
unfolding idles
idle-ways old new at used t m =
    ⊎_elim (λ (o : not (is_marked used at) ≡ true). clash (sym (not-true _ o) ∙ m))
    (λ e. (not-true _ (both_left _ _ e), not-true _ (both_right _ _ e))) (either-cases (not (is_marked used at)) _ t)

settled :
    (before new : List Cell) (at : ℕ) (used mid map : List Bool) → Updated before new at used mid → Updated before new at used map → mid ≡ map
settled before new at used mid map (kept t) (kept u) = refl
settled before new at used mid map (kept t) (grown m l g s) = clash (sym (idle-ways _ _ at used t m).1 ∙ g)
settled before new at used mid map (kept t) (recounted m l c) = clash (sym (idle-ways _ _ at used t m).0 ∙ l)
settled before new at used mid map (grown m l g s) (kept t) = clash (sym (idle-ways _ _ at used t m).1 ∙ g)
settled before new at used mid map (grown m l g s) (grown n k h r) = searched-one s r
settled before new at used mid map (grown m l g s) (recounted n k c) = clash (sym l ∙ k)
settled before new at used mid map (recounted m l c) (kept t) = clash (sym (idle-ways _ _ at used t m).0 ∙ l)
settled before new at used mid map (recounted m l c) (grown n k h r) = clash (sym k ∙ l)
settled before new at used mid map (recounted m l c) (recounted n k d) = counted-one new mid map c d

pub used-cells : UsedCells
used-cells = record { exactly = along-counted; one = counted-one; settled = settled }
