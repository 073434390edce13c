-- Each way through one turn of the walk, by the definition.
-- Assumes nothing.
use Prim.Native.Nat.{ℕ, zero, suc, ◌-◌, ◌<◌, ◌≤◌}
use native.Mathlib.Omega.{arith}
use mathlib.Core.Path.{◌≡◌, refl, sym, ap, ◌∙◌}
use mathlib.Core.Bool.{Bool, true, false}
use mathlib.Core.List.{List}
use mathlib.Core.Logic.{⊎_elim}
use lib.ListN.{length}
use borrow.Author.Tests.{eq-eqb, ne_eqb}
use Rattle.std.specs.Prelude.{Option, Some, None, Ok, Err}
use Rattle.laws.proofs.Tests.{choose-true, choose-false}
use Rattle.fields.specs.Kinds.{valid}
use Rattle.fields.specs.declared.kinds.Kind.TheVariants.{Next}
use Rattle.fields.proofs.Bounds.{valid-next}
use Rattle.units.specs.declared.CellAddress.{CellAddress}
use Rattle.cellmap.specs.Marks.{is_marked, marked, unmarked}
use Rattle.cellmap.proofs.Counting.{unmarked-less}
use Rattle.instruction.specs.declared.adding.Sums.{Sums}
use Rattle.totals.specs.Walk.{sum_of, Rows, place_of, Found, found_by, found, ended, walk, followed}
use Rattle.totals.specs.Walk.Found.{End, Again, Another, Going}

-- a next address that is not 000 has its place in the memory
pub next_place : (a : CellAddress) {k : ℕ} → valid Next a.0 ≡ true → (a.0 ≡ 0 → ⊥) → k ≡ a.0 - 100 → k < 131
next_place a t n e =
    ⊎_elim (λ (z : a.0 ≡ 0). absurd (n z)) (λ (h : (100 ≤ a.0) × (a.0 ≤ 230)). omega (arith, e, h.1)) (valid-next a.0 t)

-- ---- one turn by the definition

walk_end : (n : ℕ) (rows : Rows) (a : CellAddress) (met : List Bool) (s : Sums) → walk n End rows a met s ≡ Ok s
unfolding walk ended
walk_end zero rows a met s = refl
walk_end (suc n) rows a met s = refl

walk-again : (n : ℕ) (rows : Rows) (a : CellAddress) (met : List Bool) (s : Sums) → walk n Again rows a met s ≡ Err 12
unfolding walk ended
walk-again zero rows a met s = refl
walk-again (suc n) rows a met s = refl

walk-other : (n : ℕ) (rows : Rows) (a : CellAddress) (met : List Bool) (s : Sums) → walk n Another rows a met s ≡ Err 13
unfolding walk ended
walk-other zero rows a met s = refl
walk-other (suc n) rows a met s = refl

-- the walk by what is found
finding :
    (rows : Rows) (a : CellAddress) (met : List Bool) (s : Sums) (f : Found) → found rows a met ≡ f →
    followed rows a met s ≡ walk (unmarked met) f rows a met s
unfolding followed
finding rows a met s f e = ap (λ (f : Found). walk (unmarked met) f rows a met s) e

-- what is found at a cell that is not 000 and not met before
found-new :
    (rows : Rows) (a : CellAddress) (met : List Bool) (x : Option Sums) → (a.0 ≡ 0 → ⊥) → is_marked met (place_of a) ≡ false →
    (rows a).added ≡ x → found rows a met ≡ found_by x
unfolding found
found-new rows a met x n e q =
    choose-false _ _ _ (ne_eqb a.0 0 n) ∙ choose-false _ _ _ e ∙ ap found_by q

pub at-end : (rows : Rows) (a : CellAddress) (met : List Bool) (s : Sums) → a.0 ≡ 0 → Ok s ≡ followed rows a met s
unfolding found
at-end rows a met s e =
    sym (finding rows a met s End (choose-true _ _ _ (eq-eqb a.0 0 e)) ∙ walk_end (unmarked met) rows a met s)

pub at_again :
    (rows : Rows) (a : CellAddress) (met : List Bool) (s : Sums) → (a.0 ≡ 0 → ⊥) → is_marked met (place_of a) ≡ true →
    Err 12 ≡ followed rows a met s
unfolding found
at_again rows a met s n e =
    sym
    (finding rows a met s Again (choose-false _ _ _ (ne_eqb a.0 0 n) ∙ choose-true _ _ _ e)
    ∙ walk-again (unmarked met) rows a met s)

pub at_other :
    (rows : Rows) (a : CellAddress) (met : List Bool) (s : Sums) → (a.0 ≡ 0 → ⊥) → is_marked met (place_of a) ≡ false →
    (rows a).added ≡ None → Err 13 ≡ followed rows a met s
unfolding found_by
at_other rows a met s n e q =
    sym (finding rows a met s Another (found-new rows a met None n e q) ∙ walk-other (unmarked met) rows a met s)

pub at-going :
    (rows : Rows) (a : CellAddress) (met : List Bool) (s t : Sums) → (a.0 ≡ 0 → ⊥) → is_marked met (place_of a) ≡ false →
    (rows a).added ≡ Some t → place_of a < length met →
    followed rows (rows a).next (marked met (place_of a)) (sum_of s t) ≡ followed rows a met s
unfolding found_by walk followed
at-going rows a met s t n e q h =
    sym
    (finding rows a met s (Going t) (found-new rows a met (Some t) n e q)
    ∙ ap (λ (n : ℕ). walk n (Going t) rows a met s) (unmarked-less met (place_of a) h e))
