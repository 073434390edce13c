-- The walk goes the way of a program that is started at its first cell, so a run makes the totals: the theorem.
-- Assumes nothing.
use Prim.Native.Nat.{ℕ, zero, suc, ◌+◌}
use native.Mathlib.Nat.{zero-add, add-zero, add_assoc}
use native.Mathlib.Omega.{arith}
use mathlib.Core.Path.{◌≡◌, refl, sym, ap, ◌∙◌}
use mathlib.Core.Bool.{Bool, true, false}
use mathlib.Core.List.{List}
use lib.Dec.{eqb}
use lib.IntN.{◌+ℤ◌, +ℤ_idl, +ℤ_idr, +ℤ_assoc}
use Rattle.std.specs.Prelude.{Option, Some, None, Ok, Err}
use Rattle.laws.specs.Tests.{choose}
use Rattle.laws.specs.Tables.{every}
use Rattle.units.specs.declared.CellAddress.{CellAddress}
use Rattle.cellmap.specs.Marks.{no_marks, marked, unmarked}
use Rattle.instruction.specs.Adding.{added_of}
use Rattle.instruction.specs.declared.Cell.{Cell}
use Rattle.instruction.specs.declared.adding.Sums.{Sums}
use Rattle.machine.specs.Record.{cell_at, idle}
use Rattle.machine.specs.Soundness.{is_cell, sound}
use Rattle.machine.specs.Calls.{Call, after}
use Rattle.machine.specs.declared.Machine.{Machine}
use Rattle.machine.proofs.Invariant.{kept-good}
use Rattle.machine.proofs.Demand2.{start-begins}
use Rattle.trace.specs.Course.{begun, uninterrupted, course}
use Rattle.trace.proofs.Stages.{Left, cell_then, Way}
use Rattle.trace.proofs.Stages.Way.{end, cell}
use Rattle.trace.proofs.Stages as stages
use Rattle.trace.proofs.Courses.{Standing, begun-stands, calls-came, calls-exactly, course-uninterrupted, course-ends}
use Rattle.totals.specs.Walk.{Totalled, nothing, sum_of, rows_of, place_of, Found, found_by, found, ended, walk, followed, totals_in, totals_of}
use Rattle.totals.specs.Walk.Found.{End, Again, Another, Going}
use Rattle.totals.specs.Figures.{Made, Makes, Figures}

-- ---- what is found

same-given : (s t : Sums) → ◌≡◌ {A = Totalled} (Ok s) (Ok t) → s ≡ t
same-given s t e = cc

refused-given : {X : Type 0} (k : ℕ) (t : Sums) → Err k ≡ Ok t → X
refused-given k t e = let z : ◌≡◌ {A = ℕ} 0 1 = cc in absurd (omega arith)

end-choice : (b m : Bool) (x : Option Sums) → choose b End (choose m Again (found_by x)) ≡ End → b ≡ true
unfolding choose found_by
end-choice true m x e = refl
end-choice false true x e = cc
end-choice false false (Some t) e = cc
end-choice false false None e = cc

found-end : (cells : List Cell) (a : CellAddress) (met : List Bool) → found (rows_of cells) a met ≡ End → eqb a.0 0 ≡ true
unfolding found
found-end cells a met e = end-choice _ _ _ e

-- a cell that is passed stands at no 000, and adds what is found
going-choice :
    (b m : Bool) (x : Option Sums) (t : Sums) → choose b End (choose m Again (found_by x)) ≡ Going t →
    (b ≡ false) × (x ≡ Some t)
unfolding choose found_by
going-choice true m x t e = let z : ◌≡◌ {A = ℕ} 0 1 = cc in absurd (omega arith)
going-choice false true x t e = let z : ◌≡◌ {A = ℕ} 0 1 = cc in absurd (omega arith)
going-choice false false (Some u) t e = let q : u ≡ t = cc in (refl, ap Some q)
going-choice false false None t e = let z : ◌≡◌ {A = ℕ} 0 1 = cc in absurd (omega arith)

found-going :
    (cells : List Cell) (a : CellAddress) (met : List Bool) (t : Sums) → found (rows_of cells) a met ≡ Going t →
    (eqb a.0 0 ≡ false) × (added_of (cell_at cells a).instruction ≡ Some t)
unfolding found
found-going cells a met t e = going-choice _ _ _ t e

-- ---- the walk

-- from an address on there is a way, and what it leaves to make is what the walk still adds
record Followed (cells : List Cell) (a : CellAddress) (s total : Sums) : Type 0 where
  left : Left
  way : Way cells a left
  steps : s.steps.0 +ℤ left.steps ≡ total.steps.0
  delay : s.delay.0 + left.delay ≡ total.delay.0

walk-ended :
    (cells : List Cell) (a : CellAddress) (met : List Bool) (s total : Sums) → found (rows_of cells) a met ≡ End → ◌≡◌ {A = Totalled} (Ok s) (Ok total) →
    Followed cells a s total
walk-ended cells a met s total f e =
    let q = same-given s total e in
    record {
      left = stages.nothing;
      way = end (found-end cells a met f);
      steps = +ℤ_idr s.steps.0 ∙ ap (λ (t : Sums). t.steps.0) q;
      delay = add-zero s.delay.0 ∙ ap (λ (t : Sums). t.delay.0) q;
    }

walk-passed :
    (cells : List Cell) (a : CellAddress) (met : List Bool) (s t total : Sums) → found (rows_of cells) a met ≡ Going t →
    Followed cells (cell_at cells a).next (sum_of s t) total → Followed cells a s total
unfolding sum_of
walk-passed cells a met s t total f w =
    let p = found-going cells a met t f in
    record {
      left = cell_then t.steps t.delay w.left;
      way = cell p.0 p.1 w.way;
      steps = sym (+ℤ_assoc s.steps.0 t.steps.0 w.left.steps) ∙ w.steps;
      delay = sym (add_assoc s.delay.0 t.delay.0 w.left.delay) ∙ w.delay;
    }

walk-followed :
    (n : ℕ) (f : Found) (cells : List Cell) (a : CellAddress) (met : List Bool) (s total : Sums) → found (rows_of cells) a met ≡ f →
    walk n f (rows_of cells) a met s ≡ Ok total → Followed cells a s total
unfolding walk ended
walk-followed zero End cells a met s total f e = walk-ended cells a met s total f e
walk-followed zero Again cells a met s total f e = refused-given 12 total e
walk-followed zero Another cells a met s total f e = refused-given 13 total e
walk-followed zero (Going t) cells a met s total f e = refused-given 12 total e
walk-followed (suc n) End cells a met s total f e = walk-ended cells a met s total f e
walk-followed (suc n) Again cells a met s total f e = refused-given 12 total e
walk-followed (suc n) Another cells a met s total f e = refused-given 13 total e
walk-followed (suc n) (Going t) cells a met s total f e =
    walk-passed cells a met s t total f
    (walk-followed n (found (rows_of cells) (cell_at cells a).next (marked met (place_of a))) cells (cell_at cells a).next
    (marked met (place_of a)) (sum_of s t) total refl e)

given_by : (b : Bool) (x : Totalled) (k : ℕ) (total : Sums) → choose b x (Err k) ≡ Ok total → (b ≡ true) × (x ≡ Ok total)
unfolding choose
given_by true x k total e = (refl, e)
given_by false x k total e = refused-given k total e

-- the totals of a start cell
record Totals (m : Machine) (a : CellAddress) (total : Sums) : Type 0 where
  start : is_cell a ≡ true
  left : Left
  way : Way m.cells a left
  steps : left.steps ≡ total.steps.0
  delay : left.delay ≡ total.delay.0

totals-way : (m : Machine) (a : CellAddress) (total : Sums) → totals_of m a ≡ Ok total → Totals m a total
unfolding totals_of totals_in followed
totals-way m a total e =
    let p = given_by (sound m) _ 2 total e in
    let q = given_by (is_cell a) _ 11 total p.1 in
    let w = walk-followed (unmarked no_marks) (found (rows_of m.cells) a no_marks) m.cells a no_marks nothing total refl q.1 in
    record {
      start = q.0;
      left = w.left;
      way = w.way;
      steps = sym (+ℤ_idl w.left.steps) ∙ w.steps;
      delay = sym (zero-add w.left.delay) ∙ w.delay;
    }

-- ---- the theorem

stands-makes : (m : Machine) {x : Left} (total : Sums) → Standing m x → x.steps ≡ total.steps.0 → x.delay ≡ total.delay.0 → Makes m total
stands-makes m {x} total g p q =
    record {
      alone = (x.turns, made (course x.turns m) (course-uninterrupted x.turns m) (course-ends x.turns m g refl));
      exactly = made;
      always = λ zs u. let c = calls-came zs m u g in (c.left.turns, course-ends c.left.turns (after zs m) c.standing refl);
    }
  where
    made : (zs : List Call) → every uninterrupted zs ≡ true → idle (after zs m).state ≡ true → Made zs m total
    made zs u i =
        let e = calls-exactly zs m u g i in
        record { ends = i; steps = e.0 ∙ p; delay = e.1 ∙ q }

pub figures : Figures
figures =
    record {
      figures = λ m k r x a total e.
          let w = totals-way m a total e in
          stands-makes (begun m a) total (begun-stands m a k (record { relative = r; allows = x }) w.start w.way) w.steps w.delay;
      starts = λ m k i ee n h buffer l. start-begins m n buffer (kept-good m k) i ee h l;
    }
