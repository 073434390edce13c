-- The worked maps hold, by computation; and a map that passes their test is the map of what can be reached.
-- Assumes nothing.
use Prim.Native.Nat.{ℕ, ◌<◌}
use Prim.Native.String.{String}
use native.Mathlib.Omega.{arith}
use mathlib.Core.Path.{◌≡◌, refl, sym, ◌∙◌, subst}
use mathlib.Core.Bool.{Bool, true, not}
use mathlib.Core.List.{List, [], ◌∷◌}
use mathlib.Core.Logic.{⊎_elim}
use lib.Dec.{leb}
use lib.ListN.{length, length-set}
use borrow.Author.Tests.{leb-true, ltb-true, not-true}
use Rattle.laws.specs.Tests.{both, either}
use Rattle.laws.specs.Tables.{all_below}
use Rattle.laws.proofs.Tests.{both_left, both_right, either-cases}
use Rattle.laws.proofs.Tables.{all_below-at}
use Rattle.cellmap.specs.Marks.{is_marked, marked}
use Rattle.instruction.specs.Ways.{jump_of}
use Rattle.instruction.specs.declared.Cell.{Cell}
use Rattle.machine.specs.Cases.{send, send_all}
use Rattle.machine.proofs.Tests.{clash}
use Rattle.machine.proofs.Computing.{computing}
use Rattle.reachability.specs.Graph.{place_of, next_place, jump_place, Link, Reached, Counted, is_root}
use Rattle.reachability.specs.Graph.Link.{by_next, by_jump}
use Rattle.reachability.specs.Graph.Reached.{from, along}
use Rattle.reachability.specs.MapCases.{Way, root_marks, marks_along, follows, stays, closed, cells_after, map_holds, named, unheld, of_maps, MapCases}
use Rattle.reachability.specs.MapCases.MapCase.{Uses}
use Rattle.reachability.proofs.Searching.{leads-link, inside, reached-small, marked-still, marked-before}

maps-hold : unheld of_maps ≡ []
unfolding computing jump_of all_below send send_all place_of next_place jump_place root_marks marks_along follows closed cells_after map_holds named unheld of_maps
maps-hold = refl

-- ---- a map that passes

abbrev Within : List Cell → List Bool → Type 0
Within cells marks = (k : ℕ) → is_marked marks k ≡ true → Reached cells is_root k

-- what is marked along the ways can be reached
along-within : (cells : List Cell) (marks : List Bool) (ws : List Way) → follows cells marks ws ≡ true → Within cells marks → Within cells (marks_along marks ws)
unfolding marks_along follows
along-within cells marks [] t f = f
along-within cells marks (w ∷ ws) t f =
    let s = both_left _ _ t in
    let l = both_right (is_marked marks w.out) _ s in
    let x : Link cells w.out w.into = leads-link cells w.out w.into (both_right _ _ l) in
    let r : Reached cells is_root w.into = along (ltb-true _ 131 (both_left _ _ l)) (f w.out (both_left _ _ s)) x in
    along-within cells (marked marks w.into) ws (both_right _ _ t)
    (λ k m. ⊎_elim (λ (e : k ≡ w.into). subst (Reached cells is_root) (sym e) r) (λ (o : is_marked marks k ≡ true). f k o) (marked-before marks w.into k m))

along-still : (marks : List Bool) (ws : List Way) (k : ℕ) → is_marked marks k ≡ true → is_marked (marks_along marks ws) k ≡ true
unfolding marks_along
along-still marks [] k t = t
along-still marks (w ∷ ws) k t = along-still (marked marks w.into) ws k (marked-still marks w.into k t)

along-size : (marks : List Bool) (ws : List Way) → length (marks_along marks ws) ≡ length marks
unfolding marks_along
along-size marks [] = refl
along-size marks (w ∷ ws) = along-size (marked marks w.into) ws ∙ length-set marks w.into true

stays-marked : (marks : List Bool) (k : ℕ) → k < 131 → stays marks k ≡ true → is_marked marks k ≡ true
stays-marked marks k h t = ⊎_elim (λ (e : leb 131 k ≡ true). absurd (omega (arith, h, leb-true 131 k e))) (λ e. e) (either-cases (leb 131 k) _ t)

-- a test that passes wherever another does, below 131
implied : (f g : ℕ → Bool) → all_below (λ k. either (not (f k)) (g k)) 131 ≡ true → (k : ℕ) → k < 131 → f k ≡ true → g k ≡ true
implied f g t k h m =
    ⊎_elim (λ (e : not (f k) ≡ true). clash (sym (not-true _ e) ∙ m)) (λ e. e) (either-cases (not (f k)) (g k) (all_below-at (λ k. either (not (f k)) (g k)) 131 k t h))

closed-marked : (cells : List Cell) (marks : List Bool) → closed cells marks ≡ true → (j k : ℕ) → j < 131 → is_marked marks j ≡ true → k < 131 → Link cells j k → is_marked marks k ≡ true
unfolding closed
closed-marked cells marks t j k h m b by_next = stays-marked marks _ b (both_left _ _ (implied (is_marked marks) _ t j h m))
closed-marked cells marks t j k h m b by_jump = stays-marked marks _ b (both_right _ _ (implied (is_marked marks) _ t j h m))

root-marked : (k : ℕ) → k < 131 → is_root k ≡ true → is_marked root_marks k ≡ true
unfolding is_root root_marks all_below both either
root-marked = implied is_root (is_marked root_marks) refl

root-within : (cells : List Cell) → Within cells root_marks
unfolding is_root root_marks all_below both either
root-within cells k m = let h : k < 131 = inside root_marks k m in from h (implied (is_marked root_marks) is_root refl k h m)

passed : (cells : List Cell) (ws : List Way) → follows cells root_marks ws ≡ true → closed cells (marks_along root_marks ws) ≡ true → Counted cells is_root (marks_along root_marks ws)
unfolding root_marks
passed cells ws t u =
    record {
      size = along-size root_marks ws;
      exactly = λ k h. (along-within cells root_marks ws t (root-within cells) k, all);
    }
  where
    all : {k : ℕ} → Reached cells is_root k → is_marked (marks_along root_marks ws) k ≡ true
    all {k} (from h r) = along-still root_marks ws k (root-marked k h r)
    all {k} (along {j} h r x) = closed-marked cells (marks_along root_marks ws) u j k (reached-small r) (all r) h x

holds-counted :
    (s : String) (ss : List String) (ws : List Way) → map_holds (Uses s ss ws) ≡ true → Counted (cells_after ss) is_root (marks_along root_marks ws)
unfolding map_holds
holds-counted s ss ws t = passed (cells_after ss) ws (both_left _ _ t) (both_right _ _ t)

pub cases-hold : MapCases
cases-hold = record { maps = maps-hold; counted = holds-counted }
