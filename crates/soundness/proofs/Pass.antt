-- The pass over the memory: one cell more, the end, and the cells that the state names.
-- Assumes nothing.
use Prim.Native.Nat.{ℕ, ◌+◌, ◌<◌, ◌≤◌}
use native.Mathlib.Numerals.{add-one}
use native.Mathlib.Omega.{arith}
use mathlib.Core.Path.{◌≡◌, refl, sym, ap, ◌∙◌}
use mathlib.Core.Bool.{Bool, true, ◌&&◌}
use mathlib.Core.List.{List}
use lib.Dec.{lit<}
use lib.ListN.{length, get_or, drop, drop_of_length-le}
use lib.Seq.{drop-cons}
use borrow.Author.Tests.{leb-true}
use Rattle.laws.specs.Tests.{both}
use Rattle.laws.specs.Tables.{every}
use Rattle.laws.proofs.Tests.{both_right, choose-by, choose-true}
use Rattle.laws.proofs.Joins.{and-as, both-assoc, both_end}
use Rattle.units.specs.declared.CellAddress.{CellAddress}
use Rattle.instruction.specs.Soundness.{cell_sound}
use Rattle.instruction.specs.declared.Cell.{Cell}
use Rattle.machine.specs.Record.{null_cell, cell_at}
use Rattle.machine.specs.Soundness.{is_cell}
use Rattle.soundness.specs.Places.{place_of, Holds}

-- the cells that were passed, of which ok tells, and those that are left
pub record Passed (xs : List Cell) (i : ℕ) (ok : Bool) : Type 0 where
  pub size : length xs ≡ 131
  pub left : every cell_sound xs ≡ both ok (every cell_sound (drop i xs))

pub pass-start : {xs : List Cell} → length xs ≡ 131 → Passed xs 0 true
unfolding both
pass-start h = record { size = h; left = refl }

every_drop : (xs : List Cell) (i : ℕ) → i < length xs →
    every cell_sound (drop i xs) ≡ both (cell_sound (get_or xs i null_cell)) (every cell_sound (drop (i + 1) xs))
unfolding every
every_drop xs i h = rw (add-one i, drop-cons xs i null_cell h)

pub pass_step :
    {xs : List Cell} {i : ℕ} {ok x : Bool} → i < 131 → x ≡ cell_sound (get_or xs i null_cell) → Passed xs i ok → Passed xs (i + 1) (ok && x)
pass_step {xs} {i} h e p = record {
  size = p.size;
  left = p.left ∙ ap (both _) (every_drop xs i (omega arith)) ∙ rw (and-as refl e) (sym (both-assoc _ _ _));
}

pub pass-end : {xs : List Cell} {i : ℕ} {ok : Bool} → 131 ≤ i → Passed xs i ok → ok ≡ every cell_sound xs
unfolding every
pass-end {xs} {i} h p = let l : length xs ≤ i = omega (arith, p.size) in sym (p.left ∙ rw (drop_of_length-le xs l) (both_end _))

-- every place is one of the 131
pub place_within : (a : CellAddress) {k : ℕ} → k ≡ place_of a → k < 131
unfolding place_of is_cell
place_within a e =
    rw e (choose-by (λ (n : ℕ). n < 131) (is_cell a) (λ t. omega (arith, leb-true a.0 230 (both_right _ _ t))) (λ t. lit< tt))

-- the cell at an address's place is the one that it names
pub place-holds : (xs : List Cell) (a : CellAddress) {k : ℕ} → k ≡ place_of a → Holds xs a (get_or xs k null_cell).instruction
unfolding place_of cell_at
place-holds xs a e t = ap (λ (n : ℕ). (get_or xs n null_cell).instruction) (sym (e ∙ choose-true _ _ _ t))
