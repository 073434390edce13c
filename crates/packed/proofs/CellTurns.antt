-- One turn of each loop over cells.
-- Assumes nothing.
use Prim.Native.Nat.{ℕ, suc, ◌+◌, ◌-◌, ◌≤◌, ◌<◌}
use native.Mathlib.Numerals.{add-one}
use native.Mathlib.Omega.{arith}
use mathlib.Core.Path.{◌≡◌, ap, sym, ◌∙◌}
use mathlib.Core.List.{List, [], ◌++◌}
use lib.ListN.{length, get_or, drop, set, drop_of_length-le}
use lib.Seq.{drop-cons}
use Rattle.std.specs.Prelude.{Some, None}
use Rattle.format.specs.Formats.{codes}
use Rattle.instruction.specs.declared.Instruction.TheVariants.{Null}
use Rattle.instruction.specs.declared.Cell.{Cell}
use Rattle.packed.specs.Cells.{held, cell_bytes, cell_in, cells_bytes, cells_from}

-- the cell that a memory has where it has none
abbrev pub no_cell : Cell
no_cell = record { instruction = Null; next = record { 0 = 0 } }

less : (n i : ℕ) → i < n → n - i ≡ suc (n - (i + 1))
less n i h = omega arith

none-less : (n : ℕ) → n - 0 ≡ n
none-less n = omega arith

-- writing: the cell at a place and those after it; none left
pub cells-next :
    (i : ℕ) (cells : List Cell) → i < length cells →
    cells_bytes (drop i cells) ≡ cell_bytes (get_or cells i no_cell) ++ cells_bytes (drop (i + 1) cells)
unfolding cells_bytes
cells-next i cells g = rw (drop-cons cells i no_cell g, add-one i)

pub cells-end : (i : ℕ) (cells : List Cell) → length cells ≤ i → cells_bytes (drop i cells) ≡ []
unfolding cells_bytes
cells-end i cells h = ap cells_bytes (drop_of_length-le cells h)

-- reading: all cells; a cell is wrong, or it is held; none is left
pub from_start : (n : ℕ) (s : List ℕ) (at : ℕ) (l : List Cell) → cells_from codes n s at 0 l ≡ cells_from codes (n - 0) s at 0 l
from_start n s at l = ap (λ (k : ℕ). cells_from codes k s at 0 l) (sym (none-less n))

pub from_wrong :
    (n : ℕ) (s : List ℕ) (at i : ℕ) (l : List Cell) → i < n → cell_in codes s at ≡ None → cells_from codes (n - i) s at i l ≡ None
unfolding cells_from
from_wrong n s at i l h e = ap (λ (k : ℕ). cells_from codes k s at i l) (less n i h) ∙ rw e

pub from_next :
    (n : ℕ) (s : List ℕ) (at i : ℕ) (l : List Cell) {c : Cell} {next : ℕ} → i < n → cell_in codes s at ≡ held c next →
    cells_from codes (n - i) s at i l ≡ cells_from codes (n - (i + 1)) s next (i + 1) (set l i c)
unfolding cells_from
from_next n s at i l h e = ap (λ (k : ℕ). cells_from codes k s at i l) (less n i h) ∙ rw (e, add-one i)

pub from_end : (n : ℕ) (s : List ℕ) (at i : ℕ) (l : List Cell) → n ≤ i → cells_from codes (n - i) s at i l ≡ Some (l, at)
unfolding cells_from
from_end n s at i l h = let e : n - i ≡ 0 = omega arith in rw e
