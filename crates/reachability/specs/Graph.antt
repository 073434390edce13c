-- The cells of a memory as a graph: where a cell leads, and what can be reached. A cell stands as its place: cell 100 as 0.
-- Assumes nothing.
use Rattle.std.specs.Prelude.{ℕ, ◌-◌, ◌<◌, ◌≡◌, Bool, true, List, ◌↔◌, eqb, ltb, length, get_or}
use Rattle.laws.specs.Tests.{choose, either}
use Rattle.units.specs.declared.CellAddress.{CellAddress}
use Rattle.cellmap.specs.Marks.{is_marked}
use Rattle.instruction.specs.Ways.{jump_of}
use Rattle.instruction.specs.declared.Cell.{Cell}
use Rattle.machine.specs.Record.{null_cell}

-- the place of a cell; of 000, which is no cell, 131
unfoldable pub place_of : CellAddress → ℕ
place_of a = choose (ltb a.0 100) 131 (a.0 - 100)

-- 02, Slip 5: "through DDD and EEE": where a cell leads, 131 and beyond being no cell
unfoldable pub next_place : Cell → ℕ
next_place c = place_of c.next

unfoldable pub jump_place : Cell → ℕ
jump_place c = place_of (jump_of c.instruction c.next)

-- a cell leads to a place
abbrev pub leads : Cell → ℕ → Bool
leads c k = either (eqb (next_place c) k) (eqb (jump_place c) k)

pub data Link (cells : List Cell) (j : ℕ) : ℕ → Type 0 where
  by_next : Link cells j (next_place (get_or cells j null_cell))
  by_jump : Link cells j (jump_place (get_or cells j null_cell))

-- "the cells that can be reached from" some, "these .. included"
pub data Reached (cells : List Cell) (start : ℕ → Bool) : ℕ → Type 0 where
  from : {k : ℕ} → k < 131 → start k ≡ true → Reached cells start k
  along : {j k : ℕ} → k < 131 → Reached cells start j → Link cells j k → Reached cells start k

-- the map of them: there is only one
pub record Counted (cells : List Cell) (start : ℕ → Bool) (used : List Bool) : Type 0 where
  pub size : length used ≡ 131
  pub exactly : (k : ℕ) → k < 131 → (is_marked used k ≡ true) ↔ Reached cells start k

-- "cells 100 to 115"
unfoldable pub is_root : ℕ → Bool
is_root k = ltb k 16
