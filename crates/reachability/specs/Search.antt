-- What a search adds to a map: the cells to follow stand in an order, and each cell that is found is marked and put behind them.
-- Assumes nothing.
use Rattle.std.specs.Prelude.{ℕ, ◌+◌, ◌<◌, ◌≤◌, ◌≡◌, Bool, true, not, List, [], ◌∷◌, ◌↔◌, ltb, length, get_or, set}
use Rattle.laws.specs.Tests.{choose, both, either}
use Rattle.cellmap.specs.Marks.{is_marked, marked, unmarked}
use Rattle.instruction.specs.Adding.{is_one_of}
use Rattle.instruction.specs.declared.Cell.{Cell}
use Rattle.reachability.specs.Graph.{Link}

-- what is marked, and what is reached from it along the ways of open cells
pub data Spread (cells : List Cell) (first : List Bool) (is_open : ℕ → Bool) : ℕ → Type 0 where
  old : {k : ℕ} → k < 131 → is_marked first k ≡ true → Spread cells first is_open k
  onward : {j k : ℕ} → k < 131 → is_open j ≡ true → Spread cells first is_open j → Link cells j k → Spread cells first is_open k

-- open are the cells to follow, and those that had no mark
unfoldable pub open_by : List ℕ → List Bool → ℕ → Bool
open_by follow first j = either (is_one_of follow j) (not (is_marked first j))

-- a map with what is reached from the cells to follow, and from what is found so
pub record Searched (cells : List Cell) (follow : List ℕ) (first used : List Bool) : Type 0 where
  pub size : length used ≡ 131
  pub exactly : (k : ℕ) → k < 131 → (is_marked used k ≡ true) ↔ Spread cells first (open_by follow first) k

-- with what one marked cell leads to
abbrev pub Grown : List Cell → ℕ → List Bool → List Bool → Type 0
Grown cells at first used = Searched cells (at ∷ []) first used

-- ---- one step

-- the first n of an order are marked cells to follow, and it has room for each cell without a mark
pub record Waiting (used : List Bool) (order : List ℕ) (n : ℕ) : Type 0 where
  pub size : length used ≡ 131
  pub long : length order ≡ 131
  pub room : n + unmarked used ≤ 131
  pub on_map : (t : ℕ) → t < n → is_marked used (get_or order t 0) ≡ true

-- a place that is a cell's and has no mark
unfoldable pub is_new : List Bool → ℕ → Bool
is_new used k = both (ltb k 131) (not (is_marked used k))

abbrev pub marks_with : List Bool → ℕ → List Bool
marks_with used k = choose (is_new used k) (marked used k) used

abbrev pub order_with : List Bool → List ℕ → ℕ → ℕ → List ℕ
order_with used order n k = choose (is_new used k) (set order n k) order

abbrev pub count_with : List Bool → ℕ → ℕ → ℕ
count_with used n k = choose (is_new used k) (n + 1) n
