-- Worked maps, from the sentences of 02, Slip 5: the used cells of a memory, each beyond 100 to 115 with one that leads to it.
-- Assumes nothing.
use Rattle.std.specs.Prelude.{ℕ, ◌-◌, ◌≡◌, Bool, true, false, not, List, [], ◌∷◌, ◌++◌, leb, ltb, get_or, replicate}
use Prim.Native.String.{String}
use Rattle.laws.specs.Tests.{choose, both, either}
use Rattle.laws.specs.Tables.{all_below}
use Rattle.cellmap.specs.Marks.{is_marked, marked}
use Rattle.instruction.specs.declared.Cell.{Cell}
use Rattle.machine.specs.Record.{null_cell}
use Rattle.machine.specs.Cases.{send_all, bench}
use Rattle.reachability.specs.Graph.{next_place, jump_place, leads, Counted, is_root}

-- ---- a map is right: what can be tested of it

-- a cell, and one that it leads to, by their places
pub record Way : Type 0 where
  pub out : ℕ
  pub into : ℕ

-- 100 to 115 and no other
unfoldable pub root_marks : List Bool
root_marks = replicate 16 true ++ replicate 115 false

-- each way begins at a cell that is marked before it, and its end is marked then
unfoldable pub marks_along : List Bool → List Way → List Bool
marks_along marks [] = marks
marks_along marks (w ∷ ws) = marks_along (marked marks w.into) ws

unfoldable pub follows : List Cell → List Bool → List Way → Bool
follows cells marks [] = true
follows cells marks (w ∷ ws) =
    both (both (is_marked marks w.out) (both (ltb w.into 131) (leads (get_or cells w.out null_cell) w.into)))
    (follows cells (marked marks w.into) ws)

-- no way leads from a marked cell to one without a mark
abbrev pub stays : List Bool → ℕ → Bool
stays marks k = either (leb 131 k) (is_marked marks k)

unfoldable pub closed : List Cell → List Bool → Bool
closed cells marks =
    all_below (λ j. either (not (is_marked marks j))
    (both (stays marks (next_place (get_or cells j null_cell))) (stays marks (jump_place (get_or cells j null_cell))))) 131

-- ---- the cases

pub data MapCase : Type 0 where
  -- after strings to a fresh drive at 00, these ways lead to all that is used beyond 100 to 115
  Uses : String → List String → List Way → MapCase

infixl 100 ◌to◌
-- a way between two cells
abbrev pub ◌to◌ : ℕ → ℕ → Way
a to b = record { out = a - 100; into = b - 100 }

unfoldable pub cells_after : List String → List Cell
cells_after ss = (send_all ss bench).cells

unfoldable pub map_holds : MapCase → Bool
map_holds (Uses s ss ws) = both (follows (cells_after ss) root_marks ws) (closed (cells_after ss) (marks_along root_marks ws))

unfoldable pub named : MapCase → String
named (Uses s ss ws) = s

-- the sentences whose cases do not hold
unfoldable pub unheld : List MapCase → List String
unheld [] = []
unheld (c ∷ cs) = choose (map_holds c) (unheld cs) (named c ∷ unheld cs)

unfoldable pub of_maps : List MapCase
of_maps =
    Uses "these 16 included" [] [] ∷
    Uses "from cells 100 to 115 (the first and the last)" ("00WN,100,00,120" ∷ "00WN,115,00,130" ∷ []) (100 to 120 ∷ 115 to 130 ∷ []) ∷
    Uses "from cells 100 to 115 (116 is none)" ("00WN,116,00,120" ∷ []) [] ∷
    Uses "through DDD (upward)" ("00WN,100,00,116" ∷ "00WN,116,65,9,117" ∷ "00WN,117,00,000" ∷ []) (100 to 116 ∷ 116 to 117 ∷ []) ∷
    Uses "through DDD (downward)" ("00WN,116,00,000" ∷ "00WN,130,60,116" ∷ "00WN,115,00,130" ∷ []) (115 to 130 ∷ 130 to 116 ∷ []) ∷
    Uses "through EEE (62)" ("00WN,100,62,150,000" ∷ []) (100 to 150 ∷ []) ∷
    Uses "through DDD and EEE (62)" ("00WN,100,62,150,160" ∷ []) (100 to 150 ∷ 100 to 160 ∷ []) ∷
    Uses "through DDD and EEE (63)" ("00WN,100,63,I0,0,150,160" ∷ "00WN,150,00,161" ∷ []) (100 to 160 ∷ 100 to 150 ∷ 150 to 161 ∷ []) ∷
    Uses "a 69 leads nowhere" ("00WN,100,69" ∷ []) [] ∷
    Uses "the last cells" ("00WN,100,00,230" ∷ "00WN,230,00,228" ∷ []) (100 to 230 ∷ 230 to 228 ∷ []) ∷
    Uses "back to a root" ("00WN,100,00,200" ∷ "00WN,200,00,101" ∷ []) (100 to 200 ∷ []) ∷
    Uses "to itself" ("00WN,100,00,200" ∷ "00WN,200,00,200" ∷ []) (100 to 200 ∷ []) ∷
    Uses "a circle that nothing leads to" ("00WN,120,00,121" ∷ "00WN,121,00,120" ∷ []) [] ∷
    Uses "takes one off" ("00WN,100,00,120" ∷ "00WN,120,00,121" ∷ "00WN,121,00,120" ∷ "00WN,100,00,000" ∷ []) [] ∷
    Uses "takes one off, another way being left" ("00WN,100,63,I0,1,120,130" ∷ "00WN,130,00,120" ∷ "00WN,100,00,130" ∷ []) (100 to 130 ∷ 130 to 120 ∷ []) ∷
    Uses "with each WN (N)" ("00WN,100,00,120" ∷ "00WN,100,00,231" ∷ []) (100 to 120 ∷ []) ∷
    Uses "with each WN (another address, and 99)" ("00WN,100,00,120" ∷ "01WN,100,00,130" ∷ "99WN,100,00,130" ∷ []) (100 to 120 ∷ []) ∷
    []

pub record MapCases : Type 0 where
  pub maps : unheld of_maps ≡ []
  -- and a map that passes the test is the map of what can be reached
  pub counted :
      (s : String) (ss : List String) (ws : List Way) → map_holds (Uses s ss ws) ≡ true → Counted (cells_after ss) is_root (marks_along root_marks ws)
