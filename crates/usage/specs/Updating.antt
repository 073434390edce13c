-- 02, Slip 5: the map of used cells as it is brought up to date. "The map isn't part of a drive": it is a list of marks beside it.
-- Assumes nothing.
use Rattle.std.specs.Prelude.{ℕ, ◌≡◌, Bool, true, false, not, List, [], ◌∷◌, leb, get_or, Option, Some, None}
use Rattle.laws.specs.Tests.{both, either}
use Rattle.fields.specs.Rows.{parse_fields}
use Rattle.fields.specs.declared.rows.Parsed.{Parsed}
use Rattle.format.specs.Formats.{cell}
use Rattle.cellmap.specs.Marks.{is_marked}
use Rattle.instruction.specs.declared.Cell.{Cell}
use Rattle.machine.specs.Record.{null_cell}
use Rattle.machine.specs.Commands.{fields_at, address_of}
use Rattle.machine.specs.Strings.{body_of}
use Rattle.reachability.specs.Graph.{place_of, next_place, jump_place, leads, Counted, is_root}
use Rattle.reachability.specs.Search.{Grown}

-- the place of the cell that a string names: BBB of `AAWN,BBB,..`. 131 where it names none
unfoldable pub place_by : Option Parsed → ℕ
place_by (Some p) = place_of (address_of p.values)
place_by None = 131

unfoldable pub place_in : List ℕ → ℕ
place_in b = place_by (parse_fields (cell ∷ []) (body_of b) fields_at)

-- a cell leads to a place; to 131 and beyond, which is no cell, there is no way that it could lack
unfoldable pub leads_to : Cell → ℕ → Bool
leads_to c k = either (leb 131 k) (leads c k)

-- "takes one off": a way of the old cell is none of the new
unfoldable pub loses : Cell → Cell → Bool
loses old new = not (both (leads_to new (next_place old)) (leads_to new (jump_place old)))

-- a string changes no way of a used cell
unfoldable pub idles : Cell → Cell → ℕ → List Bool → Bool
idles old new at used = either (not (is_marked used at)) (both (not (loses old new)) (not (loses new old)))

-- what becomes of a map, whichever it is, when the memory changes at one place at most
pub data Updated (before after : List Cell) (at : ℕ) (used : List Bool) : List Bool → Type 0 where
  -- no way of a used cell is another: the map is left alone
  kept : idles (get_or before at null_cell) (get_or after at null_cell) at used ≡ true → Updated before after at used used
  -- "adds a way": what the cell leads to now joins it
  grown :
      {map : List Bool} → is_marked used at ≡ true → loses (get_or before at null_cell) (get_or after at null_cell) ≡ false →
      loses (get_or after at null_cell) (get_or before at null_cell) ≡ true → Grown after at used map → Updated before after at used map
  -- "takes one off": it is counted anew
  recounted :
      {map : List Bool} → is_marked used at ≡ true → loses (get_or before at null_cell) (get_or after at null_cell) ≡ true →
      Counted after is_root map → Updated before after at used map
