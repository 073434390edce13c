-- A cell as WN sends it and QM shows it: the text after BBB.
-- Assumes nothing.
use Rattle.std.specs.Prelude.{ℕ, ◌+◌, ◌≤◌, ◌≡◌, true, List, [], ◌∷◌, ◌++◌, length, get_or, Option, Some, None}
use Rattle.laws.specs.Tests.{choose}
use Rattle.fields.specs.Rows.{parse_fields, parse_all, print_fields}
use Rattle.fields.specs.declared.kinds.Kind.{Kind}
use Rattle.fields.specs.declared.kinds.Kind.TheVariants.{Fixed}
use Rattle.fields.specs.declared.rows.Parsed.{Parsed}
use Rattle.instruction.specs.Codes.{code_of}
use Rattle.format.specs.Formats.{fields_of, known}
use Rattle.instruction.specs.Numbers.{numbers_of, cell_of}
use Rattle.instruction.specs.Soundness.{cell_sound}
use Rattle.instruction.specs.declared.Cell.{Cell}

-- CC
abbrev pub code_kind : Kind
code_kind = Fixed 2 0 99

-- 01: "QM,BBB as WN stored it": a comma, the code, and the fields with their commas
unfoldable pub cell_text : Cell → List ℕ
cell_text c =
    print_fields (code_kind ∷ []) (code_of c.instruction ∷ []) ++ print_fields (fields_of (code_of c.instruction)) (numbers_of c)

-- the fields after the code, to the end of the string
unfoldable pub sent_fields : ℕ → Option Parsed → Option Cell
sent_fields code (Some p) = Some (cell_of code p.values)
sent_fields code None = None

unfoldable pub sent_code : List ℕ → Option Parsed → Option Cell
sent_code s (Some p) =
    choose (known (get_or p.values 0 0))
    (sent_fields (get_or p.values 0 0) (parse_all (fields_of (get_or p.values 0 0)) s p.at)) None
sent_code s None = None

-- 01: "`AAWN,BBB,CC,..,DDD`": the cell that the text from a place on says, or that it is wrong
unfoldable pub sent_cell : List ℕ → ℕ → Option Cell
sent_cell s from = sent_code s (parse_fields (code_kind ∷ []) s from)

-- what showing a cell asks: a sound cell, and room for its text from the place on
pub record Shown (c : Cell) (at : ℕ) (buf : List ℕ) : Type 0 where
  pub sound : cell_sound c ≡ true
  pub room : at + length (cell_text c) ≤ length buf
