-- 02, Slip 1: the memory image. What it holds, what writing it hands back, and the drive that reading one gives.
-- Assumes nothing.
use Rattle.std.specs.Prelude.{ℕ, Bool, List, [], ◌∷◌, ◌++◌, eqb, ltb, length, take, get_or, replicate, Option, Some, None, Result, Ok, Err}
use Rattle.laws.specs.Tests.{choose, both}
use Rattle.fields.specs.declared.kinds.Kind.{Kind}
use Rattle.format.specs.Formats.{Codes, codes, codes_before}
use Rattle.instruction.specs.Numbers.{byte_of, is_one, six, same_numbers}
use Rattle.instruction.specs.Soundness.{cell_sound_by}
use Rattle.instruction.specs.declared.Cell.{Cell}
use Rattle.packed.specs.Rows.{row_bytes, read_row}
use Rattle.packed.specs.Cells.{cells_bytes, ReadCells, cells_from}
use Rattle.packed.specs.declared.rows.Row.{Row}
use Rattle.machine.specs.Record.{null_cell, fresh_state, with_presets}
use Rattle.machine.specs.Soundness.{sound_by, sound}
use Rattle.machine.specs.Commands.{preset_kind, resolution_at}
use Rattle.machine.specs.Answers.{preset_value}
use Rattle.machine.specs.Acting.{presets_of}
use Rattle.machine.specs.Operations.{filled, Made}
use Rattle.machine.specs.Operations.Made.{NotMade, Drive}
use Rattle.machine.specs.declared.Presets.{Presets}
use Rattle.machine.specs.declared.Machine.{Machine}

-- 02: "First come the presets in 01's order": AD, IN, RS, ES, CM, by the kinds that WS and QS use
abbrev pub preset_kinds : List Kind
preset_kinds = preset_kind 0 ∷ preset_kind 1 ∷ preset_kind 2 ∷ preset_kind 3 ∷ preset_kind 4 ∷ []

unfoldable pub preset_numbers : Presets → List ℕ
preset_numbers p = six (preset_value 0 p) (preset_value 1 p) (preset_value 2 p) (preset_value 3 p) (preset_value 4 p) 0

-- the presets of these numbers
unfoldable pub presets_from : List ℕ → Presets
presets_from vs =
    presets_of (record { 0 = byte_of (get_or vs 0 0) }) (byte_of (get_or vs 1 0)) (resolution_at (get_or vs 2 0)) (is_one (get_or vs 3 0)) (is_one (get_or vs 4 0))

-- ---- writing

-- 02: "cells 100 to 227": so many, from the first on
abbrev pub image_cells : ℕ
image_cells = 128

-- 02: "An image is the five presets and cells 100 to 227"
unfoldable pub image_of : Machine → List ℕ
image_of m = row_bytes preset_kinds (preset_numbers m.state.presets) ++ cells_bytes (take image_cells m.cells)

-- 02: "The writer tells the image's length"; "9, image buffer too short for the image, after 2": the length, or the
-- refusal's number
unfoldable pub written_into : List ℕ → Machine → Result ℕ ℕ
written_into buffer m =
    choose (sound m)
    (choose (ltb (length buffer) (length (image_of m))) (Err 9) (Ok (length (image_of m))))
    (Err 2)

-- 02: "leaves later bytes as they are"; 01: "Every refusal hands back .. untouched buffers"
unfoldable pub buffer_by : List ℕ → Machine → Result ℕ ℕ → List ℕ
buffer_by buffer m (Ok n) = filled (image_of m) buffer
buffer_by buffer m (Err k) = buffer

unfoldable pub buffer_written : List ℕ → Machine → List ℕ
buffer_written buffer m = buffer_by buffer m (written_into buffer m)

-- ---- reading

-- 02: "Reading gives a fresh drive so filled"
unfoldable pub fresh_with : Presets → List Cell → Machine
fresh_with p cells = record { state = with_presets (fresh_state p.address) p; cells = cells }

-- 02: "10, the only refusal of reading, bytes that the writer makes for no drive"
abbrev pub not_loaded : Made
not_loaded = NotMade 10

-- the drive of these presets and cells. Bytes after the last cell are of no image; and the writer makes one for sound drives only
unfoldable pub loaded_with : (Machine → Bool) → List ℕ → Presets → ReadCells → Made
loaded_with is_sound s p None = not_loaded
loaded_with is_sound s p (Some (cells, at)) =
    choose (both (eqb at (length s)) (is_sound (fresh_with p cells))) (Drive (fresh_with p cells)) not_loaded

-- whether these are numbers of presets: those made of them have the same
unfoldable pub holds_presets : List ℕ → Bool
holds_presets vs = same_numbers (preset_numbers (presets_from vs)) vs

-- 02: "Cells 228 to 230 aren't kept and are Null after reading"
unfoldable pub loaded_after : Codes → (Machine → Bool) → List ℕ → Option Row → Made
loaded_after t is_sound s (Some r) =
    choose (holds_presets r.values)
    (loaded_with is_sound s (presets_from r.values) (cells_from t image_cells s r.next 0 (replicate 131 null_cell)))
    not_loaded
loaded_after t is_sound s None = not_loaded

-- the drive that the bytes of an image give, or the refusal, by the codes that the reader knows and the drives that are sound to it
unfoldable pub loaded_by : Codes → (Machine → Bool) → List ℕ → Made
loaded_by t is_sound s = loaded_after t is_sound s (read_row preset_kinds s 0)

abbrev pub loaded_of : List ℕ → Made
loaded_of s = loaded_by codes sound s

-- ---- an older gateway

-- 02: "An older gateway": one that knows the codes and judges cells by the table as it was before
abbrev pub sound_before : Machine → Bool
sound_before m = sound_by (cell_sound_by codes_before.fields) m

abbrev pub loaded_before : List ℕ → Made
loaded_before s = loaded_by codes_before sound_before s
