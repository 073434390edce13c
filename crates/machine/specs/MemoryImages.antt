-- 02, Slip 1, as one statement: what images keep, and which bytes are images.
-- Assumes nothing.
use Rattle.std.specs.Prelude.{ℕ, ◌≤◌, ◌≡◌, ◌↔◌, List, ◌++◌, length, take, replicate, Ok}
use Rattle.machine.specs.Record.{null_cell}
use Rattle.machine.specs.Operations.Made.{Drive}
use Rattle.machine.specs.Images.{image_cells, image_of, written_into, buffer_written, fresh_with, not_loaded, loaded_of}
use Rattle.machine.specs.Invariant.{Kept}
use Rattle.machine.specs.declared.Machine.{Machine}

-- "the presets and the cells 100 to 227", in a drive that is else fresh: "Cells 228 to 230 aren't kept and are Null after reading"
abbrev pub restored : Machine → Machine
restored m = fresh_with m.state.presets (take image_cells m.cells ++ replicate 3 null_cell)

-- "that these are equal"
pub record SameMemory (m n : Machine) : Type 0 where
  pub presets : m.state.presets ≡ n.state.presets
  pub cells : take image_cells m.cells ≡ take image_cells n.cells

-- the writer makes the bytes s for a drive: it tells a length, and so many bytes stand at the front of the buffer lent
pub record Makes (m : Machine) (s : List ℕ) : Type 0 where
  pub buffer : List ℕ
  pub count : ℕ
  pub written : written_into buffer m ≡ Ok count
  pub bytes : take count (buffer_written buffer m) ≡ s

pub record MemoryImages : Type 0 where
  -- "Writing then reading gives back the presets and the cells 100 to 227"
  pub back : (m : Machine) → Kept m → (s : List ℕ) → Makes m s → loaded_of s ≡ Drive (restored m)
  -- "equal bytes mean that these are equal", and the other way round
  pub same :
      (m n : Machine) → Kept m → Kept n → (s t : List ℕ) → Makes m s → Makes n t → (s ≡ t) ↔ SameMemory m n
  -- "10, the only refusal of reading, bytes that the writer makes for no drive"
  pub refused : (s : List ℕ) → (loaded_of s ≡ not_loaded) ↔ ((m : Machine) → Kept m → ¬ Makes m s)
  -- and what is read is a sound drive for which the writer makes these bytes again
  pub again : (s : List ℕ) (m : Machine) → loaded_of s ≡ Drive m → Kept m × Makes m s
  -- a sound drive has an image, and a buffer of its length is enough
  pub every : (m : Machine) → Kept m → (buffer : List ℕ) → length (image_of m) ≤ length buffer → written_into buffer m ≡ Ok (length (image_of m))
