-- The worked images hold, by computation.
-- Assumes nothing.
use mathlib.Core.Path.{◌≡◌, refl}
use mathlib.Core.List.{[]}
use Rattle.fields.specs.Kinds as fields-Kinds
use Rattle.varint.specs.Groups as varint-Groups
use Rattle.varint.specs.Signs as varint-Signs
use Rattle.packed.specs.Rows as packed-Rows
use Rattle.packed.specs.Cells as packed-Cells
use Rattle.machine.specs.Operations as machine-Operations
use Rattle.machine.specs.Images as machine-Images
use Rattle.machine.specs.Cases.{send, replies}
use Rattle.machine.specs.ImageCases.{padded, refusal_of, length_of, is_refused, answers_so, leaves, image_holds, named, unheld}
use Rattle.machine.specs.ImageCases.{of_writing, of_buffers, of_reading, of_longer_waits, ImageCases}
use Rattle.machine.proofs.Computing.{computing}

-- what the cases unfold
imaging : Unit {0}
unfolding computing varint-Groups.groups_from varint-Groups.groups varint-Groups.behind varint-Groups.read_from varint-Groups.bounded
    varint-Groups.number_at varint-Signs.folded varint-Signs.unfolded fields-Kinds.is_signed packed-Rows.number_for packed-Rows.value_for
    packed-Rows.row_bytes packed-Rows.row_from packed-Rows.read_row packed-Cells.cell_bytes packed-Cells.cell_by packed-Cells.cell_after
    packed-Cells.cell_in packed-Cells.cells_bytes packed-Cells.cells_from machine-Operations.filled machine-Images.preset_numbers machine-Images.presets_from
    machine-Images.image_of machine-Images.written_into machine-Images.buffer_by machine-Images.buffer_written machine-Images.fresh_with
    machine-Images.holds_presets machine-Images.loaded_with machine-Images.loaded_after machine-Images.loaded_by
    send replies padded refusal_of length_of is_refused answers_so leaves image_holds named unheld
imaging = tt

writing-holds : unheld of_writing ≡ []
unfolding imaging of_writing
writing-holds = refl

buffers-hold : unheld of_buffers ≡ []
unfolding imaging of_buffers
buffers-hold = refl

reading-holds : unheld of_reading ≡ []
unfolding imaging of_reading
reading-holds = refl

longer-waits-hold : unheld of_longer_waits ≡ []
unfolding imaging of_longer_waits
longer-waits-hold = refl

pub images-hold : ImageCases
images-hold =
    record { writing = writing-holds; buffers = buffers-hold; reading = reading-holds; longer_waits = longer-waits-hold }
