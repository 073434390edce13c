-- `put_image` meets its contract: the presets' row, then the cells.
-- Assumes nothing.
use Rattle.image.proofs.WritingSteps.{presets-writable, cells-writable, image-put}
use Rattle.image.proofs.writing.put_image.Goals as goal

pub put_row-at-requires : goal.put_row-at-requires
put_row-at-requires c = presets-writable _ _ _ c.preset_numbers-numbers.ensures c.requires

pub put_cells-requires : goal.put_cells-requires
put_cells-requires c =
    cells-writable _ _ _ c.preset_numbers-numbers.ensures c.requires _ _ c.put_row-at.ensures

pub returns : goal.returns
returns c =
    image-put _ _ _ c.preset_numbers-numbers.ensures c.requires _ _ _ _ c.put_row-at.ensures c.put_cells.ensures
