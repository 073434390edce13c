-- `machine::theorems::memory_images` meets its contract: what images keep.
-- Assumes nothing.
use Rattle.machine.proofs.MemoryImages.{memory_images}
use Rattle.machine.proofs.theorems.memory_images.Goals as goal

pub returns : goal.returns
returns c = memory_images
