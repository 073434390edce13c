-- `machine::theorems::image_cases` meets its contract: the worked images.
-- Assumes nothing.
use Rattle.machine.proofs.ImageCases.{images-hold}
use Rattle.machine.proofs.theorems.image_cases.Goals as goal

pub returns : goal.returns
returns c = images-hold
