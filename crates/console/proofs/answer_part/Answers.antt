-- `console::answer_part` meets its contract: the drive, the string and the answers are what `serve` leaves, and all of them are handed over.
-- Assumes nothing.
use mathlib.Core.Path.{refl}
use Rattle.console.proofs.Parts.{serves-handed}
use Rattle.console.proofs.answer_part.Goals as goal

pub returns : goal.returns
returns g c =
    let serve = c.serve-written in
    record { serves = serves-handed c.hand_over-handed.result.count serve.ensures c.hand_over-handed.ensures; read = refl }
