-- `nets::gather_nine` meets its contract: the nine digits fill the nine bytes.
-- Assumes nothing.
use Rattle.std.proofs.Common.{sym, ◌∙◌, append-nil, arith}
use Rattle.laws.proofs.Writing.{put_front}
use Rattle.decimal.specs.Printing.{digits}
use Rattle.decimal.proofs.Printing.{length_digits}
use Rattle.observed.proofs.Texts.{gathered-as}
use Rattle.observed.proofs.nets.gather_nine.Goals as goal

pub returns : goal.returns
returns c =
    let v = c.args.value in
    let put = c.put_digits.ensures in
    let size = length_digits 9 v in
    gathered-as (sym ((put_front put (omega (arith, size))).1 ∙ rw size (append-nil (digits 9 v)))) c.gather.ensures
