-- The format tells the fields of a code, or that there is no such code.
-- Assumes nothing.
use Rattle.std.proofs.Common.{◌∙◌, length, ap, sym}
use Rattle.laws.proofs.Tests.{choose-true, choose-false}
use Rattle.format.specs.Formats.{field_count}
use Rattle.format.proofs.Entries.{unknown-format, known-format}
use Rattle.format.proofs.field_count.Goals as goal

pub returns-in-Some : goal.returns-in-Some
unfolding field_count
returns-in-Some c =
    let k = known-format c.args.code c.in-Some.ensures in
    ap length k.1 ∙ sym (choose-true _ _ _ k.0)

pub returns-in-None : goal.returns-in-None
unfolding field_count
returns-in-None c = sym (choose-false _ _ _ (unknown-format c.args.code c.in-None.ensures))
