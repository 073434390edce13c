-- One case for each sign.
-- Assumes nothing.
use native.Mathlib.Omega.{arith}
use mathlib.Core.Path.{◌∙◌, sym}
use Rattle.varint.proofs.Folding.{folded-plus, folded-minus}
use Rattle.varint.proofs.signs.fold_sign.Goals as goal

pub returns-then-bits-lt2147483648 : goal.returns-then-bits-lt2147483648
returns-then-bits-lt2147483648 c = sym (folded-plus c.args.bits c.if-bits-lt2147483648.true ∙ omega arith)

pub returns-else-bits-lt2147483648 : goal.returns-else-bits-lt2147483648
returns-else-bits-lt2147483648 c = sym (folded-minus c.args.bits c.if-bits-lt2147483648.false ∙ omega arith)
