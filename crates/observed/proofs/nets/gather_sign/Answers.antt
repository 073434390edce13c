-- `nets::gather_sign` meets its contract: the number is read back from its bits.
-- Assumes nothing.
use Rattle.std.proofs.Common.{to_z-of_z, w64, SFits, rules}
use Rattle.observed.proofs.Texts.{gathered-as}
use Rattle.observed.proofs.WideNumbers.{sign-minus, sign-plus}
use Rattle.observed.proofs.nets.gather_sign.Goals as goal

pub returns-then-net-lt0 : goal.returns-then-net-lt0
returns-then-net-lt0 c =
    let z = c.args.net.0 in
    let s : SFits w64 z = search rules in
    let t = rw (to_z-of_z s) at c.if-net-lt0.true in
    gathered-as (sign-minus z t) c.gather.ensures

pub returns : goal.returns
returns c =
    let z = c.args.net.0 in
    let s : SFits w64 z = search rules in
    let t = rw (to_z-of_z s) at c.if-net-lt0.false in
    gathered-as (sign-plus z t) c.gather-2.ensures
