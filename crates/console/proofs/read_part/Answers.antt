-- `console::read_part` meets its contract: what came is a part of the input, and none of it where the exchange closes.
-- Assumes nothing.
use native.Mathlib.Omega.{arith}
use mathlib.Core.Path.{refl, ap}
use lib.ListN.{length, length-take}
use Rattle.console.proofs.Parts.{serves-exchanges, serves-nothing, read-front}
use Rattle.console.proofs.read_part.Goals as goal

pub returns-then-count-eq0 : goal.returns-then-count-eq0
returns-then-count-eq0 g c =
    serves-exchanges (serves-nothing c.args.server.now) refl

pub answer_part-requires : goal.answer_part-requires
answer_part-requires g c =
    let size = length-take c.unwrap_or-count.result c.read.new.buf in
    omega (arith, ap length c.front.ensures, size, c.requires.within)

pub returns : goal.returns
returns g c =
    let a = c.answer_part in
    let part = c.read.new.buf in
    let came = read-front part c.front.result.now c.unwrap_or-count.result a.result.read c.front.ensures a.ensures.read in
    rw came (serves-exchanges a.ensures.serves a.ensures.read)
