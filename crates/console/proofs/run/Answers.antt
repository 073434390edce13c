-- `console::run` is safe and ends.
-- Invariant: the buffers have their places, and some input has brought the program where it is.
-- Assumes nothing.
use native.Mathlib.Omega.{arith}
use mathlib.Core.Path.{◌≡◌, refl}
use lib.ListN.{length}
use Rattle.console.proofs.Parts.{reachable-first, reachable-next}
use Rattle.console.proofs.run.Goals as goal

pub loop-init : goal.loop-init
loop-init g c = (refl, reachable-first _ c.requires refl)

pub read_part-exchange-requires : goal.read_part-exchange-requires
read_part-exchange-requires g c = record { within = omega (arith, c.loop.invariant.0); reachable = c.loop.invariant.1 }

pub loop-preserved : goal.loop-preserved
loop-preserved g c =
    let r = c.read_part-exchange in
    let i = c.loop.invariant in
    let part : length r.new.part ≡ 1024 = omega (arith, i.0) in
    (part, reachable-next i.1 r.ensures)
