-- `lines::strings::take_string` meets its contract: up to the first 13, or to the block's end.
-- Assumes nothing.
use mathlib.Core.Path.{sym}
use lib.Seq.{length-take-le}
use native.Mathlib.Omega.{arith}
use Rattle.lines.proofs.Cutting.{cut-kept, takes-ended, takes_all}
use Rattle.lines.proofs.strings.take_string.Goals as goal

pub slice_bounds-gather-end-2 : goal.slice_bounds-gather-end-2
slice_bounds-gather-end-2 c = sym (length-take-le 64 c.args.string.now (omega arith))

pub bounds-string-length : goal.bounds-string-length
bounds-string-length c = let a = c.args in (cut-kept a.string.now a.n _ _ _ c.requires.1 c.gather-length.ensures).room

pub returns-then-end-block : goal.returns-then-end-block
returns-then-end-block c = let a = c.args in takes-ended a.block.now a.from a.string.now a.n _ _ _ c.requires.1 c.find-end.ensures.place (cut-kept a.string.now a.n _ _ _ c.requires.1 c.gather-length.ensures) c.if-end-block.true

pub returns : goal.returns
returns c = let a = c.args in takes_all a.block.now a.from a.string.now a.n _ _ _ c.requires.0 c.find-end.ensures.place (cut-kept a.string.now a.n _ _ _ c.requires.1 c.gather-length.ensures) c.if-end-block.false
