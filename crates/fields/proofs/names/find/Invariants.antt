-- Invariant: the place in the names left, counted on from the turns made, is the place in the whole list.
-- Assumes nothing.
use Rattle.std.proofs.Common.{◌≡◌, drop}
use Rattle.fields.specs.Names.{place_from}
use Rattle.fields.proofs.names.find.Given as goal

abbrev pub invariant-loop-place : goal.invariant-loop-place
invariant-loop-place l = place_from l.name-items 0 l.x ≡ place_from (drop l.place l.name-items) l.place l.x
