-- Invariant: the value so far, continued over the bytes left, is the value of the field; it is below the power of the place.
-- Assumes nothing.
use Rattle.std.proofs.Common.{◌≡◌, ◌<◌, ◌^◌, drop}
use Rattle.decimal.specs.Parsing.{value_from}
use Rattle.decimal.proofs.parse.read_value.Given as goal

abbrev pub invariant-loop-b : goal.invariant-loop-b
invariant-loop-b l = record {
  below : l.value < 10 ^ l.b-index;
  same : value_from 0 l.s ≡ value_from l.value (drop l.b-index l.s);
}
