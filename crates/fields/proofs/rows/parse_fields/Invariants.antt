-- Invariant: the fields left, parsed from the reader's place, give the whole result; the reader stands in the string.
-- Assumes nothing.
use Rattle.std.proofs.Common.{◌≡◌, length, drop}
use Rattle.fields.specs.Rows.{fields_from, parse_fields}
use Rattle.fields.proofs.rows.parse_fields.Given as goal

abbrev pub invariant-loop-i : goal.invariant-loop-i
invariant-loop-i l = record {
  string : l.reader.src.now ≡ l.s;
  six : length l.values ≡ 6;
  same : parse_fields l.kinds l.s l.from ≡ fields_from (drop l.i l.kinds) l.s l.reader.at l.i l.values;
}
