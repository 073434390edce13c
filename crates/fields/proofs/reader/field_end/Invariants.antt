-- Invariant: the place, and what is left before the next comma, come to the end of the field.
-- Assumes nothing.
use Rattle.std.proofs.Common.{◌≡◌, ◌+◌, drop}
use Rattle.fields.specs.Reader.{field_length}
use Rattle.fields.proofs.reader.field_end.Given as goal

abbrev pub invariant-loop-i : goal.invariant-loop-i
invariant-loop-i l = l.fn.from + field_length (drop l.fn.from l.s) ≡ l.i + field_length (drop l.i l.s)
