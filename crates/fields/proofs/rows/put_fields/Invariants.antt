-- Invariant: the fields left have room, and written from the place reached they complete the whole.
-- Assumes nothing.
use Rattle.std.proofs.Common.{◌≡◌, ℕ, ◌+◌, ◌≤◌, List, length, drop}
use Rattle.laws.specs.Writing.{Put}
use Rattle.fields.specs.Rows.{print_fields}
use Rattle.fields.proofs.rows.put_fields.Given as goal

abbrev pub invariant-loop-i : goal.invariant-loop-i
invariant-loop-i l = record {
  long : length l.buf ≡ length l.initial.buf;
  room : l.at + length (print_fields (drop l.i l.kinds) (drop l.i l.values)) ≤ length l.initial.buf;
  whole : (b : List ℕ) (e : ℕ) → Put l.buf b (print_fields (drop l.i l.kinds) (drop l.i l.values)) l.at e →
      Put l.initial.buf b (print_fields l.kinds l.values) l.from e;
}
