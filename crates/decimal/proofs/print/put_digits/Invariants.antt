-- Invariant: the digits left, written from the present place on, give what all digits give; what is left is below the power of its width.
-- Assumes nothing.
use Rattle.std.proofs.Common.{◌≡◌, ◌+◌, ◌≤◌, ◌<◌, ◌^◌, length}
use lib.Seq.{sets}
use Rattle.decimal.specs.Printing.{digits}
use Rattle.decimal.proofs.print.put_digits.Given as goal

abbrev pub invariant-loop-k : goal.invariant-loop-k
invariant-loop-k l = record {
  most : l.k ≤ 10;
  some : 1 ≤ l.k;
  below : l.left < 10 ^ l.k;
  place : l.i + l.k ≡ l.at + l.w;
  long : length l.buf ≡ length l.initial.buf;
  same : sets l.initial.buf l.at (digits l.w l.n) ≡ sets l.buf l.i (digits l.k l.left);
}
