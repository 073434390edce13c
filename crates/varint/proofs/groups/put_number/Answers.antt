-- Assumes nothing.
use Prim.Native.Nat.{ℕ, ◌+◌, ◌/◌, ◌%◌}
use native.Mathlib.Numerals.{add-one}
use native.Mathlib.Omega.{arith}
use mathlib.Core.Path.{◌∙◌, ap, sym}
use lib.ListN.{length, set, length-set}
use lib.Seq.{sets}
use Rattle.varint.specs.Groups.{groups}
use Rattle.varint.proofs.Turns.{group-last, group-next}
use Rattle.varint.proofs.groups.put_number.Goals as goal

pub bounds-buf-i : goal.bounds-buf-i
bounds-buf-i c =
    let l = c.loop-left in
    omega (arith, l.invariant.next, ap length (group-next l.left (omega arith) (omega arith)))

pub loop-left-preserved : goal.loop-left-preserved
loop-left-preserved c =
    let l = c.loop-left in
    let g = group-next l.left (omega arith) (omega arith) in
    let m = set l.buf l.i (128 + l.left % 128) in
    let same = ap (sets l.buf l.i) g ∙ ap (λ (j : ℕ). sets m j (groups (l.left / 128))) (sym (add-one l.i)) in
    record {
      size = simp length-set l.invariant.size;
      next = omega (arith, l.invariant.next, ap length g);
      now = l.invariant.now ∙ same;
    }

pub bounds-buf-i-2 : goal.bounds-buf-i-2
bounds-buf-i-2 c =
    let l = c.loop-left in
    omega (arith, l.invariant.next, ap length (group-last l.left (omega arith)))

pub returns : goal.returns
returns c =
    let l = c.loop-left in
    let g = group-last l.left (omega arith) in
    record {
      next = omega (arith, l.invariant.next, ap length g);
      now = sym (l.invariant.now ∙ ap (sets l.buf l.i) g);
    }
