-- `put_front` meets its contract: two digits, then two stores.
-- Assumes nothing.
use native.Mathlib.Omega.{arith}
use lib.ListN.{length-set}
use Rattle.laws.proofs.Writing.{put-append}
use Rattle.replies.specs.Pieces.{front_of}
use Rattle.replies.proofs.Writing.{put_two, digits-place}
use Rattle.replies.proofs.pieces.put_front.Goals as goal

pub bounds-buf-at : goal.bounds-buf-at
unfolding front_of
bounds-buf-at c = omega (arith, digits-place _ c.put_digits-at.ensures)

pub overflow_add-buf : goal.overflow_add-buf
unfolding front_of
overflow_add-buf c = omega (arith, digits-place _ c.put_digits-at.ensures)

pub bounds-buf-at-2 : goal.bounds-buf-at-2
unfolding front_of
bounds-buf-at-2 c = simp length-set (omega (arith, digits-place _ c.put_digits-at.ensures))

pub overflow_add-result : goal.overflow_add-result
unfolding front_of
overflow_add-result c = omega (arith, digits-place _ c.put_digits-at.ensures)

pub returns : goal.returns
unfolding front_of
returns c = put-append c.put_digits-at.ensures (put_two _ _ _ _)
