-- `output_bits` meets its contract: each turn puts one output below the bits so far, which stay below 2^14.
-- Assumes nothing.
use Rattle.std.proofs.Common.{◌≡◌, ℕ, suc, ◌-◌, ◌^◌, ◌<◌, Bool, false, List, length, get_or, drop, ap, sym, ◌∙◌, arith, rules, length-drop}
use lib.Seq.{drop-length}
use Rattle.laws.specs.Tests.{choose}
use Rattle.seen.specs.Bytes.{bits_of}
use Rattle.seen.proofs.Bits.{on-taken, on-left, bit-most, bits-next, bits_below}
use Rattle.seen.proofs.orders.output_bits.Goals as goal
use Rattle.seen.proofs.orders.output_bits.Goals.{then-outputs-i, else-outputs-i}

-- the bits so far are below 2^14
below : (outputs : List Bool) (i : ℕ) {bits : ℕ} → length outputs ≡ 14 → bits ≡ bits_of (drop i outputs) → bits < 2 ^ 14
below outputs i l e = rw e (bits_below 14 (drop i outputs) (omega (arith, length-drop i outputs, l)))

pub loop-i-init : goal.loop-i-init
unfolding bits_of
loop-i-init c =
    let all : length c.args.outputs ≡ 14 = search rules in
    (omega arith, sym (ap (λ (k : ℕ). bits_of (drop k c.args.outputs)) (sym all) ∙ ap bits_of (drop-length c.args.outputs)))

pub overflow_mul-bits : goal.overflow_mul-bits
overflow_mul-bits c =
    let all : length c.args.outputs ≡ 14 = search rules in
    omega (arith, below c.args.outputs c.loop-i.i all c.loop-i.invariant.1)

pub overflow_add-bits : goal.overflow_add-bits
overflow_add-bits c =
    let all : length c.args.outputs ≡ 14 = search rules in
    let on = get_or c.args.outputs (c.loop-i.i - 1) false in
    let bit : c.if-outputs-i.bits ≡ choose on 1 0 =
    elim c.if-outputs-i.branch
    [ then-outputs-i w ↦ on-taken 0 w.if-outputs-i.true w.bits-is | else-outputs-i w ↦ on-left 1 w.if-outputs-i.false w.bits-is ] in
    omega (arith, bit, bit-most on 1, below c.args.outputs c.loop-i.i all c.loop-i.invariant.1)

pub loop-i-preserved : goal.loop-i-preserved
loop-i-preserved c =
    let l = c.loop-i in
    let all : length c.args.outputs ≡ 14 = search rules in
    let on = get_or c.args.outputs (l.i - 1) false in
    let bit : c.if-outputs-i.bits ≡ choose on 1 0 =
    elim c.if-outputs-i.branch
    [ then-outputs-i w ↦ on-taken 0 w.if-outputs-i.true w.bits-is | else-outputs-i w ↦ on-left 1 w.if-outputs-i.false w.bits-is ] in
    let same : suc (l.i - 1) ≡ l.i = omega arith in
    let next = bits-next c.args.outputs (l.i - 1) (omega arith) in
    (omega arith, omega (arith, bit, l.invariant.1, next, ap (λ (k : ℕ). bits_of (drop k c.args.outputs)) same))
