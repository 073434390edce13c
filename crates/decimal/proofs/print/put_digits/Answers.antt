-- Each turn writes the highest digit that is left; the last digit is what is left.
-- Assumes nothing.
use Rattle.std.proofs.Common.{◌≡◌, ◌∙◌, ℕ, ◌-◌, ◌<◌, ◌^◌, get_or, ap, sym, arith}
use native.Mathlib.Nat.{mod-lt}
use lib.ListN.{length-set}
use lib.Seq.{sets}
use Rattle.laws.proofs.Writing.{put-none}
use Rattle.decimal.specs.Printing.{digits}
use Rattle.decimal.proofs.Printing.{length_digits}
use Rattle.decimal.proofs.Powers.{powers, power_at}
use Rattle.decimal.proofs.Turns.{left_below, sets-digits, sets_last}
use Rattle.decimal.proofs.print.put_digits.Goals as goal

pub returns-then-w-eq0 : goal.returns-then-w-eq0
unfolding digits
returns-then-w-eq0 c = rw c.if-w-eq0.true (put-none c.args.buf.now c.args.at)

pub loop-k-preserved : goal.loop-k-preserved
loop-k-preserved c =
    let l = c.loop-k in
    let i = l.invariant in
    let p = get_or powers (l.k - 1) 0 in
    let ep : p ≡ 10 ^ (l.k - 1) = power_at (l.k - 1) (omega arith) in
    let d = c.digit_of-d.result in
    let e = c.digit_of-d.ensures in
    let pos = (left_below l.k l.left p (omega arith) (omega arith) i.below ep).0 in
    let below : d.left < 10 ^ (l.k - 1) = rw (e.left, ← ep) (mod-lt l.left pos) in
    let same = sets-digits l.buf l.i l.k l.left p d.byte d.left (omega arith) ep e.byte e.left in
    record {
      most = omega arith;
      some = omega arith;
      below = below;
      place = omega arith;
      long = simp length-set i.long;
      same = i.same ∙ same;
    }

pub returns : goal.returns
returns c =
    let l = c.loop-k in
    let a = c.args in
    let e : l.k ≡ 1 = omega arith in
    let last = ap (λ (k : ℕ). sets l.buf l.i (digits k l.left)) e ∙ sets_last l.buf l.i l.left in
    record { next = omega (arith, length_digits a.w a.n); now = sym (l.invariant.same ∙ last) }
