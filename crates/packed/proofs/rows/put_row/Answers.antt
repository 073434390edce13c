-- Assumes nothing.
use Prim.Native.Nat.{◌<◌}
use native.Mathlib.Omega.{arith}
use mathlib.Core.Path.{◌≡◌, ◌∙◌, ap, refl, sym}
use lib.Dec.{eqb}
use lib.ListN.{length, get_or, length-append, length-take}
use Rattle.std.proofs.lemmas.List.{get_or-take}
use Rattle.laws.specs.Tests.{choose}
use Rattle.laws.proofs.Writing.{put-none, put-append, put_as}
use Rattle.varint.specs.Signs.{folded}
use Rattle.packed.proofs.Turns.{turned, plain, laid-start, laid_next, laid_end}
use Rattle.packed.proofs.rows.put_row.Goals as goal
use Rattle.packed.proofs.rows.put_row.Goals.{then-i-signed, else-i-signed}

pub loop-i-init : goal.loop-i-init
loop-i-init c =
    let a = c.args in
    let e = laid-start a.count a.signed a.values.now in
    record { size = refl; room = omega (arith, ap length e, c.requires.room); whole = λ l m w. put_as e w }

pub put_number-at-requires : goal.put_number-at-requires
put_number-at-requires c =
    let l = c.loop-i in
    let a = c.args in
    let v = get_or a.values.now l.i 0 in
    let t : l.i < a.count = omega (arith, length-take a.count a.values.now) in
    let g = get_or-take a.count a.values.now l.i 0 t in
    let n : c.if-i-signed.n ≡ choose (eqb l.i a.signed) (folded v) v =
    elim c.if-i-signed.branch [
      | then-i-signed w ↦ turned l.i a.signed (folded v) v w.if-i-signed.true (w.fold_sign-n.ensures ∙ ap folded g) w.n-is
      | else-i-signed w ↦ plain l.i a.signed (folded v) v w.if-i-signed.false (w.n-is ∙ g)
    ] in
    let e = laid_next a.count a.signed l.i a.values.now t n in
    omega (arith, simp length-append at (ap length e), l.invariant.size, l.invariant.room)

pub loop-i-preserved : goal.loop-i-preserved
loop-i-preserved c =
    let l = c.loop-i in
    let a = c.args in
    let v = get_or a.values.now l.i 0 in
    let t : l.i < a.count = omega (arith, length-take a.count a.values.now) in
    let g = get_or-take a.count a.values.now l.i 0 t in
    let n : c.if-i-signed.n ≡ choose (eqb l.i a.signed) (folded v) v =
    elim c.if-i-signed.branch [
      | then-i-signed w ↦ turned l.i a.signed (folded v) v w.if-i-signed.true (w.fold_sign-n.ensures ∙ ap folded g) w.n-is
      | else-i-signed w ↦ plain l.i a.signed (folded v) v w.if-i-signed.false (w.n-is ∙ g)
    ] in
    let e = laid_next a.count a.signed l.i a.values.now t n in
    let w = c.put_number-at.ensures in
    record {
      size = c.put_number-at.auto.buf ∙ l.invariant.size;
      room = omega (arith, w.next, l.invariant.room, simp length-append at (ap length e));
      whole = λ b m p. l.invariant.whole b m (put_as (sym e) (put-append w p));
    }

pub returns : goal.returns
returns c =
    let l = c.loop-i in
    let a = c.args in
    let e = laid_end a.count a.signed l.i a.values.now (omega (arith, length-take a.count a.values.now, c.requires.few)) in
    l.invariant.whole _ _ (put_as (sym e) (put-none l.buf l.at))
