-- Assumes nothing.
use Prim.Native.Nat.{ℕ, ◌<◌}
use native.Mathlib.Omega.{arith}
use mathlib.Core.Path.{◌≡◌, ◌∙◌, ap, sym}
use mathlib.Core.List.{List, ◌++◌}
use lib.Dec.{eqb}
use lib.ListN.{length, drop, replicate, length-set, length-take}
use Rattle.std.proofs.lemmas.List.{set-append_left, take-append-drop}
use Rattle.laws.specs.Tests.{choose}
use Rattle.varint.specs.Signs.{unfolded}
use Rattle.packed.specs.Layout.{laid_read_from, parsed_as}
use Rattle.packed.proofs.Turns.{turned, plain, read-start, read-refused, read_next, read-end}
use Rattle.packed.proofs.rows.read_row.Goals as goal
use Rattle.packed.proofs.rows.read_row.Goals.{then-i-signed, else-i-signed}

pub loop-i-init : goal.loop-i-init
loop-i-init c =
    let a = c.args in
    let zeros : List ℕ = replicate 6 0 in
    record {
      many = omega (arith, length-take a.count zeros);
      left = rw (take-append-drop a.count zeros) (read-start a.count a.signed a.s.now a.from);
    }

pub returns-in_err-read : goal.returns-in_err-read
unfolding parsed_as
returns-in_err-read c =
    let l = c.loop-i in
    let a = c.args in
    let vs = l.v-items ++ drop a.count (replicate 6 0) in
    rw c.from_residual.ensures
    (sym (l.invariant.left ∙ read-refused a.count a.signed a.s.now vs l.i l.at (omega (arith, l.invariant.many)) (sym c.in_err-read.ensures)))

pub loop-i-preserved : goal.loop-i-preserved
loop-i-preserved c =
    let l = c.loop-i in
    let a = c.args in
    let v = c.in_ok-read.read.value in
    let zeros : List ℕ = drop a.count (replicate 6 0) in
    let t : l.i < length l.v-items = omega (arith, l.invariant.many, length-take {A = ℕ} a.count (replicate 6 0)) in
    let w : c.if-i-signed.v ≡ choose (eqb l.i a.signed) (unfolded v) v =
    elim c.if-i-signed.branch [
      | then-i-signed w ↦ turned l.i a.signed (unfolded v) v w.if-i-signed.true w.unfold_sign.ensures w.v-is
      | else-i-signed w ↦ plain l.i a.signed (unfolded v) v w.if-i-signed.false w.v-is
    ] in
    let f = read_next a.count a.signed a.s.now (l.v-items ++ zeros) l.i l.at v c.in_ok-read.read.next (omega (arith, l.invariant.many))
    (sym c.in_ok-read.ensures) w in
    record {
      many = simp length-set l.invariant.many;
      left = l.invariant.left ∙ f ∙ ap (laid_read_from _ _ _ _ _) (set-append_left l.v-items zeros l.i c.if-i-signed.v t);
    }

pub returns : goal.returns
unfolding parsed_as
returns c =
    let l = c.loop-i in
    let a = c.args in
    let vs = l.v-items ++ drop a.count (replicate 6 0) in
    sym (l.invariant.left ∙ read-end a.count a.signed a.s.now vs l.i l.at (omega (arith, l.invariant.many)))
