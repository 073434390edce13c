-- Each turn writes a comma and the field of its kind.
-- Assumes nothing.
use Rattle.std.proofs.Common.{◌≡◌, ◌∙◌, ℕ, ◌+◌, ◌≤◌, ◌<◌, List, true, length, get_or, drop, ap, sym, refl, length-append, arith}
use lib.ListN.{length-set}
use Rattle.laws.proofs.Writing.{put-none, put_byte, put-append, put_as}
use Rattle.fields.specs.Rows.{print_fields, all_valid}
use Rattle.fields.specs.declared.kinds.Kind.{Kind}
use Rattle.fields.proofs.Turns.{good-at, valid-at, print-next, print-end}
use Rattle.fields.proofs.rows.put_fields.Goals as goal

-- while a kind is left, there is room for its comma
room-here :
    (ks : List Kind) (vs : List ℕ) (i at n : ℕ) → i < length ks → all_valid ks vs ≡ true →
    at + length (print_fields (drop i ks) (drop i vs)) ≤ n → at < n
room-here ks vs i at n h t r = omega (arith, ap length (print-next ks vs i h (valid-at ks vs i t h).0))

pub loop-i-init : goal.loop-i-init
loop-i-init c = record { long = refl; room = c.requires.room; whole = λ b e p. p }

pub bounds-buf-at : goal.bounds-buf-at
bounds-buf-at c =
    let a = c.args in
    let l = c.loop-i in
    room-here a.kinds.now a.values l.i l.at _ (omega arith) c.requires.values_valid (omega (arith, l.invariant.long, l.invariant.room))

pub put_field-at-requires : goal.put_field-at-requires
put_field-at-requires c =
    let ks = c.args.kinds.now in
    let vs = c.args.values in
    let i = c.loop-i.i in
    let v = valid-at ks vs i c.requires.values_valid (omega arith) in
    let e = simp length-append at (ap length (print-next ks vs i (omega arith) v.0)) in
    record {
      kind_good = good-at ks i c.requires.kinds_good (omega arith);
      value_valid = v.1;
      room = simp length-set (omega (arith, e));
    }

pub loop-i-preserved : goal.loop-i-preserved
loop-i-preserved c =
    let ks = c.args.kinds.now in
    let vs = c.args.values in
    let l = c.loop-i in
    let f = c.put_field-at in
    let v = valid-at ks vs l.i c.requires.values_valid (omega arith) in
    let e = print-next ks vs l.i (omega arith) v.0 in
    record {
      long = f.auto.buf ∙ simp length-set l.invariant.long;
      room = omega (arith, f.ensures.next, simp length-append at (ap length e));
      whole = λ b n p. l.invariant.whole b n (put_as (sym e) (put-append (put_byte l.buf 44 l.at) (put-append f.ensures p)));
    }

pub returns : goal.returns
returns c =
    let l = c.loop-i in
    let e = print-end c.args.kinds.now c.args.values l.i (omega arith) in
    l.invariant.whole _ _ (put_as (sym e) (put-none l.buf l.at))
