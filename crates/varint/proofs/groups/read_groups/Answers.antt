-- Assumes nothing.
use Prim.Native.Nat.{ℕ, ◌+◌, ◌-◌, ◌<◌}
use native.Mathlib.Nat.{pow-suc}
use native.Mathlib.Numerals.{add-one}
use native.Mathlib.Omega.{arith}
use mathlib.Core.Path.{◌≡◌, ◌∙◌, ap, refl, sym}
use lib.ListN.{get_or, drop, length}
use borrow.Author.Tests.{ltb-false}
use Rattle.std.specs.Prelude.{Option, Some, None, Result, Ok, Err}
use Rattle.std.specs.Result.{OkIff, result_ok}
use Rattle.std.proofs.lemmas.Option.{same_Some}
use Rattle.varint.specs.Groups.{read_from, bounded, number_at}
use Rattle.varint.specs.declared.groups.Reading.{Reading}
use Rattle.varint.proofs.Turns.{after, after-start, read-cut, end_low, end-wide, end-found, turn, value-below, weight-small, least, least_start, least_next, least_low, least_met, least_up}
use Rattle.varint.proofs.groups.read_groups.Goals as goal

pub loop-k-init : goal.loop-k-init
unfolding number_at
loop-k-init c =
    let a = c.args in
    let e : a.from + 0 ≡ a.from = omega arith in
    record {
      within = omega arith;
      weighs = refl;
      below = omega arith;
      left = rw (e, least_start) (ap bounded (sym (after-start (read_from 5 a.from (drop a.from a.s.now)))));
    }

pub returns-in_err-b : goal.returns-in_err-b
unfolding after bounded
returns-in_err-b c =
    let l = c.loop-k in
    let s = c.args.s.now in
    let at = c.args.from + l.k in
    let cut = read-cut (5 - l.k) at s (ltb-false at (length s) (sym c.in_err-b.ensures.lookup.0)) in
    c.from_residual.ensures ∙ sym (l.invariant.left ∙ ap (λ (r : Option Reading). bounded (after l.value l.weight (least l.k) r)) cut)

pub returns-then-k-gt0 : goal.returns-then-k-gt0
returns-then-k-gt0 c =
    let l = c.loop-k in
    let e = c.in_ok-b.ensures.lookup.3 in
    let b = e.1 0 in
    let low = rw b at (least_low l.k _ c.if-b-eq0.true c.if-k-gt0.true) in
    sym (l.invariant.left ∙ end_low (5 - l.k) (c.args.from + l.k) c.args.s.now l.value l.weight (least l.k) (omega arith) e.0
    (rw b at c.if-b-lt128.true) low)

pub overflow_mul-value : goal.overflow_mul-value
overflow_mul-value c =
    let l = c.loop-k in
    let w = weight-small l.weight l.k l.invariant.weighs (omega arith) in
    let v = value-below l.value _ l.weight c.if-b-lt128.true l.invariant.below in
    rw c.from.ensures (omega (arith, w, v))

pub overflow_add-value : goal.overflow_add-value
overflow_add-value c =
    let l = c.loop-k in
    let w = weight-small l.weight l.k l.invariant.weighs (omega arith) in
    let v = value-below l.value _ l.weight c.if-b-lt128.true l.invariant.below in
    rw c.from.ensures (omega (arith, w, v))

-- what `try_from` says, where `ok` gives none, and where it gives a value
out_of : {E : Type 0} (r : Result ℕ E) (P : Type 0) (v : ℕ) → OkIff r P v → None ≡ result_ok r → P → ⊥
out_of (Ok x) P v h e = absurd (cc)
out_of (Err x) P v h e = h

in_of : {E : Type 0} (r : Result ℕ E) (P : Type 0) (v w : ℕ) → OkIff r P v → Some w ≡ result_ok r → P × (w ≡ v)
in_of (Ok x) P v w h e = (h.0, same_Some w x e ∙ h.1)
in_of (Err x) P v w h e = absurd (cc)

pub returns-in_err-ok : goal.returns-in_err-ok
returns-in_err-ok c =
    let l = c.loop-k in
    let e = c.in_ok-b.ensures.lookup.3 in
    let b = e.1 0 in
    let wide = rw c.from.ensures at (out_of _ _ _ c.try_from.ensures c.in_err-ok.ensures.value) in
    let met = least_met l.k _ c.else-b-eq0.either in
    c.from_residual-in_err-ok.ensures
    ∙ sym (l.invariant.left ∙ end-wide (5 - l.k) (c.args.from + l.k) c.args.s.now l.value l.weight (least l.k) (omega arith) e.0
    (rw b at c.if-b-lt128.true) (rw b at met) (rw (← b) (omega (arith, wide))))

pub returns-then-b-lt128 : goal.returns-then-b-lt128
returns-then-b-lt128 c =
    let l = c.loop-k in
    let e = c.in_ok-b.ensures.lookup.3 in
    let b = e.1 0 in
    let v = in_of _ _ _ _ c.try_from.ensures c.in_ok-ok.ensures.value in
    let met = least_met l.k _ c.else-b-eq0.either in
    let fits = rw (c.from.ensures, b) at v.0 in
    sym (rw (v.1, c.from.ensures, b) (l.invariant.left ∙ end-found (5 - l.k) (c.args.from + l.k) c.args.s.now l.value l.weight (least l.k)
    (omega arith) e.0 (rw b at c.if-b-lt128.true) (rw b at met) (omega (arith, fits))))

pub overflow_mul-value-in-loop-k : goal.overflow_mul-value-in-loop-k
overflow_mul-value-in-loop-k c =
    let l = c.loop-k in
    let w = weight-small l.weight l.k l.invariant.weighs (omega arith) in
    let h : c.in_ok-b.field-0.now - 128 < 128 = omega (arith, c.type_inv.s (c.args.from + l.k), c.in_ok-b.ensures.lookup.3.1 0) in
    let v = value-below l.value _ l.weight h l.invariant.below in
    rw c.from-in-loop-k.ensures (omega (arith, w, v))

pub overflow_add-value-in-loop-k : goal.overflow_add-value-in-loop-k
overflow_add-value-in-loop-k c =
    let l = c.loop-k in
    let w = weight-small l.weight l.k l.invariant.weighs (omega arith) in
    let h : c.in_ok-b.field-0.now - 128 < 128 = omega (arith, c.type_inv.s (c.args.from + l.k), c.in_ok-b.ensures.lookup.3.1 0) in
    let v = value-below l.value _ l.weight h l.invariant.below in
    rw c.from-in-loop-k.ensures (omega (arith, w, v))

pub overflow_mul-weight : goal.overflow_mul-weight
overflow_mul-weight c =
    let l = c.loop-k in
    omega (arith, weight-small l.weight l.k l.invariant.weighs (omega arith))

pub loop-k-preserved : goal.loop-k-preserved
loop-k-preserved c =
    let l = c.loop-k in
    let s = c.args.s.now in
    let at = c.args.from + l.k in
    let e = c.in_ok-b.ensures.lookup.3 in
    let b = e.1 0 in
    let u : get_or s at 0 < 256 = omega (arith, c.type_inv.s at) in
    let h : get_or s at 0 - 128 < 128 = omega arith in
    let v = value-below l.value _ l.weight h l.invariant.below in
    let f : 5 - l.k - 1 ≡ 5 - (l.k + 1) = omega arith in
    let n : at + 1 ≡ c.args.from + (l.k + 1) = omega arith in
    let t = turn (5 - l.k) at s l.value l.weight (least l.k) (omega arith) e.0 (rw b at c.if-b-lt128.false) u (least_up l.k) in
    rw (c.from-in-loop-k.ensures, b)
    (record {
      within = omega (arith, e.0);
      weighs = rw (add-one, pow-suc, ← l.invariant.weighs);
      below = v;
      left = rw (← n, ← f, least_next) (l.invariant.left ∙ ap bounded t);
    })

pub returns : goal.returns
unfolding after bounded read_from
returns c =
    let l = c.loop-k in
    let e : 5 - l.k ≡ 0 = omega arith in
    let s = c.args.s.now in
    let n = ap (λ (f : ℕ). bounded (after l.value l.weight (least l.k) (read_from f (c.args.from + l.k) (drop (c.args.from + l.k) s)))) e in
    sym (l.invariant.left ∙ n)
