-- Each kind by its own writer. What a writer asks follows from good and valid.
-- Assumes nothing.
use Prim.Native.Nat.{ℕ, ◌+◌, ◌≤◌, ◌<◌}
use native.Mathlib.Omega.{arith}
use mathlib.Core.Path.{◌≡◌, ◌∙◌, ap, sym, subst}
use mathlib.Core.List.{List}
use mathlib.Core.Logic.{⊎_elim}
use lib.ListN.{length}
use Rattle.laws.proofs.Writing.{put_as}
use Rattle.decimal.proofs.Printing.{length_digits}
use Rattle.fields.specs.Kinds.{letters_of, print_field, good, valid}
use Rattle.fields.specs.declared.kinds.Kind.{Kind}
use Rattle.fields.proofs.Bounds.{good-fixed, valid-between, valid-next, valid-name}
use Rattle.fields.proofs.Turns.{print-same, print-plus, print-minus, print-one, print-four}
use Rattle.fields.proofs.kinds.put_field.Goals as goal

-- room for a piece is room for the same piece in another form
fits : {p q : List ℕ} (at n : ℕ) → p ≡ q → at + length p ≤ n → at + length q ≤ n
fits at n e h = subst (λ (l : List ℕ). at + length l ≤ n) e h

pub put_digits-requires : goal.put_digits-requires
unfolding print_field valid
put_digits-requires c =
    let a = c.args in
    let pre = c.requires in
    let g = good-fixed c.in-Fixed.w _ _ (ap good (sym c.in-Fixed.is) ∙ pre.kind_good) in
    let v = valid-between _ _ a.v (ap (λ (x : Kind). valid x a.v) (sym c.in-Fixed.is) ∙ pre.value_valid) in
    let room = fits _ _ (print-same a.v c.in-Fixed.is) pre.room in
    (g.1.0, (omega arith, omega (arith, length_digits c.in-Fixed.w a.v)))

pub put_digits-requires-in-Next : goal.put_digits-requires-in-Next
unfolding print_field
put_digits-requires-in-Next c =
    let a = c.args in
    let pre = c.requires in
    let e = c.in-Next.is in
    let t = valid-next a.v (ap (λ (x : Kind). valid x a.v) (sym e) ∙ pre.value_valid) in
    let small : a.v < 1000 = ⊎_elim (λ z. omega arith) (λ r. omega arith) t in
    let room = fits _ _ (print-same a.v e) pre.room in
    (omega arith, (small, omega (arith, length_digits 3 a.v)))

pub put_decimal-requires : goal.put_decimal-requires
unfolding print_field
put_decimal-requires c =
    let v = c.args.v in
    fits _ _ (print-same v c.in-Count.is) c.requires.room

pub put_signed-requires : goal.put_signed-requires
unfolding print_field
put_signed-requires c =
    let v = c.args.v in
    fits _ _ (print-same v c.in-Signed.is) c.requires.room

pub put_signed-requires-in-Optional : goal.put_signed-requires-in-Optional
unfolding print_field
put_signed-requires-in-Optional c =
    let v = c.args.v in
    fits _ _ (print-same v c.in-Optional.is) c.requires.room

pub put_bytes-requires : goal.put_bytes-requires
put_bytes-requires c =
    let v = c.args.v in
    let e = c.in-Sign.is in
    fits _ _ (print-same v e ∙ print-plus v c.if-v-eq0.true) c.requires.room

pub put_bytes-requires-in-Sign-2 : goal.put_bytes-requires-in-Sign-2
put_bytes-requires-in-Sign-2 c =
    let v = c.args.v in
    let e = c.in-Sign.is in
    fits _ _ (print-same v e ∙ print-minus v c.if-v-eq0.false) c.requires.room

pub put_bytes-requires-in-Multiplier : goal.put_bytes-requires-in-Multiplier
put_bytes-requires-in-Multiplier c =
    let v = c.args.v in
    let e = c.in-Multiplier.is in
    fits _ _ (print-same v e ∙ print-one v c.if-v-eq0-2.true) c.requires.room

pub put_bytes-requires-in-Multiplier-2 : goal.put_bytes-requires-in-Multiplier-2
put_bytes-requires-in-Multiplier-2 c =
    let v = c.args.v in
    let e = c.in-Multiplier.is in
    fits _ _ (print-same v e ∙ print-four v c.if-v-eq0-2.false) c.requires.room

pub name-requires : goal.name-requires
name-requires c =
    let a = c.args in
    valid-name c.in-Name.names a.v (ap (λ (x : Kind). valid x a.v) (sym c.in-Name.is) ∙ c.requires.value_valid)

pub put_name-requires : goal.put_name-requires
unfolding print_field letters_of
put_name-requires c =
    let v = c.args.v in
    fits _ _ (print-same v c.in-Name.is) c.requires.room

pub returns-in-Fixed : goal.returns-in-Fixed
unfolding print_field
returns-in-Fixed c =
    let v = c.args.v in
    put_as (sym (print-same v c.in-Fixed.is)) c.put_digits.ensures

pub returns-in-Next : goal.returns-in-Next
unfolding print_field
returns-in-Next c =
    let v = c.args.v in
    put_as (sym (print-same v c.in-Next.is)) c.put_digits-in-Next.ensures

pub returns-in-Count : goal.returns-in-Count
unfolding print_field
returns-in-Count c =
    let v = c.args.v in
    put_as (sym (print-same v c.in-Count.is)) c.put_decimal.ensures

pub returns-in-Signed : goal.returns-in-Signed
unfolding print_field
returns-in-Signed c =
    let v = c.args.v in
    put_as (sym (print-same v c.in-Signed.is)) c.put_signed.ensures

pub returns-in-Optional : goal.returns-in-Optional
unfolding print_field
returns-in-Optional c =
    let v = c.args.v in
    put_as (sym (print-same v c.in-Optional.is)) c.put_signed-in-Optional.ensures

pub returns-in-Sign : goal.returns-in-Sign
returns-in-Sign c =
    let v = c.args.v in
    let e = c.in-Sign.is in
    put_as (sym (print-same v e ∙ print-plus v c.if-v-eq0.true)) c.put_bytes.ensures

pub returns-in-Sign-2 : goal.returns-in-Sign-2
returns-in-Sign-2 c =
    let v = c.args.v in
    let e = c.in-Sign.is in
    put_as (sym (print-same v e ∙ print-minus v c.if-v-eq0.false)) c.put_bytes-in-Sign-2.ensures

pub returns-in-Multiplier : goal.returns-in-Multiplier
returns-in-Multiplier c =
    let v = c.args.v in
    let e = c.in-Multiplier.is in
    put_as (sym (print-same v e ∙ print-one v c.if-v-eq0-2.true)) c.put_bytes-in-Multiplier.ensures

pub returns-in-Multiplier-2 : goal.returns-in-Multiplier-2
returns-in-Multiplier-2 c =
    let v = c.args.v in
    let e = c.in-Multiplier.is in
    put_as (sym (print-same v e ∙ print-four v c.if-v-eq0-2.false)) c.put_bytes-in-Multiplier-2.ensures

pub returns-in-Name : goal.returns-in-Name
unfolding print_field
returns-in-Name c =
    let v = c.args.v in
    let x = c.name in
    put_as (sym (print-same v c.in-Name.is ∙ ap letters_of (sym x.ensures))) c.put_name.ensures
