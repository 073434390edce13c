-- A list has at most 16 names; each turn looks at the name of its place.
-- Assumes nothing.
use Rattle.std.proofs.Common.{◌∙◌, ℕ, List, length, ap, sym, arith}
use Rattle.fields.specs.Names.{place_from}
use Rattle.fields.proofs.Turns.{length-list_of, place_here, place-next, place_end}
use Rattle.fields.proofs.names.find.Goals as goal

pub overflow_cast-result : goal.overflow_cast-result
overflow_cast-result c = omega (arith, ap length c.list-name-items.ensures, length-list_of c.args.names)

pub returns-then-name-x : goal.returns-then-name-x
returns-then-name-x c =
    let x = c.args.x in
    let l = c.loop-place in
    let whole = ap (λ (ns : List ℕ). place_from ns 0 x) c.list-name-items.ensures in
    sym (sym whole ∙ l.invariant ∙ place_here _ l.place l.place x (omega arith) (sym c.if-name-x.true))

pub loop-place-preserved : goal.loop-place-preserved
loop-place-preserved c =
    let l = c.loop-place in
    l.invariant ∙ place-next _ l.place l.place c.args.x (omega arith) (λ e. c.if-name-x.false (sym e))

pub returns : goal.returns
returns c =
    let x = c.args.x in
    let l = c.loop-place in
    let whole = ap (λ (ns : List ℕ). place_from ns 0 x) c.list-name-items.ensures in
    sym (sym whole ∙ l.invariant ∙ place_end _ l.place l.place x (omega arith))
