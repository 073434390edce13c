-- `round` meets its contract: each return by the tests that led there, and the table holds at the place of a value what it is rounded to.
-- Assumes nothing.
use Prim.Native.Nat.{◌<◌}
use native.Mathlib.Omega.{arith}
use mathlib.Core.Path.{◌≡◌, ap, ◌∙◌}
use mathlib.Core.Logic.{⊎_elim}
use borrow.Author.Tests.{eq-eqb, ne_eqb, lt-ltb, le-ltb}
use Rattle.laws.specs.Tests.{choose}
use Rattle.std.specs.Prelude.{Ok}
use Rattle.frequency.specs.Table.{frequencies, rising, following}
use Rattle.frequency.specs.Places.{hertz_of}
use Rattle.frequency.specs.Rounding.{round_of, rounded_of}
use Rattle.frequency.proofs.Placing.{hertz-place, place-below}
use Rattle.frequency.proofs.round.Goals as goal

pub returns-then-value-eq0 : goal.returns-then-value-eq0
unfolding rounded_of choose
returns-then-value-eq0 c =
    ⊎_elim (λ (e : c.args.value ≡ 0). simp (eq-eqb _ _ e))
    (λ (w : (c.args.value ≡ 0 → ⊥) × (4800 < c.args.value)). simp (ne_eqb _ _ w.0, lt-ltb _ _ w.1)) c.then-value-eq0.either

pub returns : goal.returns
unfolding rounded_of choose hertz_of frequencies rising following
returns c =
    let v = c.args.value in
    let e : hertz_of c.place.result ≡ round_of v =
    ap hertz_of c.place.ensures ∙ hertz-place v (omega arith) (omega arith) in
    simp (ne_eqb _ _ c.if-value-eq0.false, le-ltb _ _ c.if-value-gt4800.false) (ap Ok e)

pub bounds-table-place : goal.bounds-table-place
bounds-table-place c = rw c.place.ensures (place-below c.args.value (omega arith) (omega arith))
