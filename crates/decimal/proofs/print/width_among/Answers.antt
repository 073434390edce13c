-- The powers before the width found are not above the number, and the power of that width is above it.
-- Assumes nothing.
use Prim.Native.Nat.{ℕ, suc, ◌+◌, ◌≤◌, ◌<◌}
use native.Mathlib.Omega.{arith}
use mathlib.Core.Path.{◌≡◌, ◌∙◌, refl, sym}
use lib.ListN.{get_or}
use Rattle.decimal.specs.Printing.{width_from}
use Rattle.decimal.proofs.Powers.{powers, power_at}
use Rattle.decimal.proofs.Turns.{width-here, width-past}
use Rattle.decimal.proofs.print.width_among.Goals as goal

-- j powers are passed over, from that of the width low on, and the number is below the next
passed :
    {n : ℕ} (j g low u v : ℕ) → u ≡ j + low → v ≡ suc u → 4 ≡ suc (j + g) → v < 10 → get_or powers u 0 ≤ n → n < get_or powers v 0 →
    v ≡ width_from 4 low n
passed {n} j g low u v eu ev eg h below above =
    sym
    (width-past j 4 g low u v n (get_or powers u 0) eu ev eg (power_at u (omega arith)) below
    ∙ width-here g v n (get_or powers v 0) (power_at v h) above)

pub returns-then-n-low-2 : goal.returns-then-n-low-2
returns-then-n-low-2 c =
    let n = c.args.n in
    let low = c.args.low in
    sym (width-here 4 low n (get_or powers low 0) (power_at low (omega arith)) c.if-n-low-2.true)

pub returns-then-n-low : goal.returns-then-n-low
returns-then-n-low c =
    let low = c.args.low in
    passed 0 3 low low (low + 1) (omega arith) (omega arith) refl (omega arith) c.if-n-low-2.false c.if-n-low.true

pub returns-then-n-low-3 : goal.returns-then-n-low-3
returns-then-n-low-3 c =
    let low = c.args.low in
    passed 1 2 low (low + 1) (low + 2) (omega arith) (omega arith) refl (omega arith) c.if-n-low.false c.if-n-low-3.true

pub returns-then-n-low-4 : goal.returns-then-n-low-4
returns-then-n-low-4 c =
    let low = c.args.low in
    passed 2 1 low (low + 2) (low + 3) (omega arith) (omega arith) refl (omega arith) c.if-n-low-3.false c.if-n-low-4.true

pub returns : goal.returns
unfolding width_from
returns c =
    let n = c.args.n in
    let low = c.args.low in
    sym
    (width-past 3 4 0 low (low + 3) (low + 4) n (get_or powers (low + 3) 0) (omega arith) (omega arith) (omega arith) (power_at (low + 3) (omega arith))
    c.if-n-low-4.false)
