-- Less than 10 of the power is left, then 6, 4, 2 and 1; so the digit counted is the quotient.
-- Assumes nothing.
use Prim.Native.Nat.{ℕ, ◌+◌, ◌*◌, ◌<◌}
use native.Mathlib.Omega.{arith}
use mathlib.Core.Path.{◌≡◌}
use Rattle.decimal.specs.Printing.{taken_away}
use Rattle.decimal.specs.declared.print.Digit.{Digit}
use Rattle.decimal.proofs.Taking.{Counted, counted_none, counted-taken, counted-split}
use Rattle.decimal.proofs.print.digit_of.Goals as goal

first : {n p : ℕ} {r : Digit} → n < 10 * p → r ≡ taken_away (record { byte = 48; left = n }) (p + p + (p + p)) 4 → Counted n p 6 4 r
first {n} {p} h e = counted-taken 6 4 (p + p + (p + p)) (omega arith) (omega arith) (omega arith) (counted_none n p h) e

second : {n p : ℕ} {d r : Digit} → Counted n p 6 4 d → r ≡ taken_away d (p + p + (p + p)) 4 → Counted n p 4 8 r
second {n} {p} x e = counted-taken 4 4 (p + p + (p + p)) (omega arith) (omega arith) (omega arith) x e

third : {n p : ℕ} {d r : Digit} → Counted n p 4 8 d → r ≡ taken_away d (p + p) 2 → Counted n p 2 10 r
third {n} {p} x e = counted-taken 2 2 (p + p) (omega arith) (omega arith) (omega arith) x e

last : {n p : ℕ} {d r : Digit} → Counted n p 2 10 d → r ≡ taken_away d p 1 → Counted n p 1 11 r
last {n} {p} x e = counted-taken 1 1 p (omega arith) (omega arith) (omega arith) x e

pub take_away-second-requires : goal.take_away-second-requires
take_away-second-requires c =
    let x = first c.requires.1.1 c.take_away-first.ensures in
    omega arith

pub take_away-third-requires : goal.take_away-third-requires
take_away-third-requires c =
    let x = second (first c.requires.1.1 c.take_away-first.ensures) c.take_away-second.ensures in
    omega arith

pub take_away-requires : goal.take_away-requires
take_away-requires c =
    let x = third (second (first c.requires.1.1 c.take_away-first.ensures) c.take_away-second.ensures) c.take_away-third.ensures in
    omega arith

pub returns : goal.returns
returns c =
    let pre = c.requires in
    let x = second (first pre.1.1 c.take_away-first.ensures) c.take_away-second.ensures in
    counted-split pre.0 (last (third x c.take_away-third.ensures) c.take_away.ensures)
