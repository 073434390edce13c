-- The bits of a word, stored one by one.
-- Assumes nothing.
use Prim.Native.Nat.{ℕ, suc, ◌+◌, ◌-◌, ◌/◌, ◌%◌, ◌≤◌, ◌<◌}
use native.Mathlib.Numerals.{add-one}
use native.Mathlib.Omega.{arith}
use mathlib.Core.Path.{◌≡◌}
use mathlib.Core.Bool.{Bool}
use mathlib.Core.List.{List, ◌++◌, append-nil, append_assoc}
use lib.Dec.{eqb}
use lib.ListN.{length, take, set}
use lib.Seq.{take-suc-set, take_all}
use Rattle.machine.specs.InputWords.{bits_from}

-- one more bit is stored and one less is left
pub bits-turn : (l : List Bool) (i w : ℕ) → i < 11 → i < length l →
    take (i + 1) (set l i (eqb (w % 2) 1)) ++ bits_from (11 - (i + 1)) (w / 2) ≡ take i l ++ bits_from (11 - i) w
unfolding bits_from
bits-turn l i w h g =
    let e : 11 - i ≡ suc (11 - (i + 1)) = omega arith in
    rw (e, add-one i, take-suc-set l i (eqb (w % 2) 1) g, append_assoc)

-- all are stored
pub bits-end : (l : List Bool) (i w : ℕ) → length l ≡ 11 → 11 ≤ i → take i l ++ bits_from (11 - i) w ≡ l
unfolding bits_from
bits-end l i w n h =
    let e : 11 - i ≡ 0 = omega arith in
    rw (e, append-nil) (take_all i l (omega arith))
