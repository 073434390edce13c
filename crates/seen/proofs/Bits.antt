-- Flags as bits: what an `if` gives as a choice, a turn of the loop over the outputs, and how large the bits get.
-- Assumes nothing.
use Prim.Native.Nat.{ℕ, zero, suc, ◌+◌, ◌*◌, ◌^◌, ◌≤◌, ◌<◌}
use native.Mathlib.Nat.{pow-succ'}
use native.Mathlib.Omega.{arith}
use mathlib.Core.Path.{◌≡◌, sym, ap, ◌∙◌}
use mathlib.Core.Bool.{Bool, true, false}
use mathlib.Core.List.{List, [], ◌∷◌}
use lib.ListN.{length, get_or, drop}
use lib.Seq.{drop-cons}
use Rattle.laws.specs.Tests.{choose}
use Rattle.laws.proofs.Tests.{choose-true, choose-false}
use Rattle.seen.specs.Bytes.{bits_of}

-- an `if` with a number in each arm
pub on-taken : {b : Bool} {v x : ℕ} (y : ℕ) → b ≡ true → v ≡ x → v ≡ choose b x y
on-taken {b} {v} {x} y t e = e ∙ sym (choose-true b x y t)

pub on-left : {b : Bool} {v y : ℕ} (x : ℕ) → b ≡ false → v ≡ y → v ≡ choose b x y
on-left {b} {v} {y} x t e = e ∙ sym (choose-false b x y t)

pub bit-most : (b : Bool) (n : ℕ) → choose b n 0 ≤ n
unfolding choose
bit-most true n = omega arith
bit-most false n = omega arith

-- the flags from a place on
pub bits-next : (l : List Bool) (i : ℕ) → i < length l → bits_of (drop i l) ≡ choose (get_or l i false) 1 0 + 2 * bits_of (drop (suc i) l)
unfolding bits_of
bits-next l i h = ap bits_of (drop-cons l i false h)

pub bits_below : (n : ℕ) (l : List Bool) → length l ≤ n → bits_of l < 2 ^ n
unfolding bits_of
bits_below zero [] h = omega arith
bits_below (suc n) [] h = let k = bits_below n [] (omega arith) in omega (arith, k, pow-succ' 2 n)
bits_below zero (b ∷ bs) h = omega arith
bits_below (suc n) (b ∷ bs) h =
    let k = bits_below n bs (omega arith) in
    omega (arith, k, bit-most b 1, pow-succ' 2 n)
