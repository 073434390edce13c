-- Taking a power away, several at a time: what is counted and what is left make up the number, and less is left each time.
-- Assumes nothing.
use Prim.Native.Nat.{ℕ, ◌+◌, ◌*◌, ◌/◌, ◌%◌, ◌≤◌, ◌<◌}
use native.Mathlib.Nat.{add-mul, mul-le-mul_right, mul-add-div_right, mul-add-mod_self_right, div-eq_of_lt, mod-eq_of_lt, add-zero}
use native.Mathlib.Omega.{arith}
use mathlib.Core.Path.{◌≡◌, refl, ap, sym, ◌∙◌}
use lib.Dec.{ltb}
use borrow.Author.Tests.{ltb-true, ltb-false}
use Rattle.laws.proofs.Tests.{choose-by}
use Rattle.decimal.specs.Printing.{Split, taken_away}
use Rattle.decimal.specs.declared.print.Digit.{Digit}

-- of n a digit, at most k, of the power p is counted, and less than b of the power is left
pub record Counted (n p b k : ℕ) (d : Digit) : Type 0 where
  pub digit : ℕ
  pub few : digit ≤ k
  pub byte : d.byte ≡ 48 + digit
  pub whole : digit * p + d.left ≡ n
  pub below : d.left < b * p

-- nothing is taken away yet
pub counted_none : (n p : ℕ) → n < 10 * p → Counted n p 10 0 (record { byte = 48; left = n })
counted_none n p h = record { digit = 0; few = omega arith; byte = refl; whole = omega arith; below = h }

-- c of the power, m together, are taken away where that many are left
pub counted-taken :
    {n p b k : ℕ} {d r : Digit} (b' c m : ℕ) → m ≡ c * p → b ≤ b' + c → c ≤ b' → Counted n p b k d → r ≡ taken_away d m c →
    Counted n p b' (k + c) r
unfolding taken_away
counted-taken {n} {p} {b} {k} {d} {r} b' c m e h g x s =
    rw s
    (choose-by (Counted n p b' (k + c)) (ltb d.left m)
    (λ t. record {
      digit = x.digit;
      few = omega arith;
      byte = x.byte;
      whole = x.whole;
      below = omega (arith, ltb-true d.left m t, mul-le-mul_right p g);
    })
    (λ t. record {
      digit = x.digit + c;
      few = omega arith;
      byte = omega arith;
      whole = omega (arith, ltb-false d.left m t, add-mul x.digit c p);
      below = omega (arith, ltb-false d.left m t, mul-le-mul_right p h, add-mul b' c p);
    }))

-- where less than the power is left, the digit is the quotient
pub counted-split : {n p k : ℕ} {d : Digit} → 0 < p → Counted n p 1 k d → Split n p d
counted-split {n} {p} {k} {d} pos x =
    let small : d.left < p = omega arith in
    let q : n / p ≡ x.digit =
    ap (λ (j : ℕ). j / p) (sym x.whole) ∙ mul-add-div_right pos x.digit d.left
    ∙ ap (λ (j : ℕ). x.digit + j) (div-eq_of_lt small) ∙ add-zero x.digit in
    let r : n % p ≡ d.left = ap (λ (j : ℕ). j % p) (sym x.whole) ∙ mul-add-mod_self_right x.digit p d.left ∙ mod-eq_of_lt small in
    record { byte = x.byte ∙ ap (λ (j : ℕ). 48 + j) (sym q); left = sym r }
