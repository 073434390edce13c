-- Net steps as text: the digits of a wide number, nine at a time, and the sign of an i64.
-- Assumes nothing.
use Rattle.std.proofs.Common.{◌≡◌, ℕ, zero, suc, ◌+◌, ◌*◌, ◌/◌, ◌%◌, ◌^◌, ◌<◌, ◌≤◌, true, false, ltb, List, [], ◌∷◌, ◌++◌, ℤ, pos, negsuc, sym, refl, ap, ◌∙◌, subst, ap₂, ⊎_elim, not-suc-le-zero, mod-lt, mod-eq_of_lt, div-lt_iff_lt-mul, le-div_iff_mul-le, arith, pow-add, ltb-true, le-ltb, lt-ltb}
use native.Mathlib.Nat.{div-div-eq-div-mul}
use lib.Arith.{digits_div, digits_mod, mod-mul}
use lib.Signed.{lt_z}
use Rattle.laws.specs.Tests.{choose}
use Rattle.laws.proofs.Tests.{choose-true, choose-false, lt-or-le}
use Rattle.decimal.specs.Printing.{digits, width_from, width, decimal}
use Rattle.decimal.proofs.Printing.{pow_pos, width_from-holds}
use Rattle.observed.specs.Nets.{sign_text, wide_text}

-- the w + v low digits are the w digits from v on, then the v low ones
mod_parts : (n w v : ℕ) → n % 10 ^ (w + v) ≡ n / 10 ^ v % 10 ^ w * 10 ^ v + n % 10 ^ v
mod_parts n w v = ap (λ (x : ℕ). n % x) (pow-add 10 w v) ∙ mod-mul n (pow_pos w) (pow_pos v)

mod-upper : (n w v : ℕ) → n % 10 ^ (w + v) / 10 ^ v ≡ n / 10 ^ v % 10 ^ w
mod-upper n w v = ap (λ (x : ℕ). x / 10 ^ v) (mod_parts n w v) ∙ digits_div (n / 10 ^ v % 10 ^ w) (mod-lt n (pow_pos v))

mod-lower : (n w v : ℕ) → n % 10 ^ (w + v) % 10 ^ v ≡ n % 10 ^ v
mod-lower n w v = ap (λ (x : ℕ). x % 10 ^ v) (mod_parts n w v) ∙ digits_mod (n / 10 ^ v % 10 ^ w) (mod-lt n (pow_pos v))

digits_append : (w v n : ℕ) → n < 10 ^ (w + v) → digits (w + v) n ≡ digits w (n / 10 ^ v) ++ digits v (n % 10 ^ v)
unfolding digits
digits_append zero v n h =
    let e : zero + v ≡ v = omega arith in
    ap (λ (k : ℕ). digits k n) e ∙ ap (digits v) (sym (mod-eq_of_lt (subst (λ (k : ℕ). n < 10 ^ k) e h)))
digits_append (suc w) v n h =
    let e : suc w + v ≡ suc (w + v) = omega arith in
    let turned : w + v ≡ v + w = omega arith in
    ap (λ (k : ℕ). digits k n) e
    ∙ ap₂ (λ (x : ℕ) (l : List ℕ). (48 + x) ∷ l)
    (ap (λ (k : ℕ). n / 10 ^ k) turned ∙ ap (λ (x : ℕ). n / x) (pow-add 10 v w) ∙ sym (div-div-eq-div-mul n (10 ^ v) (10 ^ w)))
    (digits_append w v (n % 10 ^ (w + v)) (mod-lt n (pow_pos (w + v)))
    ∙ ap₂ (λ (x y : ℕ). digits w x ++ digits v y) (mod-upper n w v) (mod-lower n w v))

-- the digits from v on are v fewer
width_from-upper : (f w v n : ℕ) → width_from f (w + v) n ≡ width_from f w (n / 10 ^ v) + v
unfolding width_from
width_from-upper zero w v n = refl
width_from-upper (suc f) w v n =
    let e : suc (w + v) ≡ suc w + v = omega arith in
    ⊎_elim
    (λ (h : n < 10 ^ (w + v)). choose-true _ _ _ (lt-ltb n (10 ^ (w + v)) h)
    ∙ ap (λ (k : ℕ). k + v) (sym (choose-true _ _ _ (lt-ltb (n / 10 ^ v) (10 ^ w)
    ((div-lt_iff_lt-mul (pow_pos v)).1 (subst (λ (x : ℕ). n < x) (pow-add 10 w v) h))))))
    (λ (h : 10 ^ (w + v) ≤ n). choose-false _ _ _ (le-ltb n (10 ^ (w + v)) h)
    ∙ ap (λ (k : ℕ). width_from f k n) e
    ∙ width_from-upper f (suc w) v n
    ∙ ap (λ (k : ℕ). k + v) (sym (choose-false _ _ _ (le-ltb (n / 10 ^ v) (10 ^ w)
    ((le-div_iff_mul-le (pow_pos v)).1 (subst (λ (x : ℕ). x ≤ n) (pow-add 10 w v) h))))))
    (lt-or-le n (10 ^ (w + v)))

-- a width that is found is found by looking further too
width_from-here : (g w n : ℕ) → n < 10 ^ w → width_from g w n ≡ w
unfolding width_from
width_from-here zero w n h = refl
width_from-here (suc g) w n h = choose-true _ _ _ (lt-ltb n (10 ^ w) h)

width_from-further : (f g w n : ℕ) → n < 10 ^ (f + w) → width_from (f + g) w n ≡ width_from f w n
unfolding width_from
width_from-further zero g w n h =
    let e : zero + g ≡ g = omega arith in
    ap (λ (k : ℕ). width_from k w n) e ∙ width_from-here g w n (subst (λ (k : ℕ). n < 10 ^ k) (omega arith) h)
width_from-further (suc f) g w n h =
    let e : suc f + g ≡ suc (f + g) = omega arith in
    ap (λ (k : ℕ). width_from k w n) e
    ∙ ap (choose (ltb n (10 ^ w)) w) (width_from-further f g (suc w) n (subst (λ (k : ℕ). n < 10 ^ k) (omega arith) h))

-- nine digits are passed over
width_from-nine : (n : ℕ) → 10 ^ 9 ≤ n → width_from 19 1 n ≡ width_from 10 10 n
unfolding width_from choose
width_from-nine n l =
    simp (
      le-ltb n (10 ^ 1) (omega arith),
      le-ltb n (10 ^ 2) (omega arith),
      le-ltb n (10 ^ 3) (omega arith),
      le-ltb n (10 ^ 4) (omega arith),
      le-ltb n (10 ^ 5) (omega arith),
      le-ltb n (10 ^ 6) (omega arith),
      le-ltb n (10 ^ 7) (omega arith),
      le-ltb n (10 ^ 8) (omega arith),
      le-ltb n (10 ^ 9) (omega arith),
    )

-- of at most ten digits it is the decimal text
pub wide-decimal : (n : ℕ) → n < 10 ^ 10 → wide_text n ≡ decimal n
unfolding wide_text decimal width
wide-decimal n h = ap (λ (k : ℕ). digits k n) (width_from-further 9 10 1 n h)

-- of more than nine it is that of the upper part, then the nine low digits
pub wide-append : (n : ℕ) → 10 ^ 9 ≤ n → n < 10 ^ 20 → wide_text n ≡ wide_text (n / 10 ^ 9) ++ digits 9 (n % 10 ^ 9)
unfolding wide_text
wide-append n l h =
    let q = n / 10 ^ 9 in
    let size : width_from 19 1 n ≡ width_from 19 1 q + 9 =
    width_from-nine n l ∙ width_from-upper 10 1 9 n ∙ ap (λ (k : ℕ). k + 9) (sym (width_from-further 10 9 1 q (omega arith))) in
    ap (λ (k : ℕ). digits k n) size
    ∙ digits_append (width_from 19 1 q) 9 n (subst (λ (k : ℕ). n < 10 ^ k) size (width_from-holds 19 1 n h))

-- ---- the sign

pub sign-minus : (z : ℤ) → lt_z z (pos 0) ≡ true → sign_text z ≡ 45 ∷ []
unfolding sign_text
sign-minus (pos n) t = absurd (not-suc-le-zero (ltb-true n 0 t))
sign-minus (negsuc n) t = refl

pub sign-plus : (z : ℤ) → lt_z z (pos 0) ≡ false → sign_text z ≡ 43 ∷ []
unfolding sign_text
sign-plus (pos n) t = refl
sign-plus (negsuc n) t = cc
