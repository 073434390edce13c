-- One turn of each loop, and the value that is read as 32 bits.
-- Assumes nothing.
use Prim.Native.Nat.{ℕ, zero, suc, ◌+◌, ◌-◌, ◌*◌, ◌/◌, ◌%◌, ◌^◌, ◌≤◌, ◌<◌}
use native.Mathlib.Nat.{pow-suc, pow-le-pow_right, le_trans, div-one, add-zero, zero-add}
use native.Mathlib.Numerals.{add-one}
use native.Mathlib.Omega.{arith}
use mathlib.Core.Path.{◌≡◌, refl, ap, sym, ◌∙◌}
use mathlib.Core.Logic.{◌⊎◌, inl, inr}
use mathlib.Core.List.{List}
use lib.ListN.{length, get_or, drop, set}
use lib.Seq.{sets, drop-cons, drop-length}
use lib.Dec.{ltb, lit<}
use borrow.Author.Tests.{lt-ltb, le-ltb, le-leb, lt-leb}
use Rattle.laws.specs.Tests.{choose}
use Rattle.laws.proofs.Tests.{choose-true, choose-false}
use Rattle.decimal.specs.Printing.{digits, width_from}
use Rattle.decimal.specs.Parsing.{value_from}
use Rattle.std.specs.Prelude.{Result, Ok, Err, OkIff}
use Rattle.std.specs.Result.{result_ok}
use Rattle.std.specs.declared.option.Option.TheVariants.{Some, None}
use Rattle.decimal.proofs.Printing.{pow_pos}

-- printing digits: what is left, at the width before and after a digit
pub left_below : (k n p : ℕ) → 0 < k → k ≤ 10 → n < 10 ^ k → p ≡ 10 ^ (k - 1) → (0 < p) × ((p ≤ 10 ^ 9) × (n < 10 * p))
left_below zero n p h t l e = absurd (omega arith)
left_below (suc k) n p h t l e =
    let d : suc k - 1 ≡ k = omega arith in
    let e' : p ≡ 10 ^ k = e ∙ ap (λ (j : ℕ). 10 ^ j) d in
    let short : k ≤ 9 = omega arith in
    let most : 10 ^ k ≤ 10 ^ 9 = pow-le-pow_right (lit< tt) short in
    omega (arith, pow-suc 10 k, pow_pos k)

pub sets-digits :
    (l : List ℕ) (i k n p b m : ℕ) → 0 < k → p ≡ 10 ^ (k - 1) → b ≡ 48 + n / p → m ≡ n % p →
    sets l i (digits k n) ≡ sets (set l i b) (i + 1) (digits (k - 1) m)
unfolding digits
sets-digits l i zero n p b m h ep eb em = absurd (omega arith)
sets-digits l i (suc k) n p b m h ep eb em =
    let e : suc k - 1 ≡ k = omega arith in
    rw (eb, em, ep, e, add-one i)

-- the last digit is what is left
pub sets_last : (l : List ℕ) (i n : ℕ) → sets l i (digits 1 n) ≡ set l i (48 + n)
unfolding digits
sets_last l i n = rw (div-one n)

-- finding the width
pub width-here : (f w n p : ℕ) → p ≡ 10 ^ w → n < p → width_from f w n ≡ w
unfolding width_from choose
width-here zero w n p e h = refl
width-here (suc f) w n p e h = simp (lt-ltb n (10 ^ w) (omega arith))

-- a number that is not below a power is not below those before it, from that of the width w on
pub width-past :
    (j f g w u v n p : ℕ) → u ≡ j + w → v ≡ suc u → f ≡ suc (j + g) → p ≡ 10 ^ u → p ≤ n →
    width_from f w n ≡ width_from g v n
unfolding width_from choose
width-past zero f g w u v n p eu ev ef ep h =
    let a : f ≡ suc g = omega arith in
    let b : v ≡ suc w = omega arith in
    let low : 10 ^ w ≤ n = rw (← zero-add w, ← eu) (omega arith) in
    rw (a, b) (simp (le-ltb n (10 ^ w) low))
width-past (suc j) f g w u v n p eu ev ef ep h =
    let a : f ≡ suc (suc (j + g)) = omega arith in
    let wide : w ≤ u = omega arith in
    let less : 10 ^ w ≤ 10 ^ u = pow-le-pow_right (lit< tt) wide in
    let low : 10 ^ w ≤ n = omega arith in
    rw a (simp (le-ltb n (10 ^ w) low) (width-past j (suc (j + g)) g (suc w) u v n p (omega arith) ev refl ep h))

-- a number below a power is not looked for past it
pub width-within : (f g w n p : ℕ) → p ≡ 10 ^ (w + f) → n < p → width_from (f + g) w n ≡ width_from f w n
unfolding width_from choose
width-within zero g w n p e h = width-here (zero + g) w n p (e ∙ ap (λ (k : ℕ). 10 ^ k) (add-zero w)) h
width-within (suc f) g w n p e h =
    let a : suc f + g ≡ suc (f + g) = omega arith in
    let b : w + suc f ≡ suc w + f = omega arith in
    rw a (ap (choose (ltb n (10 ^ w)) w) (width-within f g (suc w) n p (e ∙ ap (λ (k : ℕ). 10 ^ k) b) h))

-- parsing digits: the value stays below the power of the place
pub value-below : (a i d : ℕ) → a < 10 ^ i → d < 10 → a * 10 + d < 10 ^ (i + 1)
value-below a i d h k = rw (add-one, pow-suc) (omega arith)

pub value-small : (a i : ℕ) → a < 10 ^ i → i ≤ 10 → a < 10 ^ 10
value-small a i h k = le_trans h (pow-le-pow_right (lit< tt) k)

-- a byte that is no digit
pub value-bad : (a : ℕ) (s : List ℕ) (i : ℕ) → i < length s → (get_or s i 0 < 48) ⊎ (57 < get_or s i 0) → value_from a (drop i s) ≡ None
unfolding value_from choose
value-bad a s i h (inl k) = rw (drop-cons s i 0 h) (simp (lt-leb 48 (get_or s i 0) k))
value-bad a s i h (inr k) = rw (drop-cons s i 0 h) (simp (le-leb 48 (get_or s i 0) (omega arith), lt-leb (get_or s i 0) 57 k))

pub value-next :
    (a : ℕ) (s : List ℕ) (i : ℕ) → i < length s → 48 ≤ get_or s i 0 → get_or s i 0 ≤ 57 →
    value_from a (drop i s) ≡ value_from (a * 10 + (get_or s i 0 - 48)) (drop (i + 1) s)
unfolding value_from choose
value-next a s i h l k = rw (add-one i, drop-cons s i 0 h) (simp (le-leb 48 (get_or s i 0) l, le-leb (get_or s i 0) 57 k))

pub value-end : (a : ℕ) (s : List ℕ) (i : ℕ) → i ≡ length s → value_from a (drop i s) ≡ choose (ltb a (2 ^ 32)) (Some a) None
unfolding value_from
value-end a s i e = rw (e, drop-length s)

-- a value as 32 bits, where it fits
pub value_fits : {E : Type 0} (v : ℕ) (r : Result ℕ E) → OkIff r (v < 2 ^ 32) v → result_ok r ≡ choose (ltb v (2 ^ 32)) (Some v) None
value_fits v (Ok x) h = rw h.1 (sym (choose-true _ _ _ (lt-ltb v (2 ^ 32) h.0)))
value_fits v (Err e) h = sym (choose-false _ _ _ (le-ltb v (2 ^ 32) (omega arith)))
