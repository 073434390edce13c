-- What is printed parses to the number it was printed from, at every width; so printing is injective. What does not fit in 32 bits is bad.
-- Assumes nothing.
use Prim.Native.Nat.{ℕ, zero, suc, ◌+◌, ◌-◌, ◌*◌, ◌/◌, ◌%◌, ◌^◌, ◌≤◌, ◌<◌}
use native.Mathlib.Nat.{pow-succ', mod-lt, div-add-mod', add-mul, mul_assoc}
use native.Mathlib.Omega.{arith}
use mathlib.Core.Path.{◌≡◌, refl, sym, ap, ◌∙◌}
use mathlib.Core.List.{List, [], ◌∷◌}
use lib.Dec.{ltb}
use borrow.Author.Tests.{ltb-true, ltb-false, le-leb, lt-ltb, le-ltb, eq-eqb}
use Rattle.laws.specs.Tests.{choose, either}
use Rattle.laws.proofs.Tests.{choose-true, choose-false, choose-by}
use Rattle.decimal.specs.Printing.{digits, width, decimal, signed}
use Rattle.decimal.specs.Parsing.{value_from, number_of, fixed_of, within, negated, signed_of, optional_of}
use Rattle.std.specs.declared.option.Option.{Option}
use Rattle.std.specs.declared.option.Option.TheVariants.{Some, None}
use Rattle.decimal.proofs.Printing.{pow_pos, digit-small, length_digits, width-holds, width_small}

-- a digit q moved from the front of n, which is q * p + r, to the end of a
regroup : (a q r n p : ℕ) → q * p + r ≡ n → (a * 10 + q) * p + r ≡ a * (10 * p) + n
regroup a q r n p e = rw (add-mul, mul_assoc) (omega arith)

value-digit : (a q : ℕ) (s : List ℕ) → q < 10 → value_from a ((48 + q) ∷ s) ≡ value_from (a * 10 + q) s
unfolding value_from choose
value-digit a q s h =
    let e : a * 10 + (48 + q - 48) ≡ a * 10 + q = omega arith in
    simp (le-leb 48 (48 + q) (omega arith), le-leb (48 + q) 57 (omega arith)) (ap (λ (x : ℕ). value_from x s) e)

-- the digits of n, after those whose value is a
value-digits : (w n a : ℕ) → n < 10 ^ w → value_from a (digits w n) ≡ value_from (a * 10 ^ w + n) []
unfolding digits
value-digits zero n a h = ap (λ (x : ℕ). value_from x []) (omega arith)
value-digits (suc w) n a h =
    let p = 10 ^ w in
    let small : n / p < 10 = digit-small n p (pow_pos w) (rw (← pow-succ' 10 w) h) in
    let e : (a * 10 + n / p) * p + n % p ≡ a * 10 ^ suc w + n = regroup a (n / p) (n % p) n p (div-add-mod' n p) ∙ rw (pow-succ' 10 w) in
    value-digit a (n / p) (digits w (n % p)) small
    ∙ value-digits w (n % p) (a * 10 + n / p) (mod-lt n (pow_pos w))
    ∙ ap (λ (x : ℕ). value_from x []) e

value-fits : (n : ℕ) → n < 2 ^ 32 → value_from n [] ≡ Some n
unfolding value_from
value-fits n h = choose-true _ _ _ (lt-ltb n (2 ^ 32) h)

value-wide : (n : ℕ) → 2 ^ 32 ≤ n → value_from n [] ≡ None
unfolding value_from
value-wide n h = choose-false _ _ _ (le-ltb n (2 ^ 32) h)

-- the digits are read, and whether the number fits is still to be tested
number-test : (w n : ℕ) → 1 ≤ w → w ≤ 10 → n < 10 ^ w → number_of (digits w n) ≡ value_from n []
unfolding number_of choose
number-test w n low high h =
    simp (length_digits w n, le-leb 1 w low, le-leb w 10 high) (value-digits w n 0 h ∙ ap (λ (x : ℕ). value_from x []) (omega arith))

pub number_digits : (w n : ℕ) → 1 ≤ w → w ≤ 10 → n < 10 ^ w → n < 2 ^ 32 → number_of (digits w n) ≡ Some n
number_digits w n low high h fits = number-test w n low high h ∙ value-fits n fits

pub number-wide : (n : ℕ) → 2 ^ 32 ≤ n → n < 10 ^ 10 → number_of (digits 10 n) ≡ None
number-wide n wide h = number-test 10 n (omega arith) (omega arith) h ∙ value-wide n wide

pub fixed-digits : (w n : ℕ) → 1 ≤ w → w ≤ 10 → n < 10 ^ w → n < 2 ^ 32 → fixed_of w (digits w n) ≡ Some n
unfolding fixed_of
fixed-digits w n low high h fits = choose-true _ _ _ (eq-eqb _ _ (length_digits w n)) ∙ number_digits w n low high h fits

pub number-decimal : (n : ℕ) → n < 2 ^ 32 → number_of (decimal n) ≡ Some n
unfolding decimal
number-decimal n h = number_digits (width n) n (width_small n).0 (width_small n).1 (width-holds n (omega arith)) h

pub within-value : (low high v : ℕ) → low ≤ v → v ≤ high → within low high (Some v) ≡ Some v
unfolding within choose
within-value low high v l h = simp (le-leb low v l, le-leb v high h)

pub signed-signed :
    (below above bits : ℕ) → bits < 2 ^ 32 → (bits < 2 ^ 31 → bits ≤ above) → (2 ^ 31 ≤ bits → 2 ^ 32 - bits ≤ below) →
    signed_of below above (signed bits) ≡ Some bits
unfolding signed signed_of negated choose
signed-signed below above bits h up down =
    choose-by (λ (s : List ℕ). signed_of below above s ≡ Some bits) (ltb bits (2 ^ 31))
    (λ t. rw (number-decimal bits h) (within-value 0 above bits (omega arith) (up (ltb-true bits (2 ^ 31) t))))
    (λ t. minus (ltb-false bits (2 ^ 31) t))
  where
    minus : 2 ^ 31 ≤ bits → signed_of below above (45 ∷ decimal (2 ^ 32 - bits)) ≡ Some bits
    minus l =
        rw (number-decimal (2 ^ 32 - bits) (omega arith), within-value 0 below (2 ^ 32 - bits) (omega arith) (down l)) (ap Some (omega arith))

-- a printed sign is taken for one
optional-sign : (below above bits : ℕ) → optional_of below above (signed bits) ≡ signed_of below above (signed bits)
unfolding signed optional_of either choose
optional-sign below above bits =
    choose-by (λ (s : List ℕ). optional_of below above s ≡ signed_of below above s) (ltb bits (2 ^ 31)) (λ t. refl) (λ t. refl)

pub optional-signed :
    (below above bits : ℕ) → bits < 2 ^ 32 → (bits < 2 ^ 31 → bits ≤ above) → (2 ^ 31 ≤ bits → 2 ^ 32 - bits ≤ below) →
    optional_of below above (signed bits) ≡ Some bits
optional-signed below above bits h up down = optional-sign below above bits ∙ signed-signed below above bits h up down

pub digits-injective : (w m n : ℕ) → m < 10 ^ w → n < 10 ^ w → digits w m ≡ digits w n → m ≡ n
unfolding digits
digits-injective zero m n hm hn e = omega arith
digits-injective (suc w) m n hm hn e =
    let high : 48 + m / 10 ^ w ≡ 48 + n / 10 ^ w = cc in
    let q : m / 10 ^ w ≡ n / 10 ^ w = omega arith in
    let low : digits w (m % 10 ^ w) ≡ digits w (n % 10 ^ w) = cc in
    let r = digits-injective w (m % 10 ^ w) (n % 10 ^ w) (mod-lt m (pow_pos w)) (mod-lt n (pow_pos w)) low in
    sym (div-add-mod' m (10 ^ w)) ∙ rw (q, r) (div-add-mod' n (10 ^ w))

-- texts that parse to different numbers differ
parse-injective : (parse : List ℕ → Option ℕ) {s t : List ℕ} {m n : ℕ} → parse s ≡ Some m → parse t ≡ Some n → s ≡ t → m ≡ n
parse-injective parse {s} {t} {m} {n} a b e =
    let p : Some m ≡ Some n = sym a ∙ ap parse e ∙ b in
    cc

pub decimal_injective : (m n : ℕ) → m < 2 ^ 32 → n < 2 ^ 32 → decimal m ≡ decimal n → m ≡ n
decimal_injective m n hm hn e = parse-injective number_of (number-decimal m hm) (number-decimal n hn) e

pub signed-injective : (m n : ℕ) → m < 2 ^ 32 → n < 2 ^ 32 → signed m ≡ signed n → m ≡ n
signed-injective m n hm hn e = parse-injective (signed_of (2 ^ 31) (2 ^ 31)) (back m hm) (back n hn) e
  where
    back : (b : ℕ) → b < 2 ^ 32 → signed_of (2 ^ 31) (2 ^ 31) (signed b) ≡ Some b
    back b h = signed-signed (2 ^ 31) (2 ^ 31) b h (λ l. omega arith) (λ l. omega arith)
