-- Little-endian numbers: what stands behind a front of bytes, and a number read back from its bytes.
-- Assumes nothing.
use Prim.Native.Nat.{ℕ, ◌+◌, ◌*◌, ◌/◌, ◌%◌, ◌<◌}
use native.Mathlib.Nat.{div-add-mod, div-div-eq-div-mul}
use native.Mathlib.Omega.{arith}
use mathlib.Core.Path.{◌≡◌, sym, ap, ◌∙◌}
use mathlib.Core.Bool.{true}
use mathlib.Core.List.{List, ◌++◌}
use lib.Dec.{ltb}
use lib.ListN.{length, get_or}
use lib.Seq.{get_or-append-add}
use borrow.Author.Tests.{lt-ltb}
use Rattle.laws.specs.Tables.{every}
use Rattle.laws.specs.Tests.{both}
use Rattle.encoding.specs.Numbers.{pair_at, number_at, pair_bytes, number_bytes}

-- ---- behind a front f

pub pair-behind : (f l : List ℕ) (k : ℕ) → pair_at (f ++ l) (length f + k) ≡ pair_at l k
unfolding pair_at
pair-behind f l k =
    let e : length f + k + 1 ≡ length f + (k + 1) = omega arith in
    let low = get_or-append-add f l k 0 in
    let high = ap (λ (i : ℕ). get_or (f ++ l) i 0) e ∙ get_or-append-add f l (k + 1) 0 in
    omega (arith, low, high)

pub number_behind : (f l : List ℕ) (k : ℕ) → number_at (f ++ l) (length f + k) ≡ number_at l k
unfolding number_at
number_behind f l k =
    let e : length f + k + 2 ≡ length f + (k + 2) = omega arith in
    let low = pair-behind f l k in
    let high = ap (λ (i : ℕ). pair_at (f ++ l) i) e ∙ pair-behind f l (k + 2) in
    omega (arith, low, high)

-- ---- a number among its bytes

pub pair_read : (n : ℕ) (l : List ℕ) → n < 65536 → pair_at (pair_bytes n ++ l) 0 ≡ n
unfolding pair_at pair_bytes
pair_read n l h = omega arith

-- one byte of a number, and what stands above it
byte_above : (n m : ℕ) → n / m ≡ 256 * (n / (m * 256)) + (n / m) % 256
byte_above n m = sym (div-add-mod (n / m) 256) ∙ ap (λ (k : ℕ). 256 * k + (n / m) % 256) (div-div-eq-div-mul n m 256)

pub number_read : (n : ℕ) (l : List ℕ) → n < 4294967296 → number_at (number_bytes n ++ l) 0 ≡ n
unfolding number_at pair_at number_bytes
number_read n l h =
    let e : (n / 16777216) % 256 ≡ n / 16777216 = omega arith in
    omega (arith, div-add-mod n 256, byte_above n 256, byte_above n 65536, e)

-- behind a front f; a front of one or two bytes computes: `pair-after (b ∷ []) n l h : pair_at (b ∷ pair_bytes n ++ l) 1 ≡ n`
pub pair-after : (f : List ℕ) (n : ℕ) (l : List ℕ) → n < 65536 → pair_at (f ++ (pair_bytes n ++ l)) (length f) ≡ n
pair-after f n l h =
    let e : length f ≡ length f + 0 = omega arith in
    ap (λ (k : ℕ). pair_at (f ++ (pair_bytes n ++ l)) k) e ∙ pair-behind f (pair_bytes n ++ l) 0 ∙ pair_read n l h

pub number-after : (f : List ℕ) (n : ℕ) (l : List ℕ) → n < 4294967296 → number_at (f ++ (number_bytes n ++ l)) (length f) ≡ n
number-after f n l h =
    let e : length f ≡ length f + 0 = omega arith in
    ap (λ (k : ℕ). number_at (f ++ (number_bytes n ++ l)) k) e ∙ number_behind f (number_bytes n ++ l) 0 ∙ number_read n l h

-- ---- each byte is below 256

byte_fits : (n : ℕ) → ltb (n % 256) 256 ≡ true
byte_fits n = lt-ltb (n % 256) 256 (omega arith)

pub pair-bytes : (n : ℕ) → every (λ b. ltb b 256) (pair_bytes n) ≡ true
unfolding every pair_bytes both
pair-bytes n = simp byte_fits

pub number-bytes : (n : ℕ) → every (λ b. ltb b 256) (number_bytes n) ≡ true
unfolding every number_bytes both
number-bytes n = simp byte_fits
