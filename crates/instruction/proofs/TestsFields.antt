-- The tests of single fields, in the plain comparisons that the code makes.
-- Assumes nothing.
use Prim.Native.Nat.{ℕ, suc, ◌-◌, ◌<◌, ◌≤◌, ◌^◌}
use native.Mathlib.Omega.{arith}
use mathlib.Core.Path.{◌≡◌, refl, sym}
use mathlib.Core.Bool.{Bool, true, false, ◌&&◌}
use mathlib.Core.Logic.{⊎_elim}
use lib.Dec.{leb, ltb, leb-zero}
use lib.IntN.{ℤ, pos, negsuc, neg_ℤ, nat_abs}
use lib.Signed.{le_z}
use mir.Syntax.{w32}
use mir.Val.{to_z, of_z, SFits}
use mir.Facts.{to_z-of_z}
use borrow.Author.Tests.{le-ltb, lt-ltb, le-leb, lt-leb, leb-true}
use Rattle.laws.specs.Tests.{choose, both}
use Rattle.laws.proofs.Tests.{lt-or-le}
use Rattle.laws.proofs.Joins.{and_both, both-false-right, both-under-right}
use Rattle.units.specs.Limits.{step_limit}
use Rattle.units.specs.declared.Steps.{Steps}
use Rattle.units.specs.declared.position.Position.{Position}
use Rattle.units.specs.Bits.{bits_of}
use Rattle.units.proofs.Limits.{between-within-bits}
use Rattle.frequency.specs.declared.Frequency.{Frequency}
use Rattle.frequency.specs.Places.{hertz_of}
use Rattle.frequency.proofs.Placing.{hertz-range, hertz-past}
use Rattle.fields.specs.Names.{listed, list_of}
use Rattle.fields.specs.Kinds.{valid_signed, valid}
use Rattle.fields.specs.declared.kinds.Kind.{Kind}
use Rattle.fields.specs.declared.kinds.Kind.TheVariants.{Count, Sign, Multiplier, Name}
use Rattle.fields.specs.declared.names.Names.TheVariants.{Settable, Conditions}
use Rattle.format.specs.Formats.{hertz, steps, count, position, bit}
use Rattle.instruction.specs.Numbers.{bit_of}
use Rattle.instruction.specs.Soundness.{steps_within}

-- ---- a bit

-- s, XX, V and S: a bit is admitted by each kind that admits 0 and 1
valid-bit : (k : Kind) (b : Bool) → valid k 0 ≡ true → valid k 1 ≡ true → valid k (bit_of b) ≡ true
valid-bit k true p q = q
valid-bit k false p q = p

pub valid-sign : (b : Bool) → valid Sign (bit_of b) ≡ true
unfolding valid
valid-sign b = valid-bit Sign b refl refl

pub valid-multiplier : (b : Bool) → valid Multiplier (bit_of b) ≡ true
unfolding valid
valid-multiplier b = valid-bit Multiplier b refl refl

pub valid-value : (b : Bool) → valid bit (bit_of b) ≡ true
unfolding valid both
valid-value b = valid-bit bit b refl refl

-- ---- a frequency

-- 01: "599 numbers from 1 to 4800": each place of the table is admitted, and none past it
pub places-valid : (f : Frequency) → ltb f.0 599 ≡ valid hertz (hertz_of f)
unfolding valid both
places-valid f = ⊎_elim inside past (lt-or-le f.0 599)
  where
    inside : f.0 < 599 → ltb f.0 599 ≡ valid hertz (hertz_of f)
    inside h = let r = hertz-range f h in simp (le-leb 1 (hertz_of f) r.0, le-leb (hertz_of f) 4800 r.1, lt-ltb f.0 599 h)

    past : 599 ≤ f.0 → ltb f.0 599 ≡ valid hertz (hertz_of f)
    past h = simp (hertz-past f h, le-ltb f.0 599 h)

-- ---- a name, by its place in its list

pub settable-valid : (v : ℕ) → ltb v 13 ≡ valid (Name Settable) v
unfolding valid list_of listed
settable-valid v = refl

pub condition-valid : (v : ℕ) → ltb v 16 ≡ valid (Name Conditions) v
unfolding valid list_of listed
condition-valid v = refl

-- ---- a count

pub count-valid : (low high v : ℕ) → leb low v && leb v high ≡ valid (Count low high) v
unfolding valid
count-valid low high v = and_both _ _

-- from 0 on
pub upto-valid : (high v : ℕ) → leb v high ≡ valid (Count 0 high) v
unfolding valid both
upto-valid high v = simp (leb-zero v)

-- ---- steps

-- 01: "n is ±nnn within 8,388,607 each way": the 32 bits of such steps are admitted
pub valid-steps : (n : Steps) → steps_within n ≡ true → valid steps (bits_of n) ≡ true
unfolding steps_within valid valid_signed both choose
valid-steps n t = go n.0 (leb-true _ _ t)
  where
    go : (z : ℤ) → nat_abs z ≤ step_limit → valid steps (of_z w32 z) ≡ true
    go (pos n) h = simp (lt-ltb n (2 ^ 32) (omega arith), lt-ltb n (2 ^ 31) (omega arith), le-leb n step_limit h)
    go (negsuc n) h =
        let b : 2 ^ 32 - (2 ^ 32 - suc n) ≤ step_limit = omega arith in
        simp (lt-ltb (2 ^ 32 - suc n) (2 ^ 32) (omega arith), le-ltb (2 ^ 32 - suc n) (2 ^ 31) (omega arith), le-leb _ _ b)

counted : (z : ℤ) → le_z (pos 0) z && le_z z (pos step_limit) ≡ both (valid count (of_z w32 z)) (leb (nat_abs z) step_limit)
unfolding valid both
counted (pos n) = simp (leb-zero n) (sym (both-under-right (leb n step_limit) (λ e. e)))
counted (negsuc n) = sym (both-under-right (leb (suc n) step_limit) far)
  where
    far : leb (suc n) step_limit ≡ true → both (leb 0 (2 ^ 32 - suc n)) (leb (2 ^ 32 - suc n) step_limit) ≡ false
    far t =
        simp (lt-leb (2 ^ 32 - suc n) step_limit (omega (arith, leb-true (suc n) step_limit t)))
        (both-false-right (leb 0 (2 ^ 32 - suc n)) false refl)

-- steps that were read back from their bits, within the limit either way
pub within-bits : (n : Steps) → SFits w32 n.0 →
    le_z (neg_ℤ (pos step_limit)) (to_z w32 (bits_of n)) && le_z (to_z w32 (bits_of n)) (pos step_limit) ≡ steps_within n
unfolding steps_within
within-bits n s = between-within-bits step_limit n.0 s

-- the same from 0 to the limit
pub counted-bits : (n : Steps) → SFits w32 n.0 →
    le_z (pos 0) (to_z w32 (bits_of n)) && le_z (to_z w32 (bits_of n)) (pos step_limit)
    ≡ both (valid count (bits_of n)) (steps_within n)
unfolding steps_within
counted-bits n s = rw (to_z-of_z s) (counted n.0)

-- ---- a position

-- every position is admitted
pub valid-position : (p : Position) → p.0 < 2 ^ 32 → valid position p.0 ≡ true
unfolding valid valid_signed both choose
valid-position p h = ⊎_elim low high (lt-or-le p.0 (2 ^ 31))
  where
    low : p.0 < 2 ^ 31 → valid position p.0 ≡ true
    low l = simp (lt-ltb p.0 (2 ^ 32) h, lt-ltb p.0 (2 ^ 31) l, le-leb p.0 2147483647 (omega arith))

    high : 2 ^ 31 ≤ p.0 → valid position p.0 ≡ true
    high l = simp (lt-ltb p.0 (2 ^ 32) h, le-ltb p.0 (2 ^ 31) l, le-leb (2 ^ 32 - p.0) 2147483648 (omega arith))
