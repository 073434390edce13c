-- Whether a cell holds its numbers whole: the test of each field, and the tests of each code's row.
-- Assumes nothing.
use Prim.Native.Nat.{ℕ, zero, suc, ◌^◌, ◌≤◌, ◌<◌}
use native.Mathlib.Omega.{arith}
use mathlib.Core.Path.{◌≡◌, refl, sym, ap, ◌∙◌}
use mathlib.Core.Bool.{Bool, true, false, ◌&&◌, ◌||◌}
use mathlib.Core.List.{List, [], ◌∷◌}
use mathlib.Core.Logic.{⊎_elim}
use lib.Dec.{eqb, ltb, lit<, eqb-zero-suc, eqb-suc-zero}
use lib.ListN.{length, get_or}
use borrow.Author.Tests.{eq-eqb, ne_eqb, lt-ltb, le-ltb}
use Rattle.laws.specs.Tests.{choose, either}
use Rattle.laws.proofs.Tests.{lt-or-le}
use Rattle.laws.proofs.Joins.{and_both, or-either, both-start, both_end, both-assoc}
use Rattle.laws.proofs.Telling.{Apart}
use Rattle.units.specs.Bits.{steps_of, bits_of}
use Rattle.frequency.specs.Places.{hertz_of, place_of}
use Rattle.instruction.specs.Numbers.{bit_of, is_one, byte_of, word_of, six, numbers_with, numbers_of, cam_of, cell_with, cell_of, same_numbers}
use Rattle.instruction.specs.declared.Cell.{Cell}
use Rattle.instruction.proofs.Values.{Holder, byte, word, bit, keeps-bits, backward-travel, x4-travel}
use Rattle.instruction.proofs.Numbering.{others, other-cell}

-- ---- single fields

-- a number comes back from a holder exactly if it lies below the bound
held_below : (h : Holder) → ((v : ℕ) → h.held v < h.below) → (v : ℕ) → eqb (h.held v) v ≡ ltb v h.below
held_below h g v = ⊎_elim below above (lt-or-le v h.below)
  where
    below : v < h.below → eqb (h.held v) v ≡ ltb v h.below
    below l = eq-eqb _ _ (h.keeps v l) ∙ sym (lt-ltb v h.below l)

    above : h.below ≤ v → eqb (h.held v) v ≡ ltb v h.below
    above l = ne_eqb _ _ (λ (e : h.held v ≡ v). omega (arith, g v)) ∙ sym (le-ltb v h.below l)

bit_below : (b : Bool) → bit_of b < 2
bit_below true = lit< tt
bit_below false = lit< tt

pub whole-byte : (v : ℕ) → eqb (byte_of v) v ≡ ltb v 256
whole-byte = held_below byte (λ v. omega arith)

pub whole_word : (v : ℕ) → eqb (word_of v) v ≡ ltb v 65536
whole_word = held_below word (λ v. omega arith)

pub whole-bit : (v : ℕ) → eqb (bit_of (is_one v)) v ≡ ltb v 2
whole-bit = held_below bit (λ v. bit_below (is_one v))

pub whole-bits : (v : ℕ) → v < 2 ^ 32 → eqb (bits_of (steps_of v)) v ≡ true
whole-bits v h = eq-eqb _ _ (keeps-bits v h)

pub whole-itself : (v : ℕ) → eqb v v ≡ true
whole-itself v = eq-eqb v v refl

pub whole-none : (v : ℕ) → eqb 0 v ≡ eqb v 0
whole-none zero = refl
whole-none (suc v) = eqb-zero-suc v ∙ sym (eqb-suc-zero v)

-- 57: a position is held for V=1, and +0 for V=0
pub cam-numbers : (v : Bool) (p d : ℕ) → numbers_with (cam_of v p) d ≡ six (bit_of v) (choose v p 0) d 0 0 0
unfolding cam_of choose numbers_with
cam-numbers true p d = refl
cam-numbers false p d = refl

pub whole-cam : (v : Bool) (p : ℕ) → eqb (choose v p 0) p ≡ either v (eqb p 0)
unfolding choose either
whole-cam true p = whole-itself p
whole-cam false p = whole-none p

-- ---- all six

pub six-list : (v : List ℕ) → length v ≡ 6 → six (get_or v 0 0) (get_or v 1 0) (get_or v 2 0) (get_or v 3 0) (get_or v 4 0) (get_or v 5 0) ≡ v
six-list [] n = absurd (omega arith)
six-list (a ∷ []) n = absurd (omega arith)
six-list (a ∷ b ∷ []) n = absurd (omega arith)
six-list (a ∷ b ∷ c ∷ []) n = absurd (omega arith)
six-list (a ∷ b ∷ c ∷ d ∷ []) n = absurd (omega arith)
six-list (a ∷ b ∷ c ∷ d ∷ e ∷ []) n = absurd (omega arith)
six-list (a ∷ b ∷ c ∷ d ∷ e ∷ f ∷ []) n = refl
six-list (a ∷ b ∷ c ∷ d ∷ e ∷ f ∷ g ∷ v) n = absurd (omega arith)

-- whether the cell of a code holds its numbers
unfoldable pub holds : ℕ → List ℕ → Bool
holds code v = same_numbers (numbers_of (cell_of code v)) v

-- what the rows open
opened : Unit {0}
unfolding holds same_numbers cell_of cell_with choose numbers_with
opened = tt

-- each field's test, and the tests joined one after the other
ruleset tests = (whole-byte, whole_word, whole-bit, whole-bits, whole-itself, whole-none, and_both, both-assoc, both-start, both_end)

-- the row of each code, as the code joins its tests
module _ (a b c d e f : ℕ) where
  pub row-01 : c < 2 ^ 32 → (((ltb a 256 && ltb b 256) && ltb d 2) && ltb e 256) && eqb f 0 ≡ holds 1 (six a b c d e f)
  unfolding opened
  row-01 h = simp tests

  pub row-31 : c < 2 ^ 32 → (((ltb a 256 && ltb b 256) && ltb d 2) && ltb e 256) && eqb f 0 ≡ holds 31 (six a b c d e f)
  unfolding opened
  row-31 h = row-01 h

  pub row-02 : ((((ltb a 256 && ltb b 256) && ltb c 2) && ltb d 2) && ltb e 256) && eqb f 0 ≡ holds 2 (six a b c d e f)
  unfolding opened
  row-02 = simp tests

  pub row-32 : ((((ltb a 256 && ltb b 256) && ltb c 2) && ltb d 2) && ltb e 256) && eqb f 0 ≡ holds 32 (six a b c d e f)
  unfolding opened
  row-32 = row-02

  pub row-11 : b < 2 ^ 32 → ((ltb a 256 && ltb c 2) && ltb d 256) && (eqb e 0 && eqb f 0) ≡ holds 11 (six a b c d e f)
  unfolding opened
  row-11 h = simp tests

  pub row-21 : b < 2 ^ 32 → {t : Bool} → t ≡ eqb (hertz_of (place_of a)) a →
      ((t && ltb c 2) && ltb d 256) && (eqb e 0 && eqb f 0) ≡ holds 21 (six a b c d e f)
  unfolding opened
  row-21 h p = simp (p, tests)

  pub row-12 : (((ltb a 256 && ltb b 2) && ltb c 2) && ltb d 256) && (eqb e 0 && eqb f 0) ≡ holds 12 (six a b c d e f)
  unfolding opened
  row-12 = simp tests

  pub row-22 : {t : Bool} → t ≡ eqb (hertz_of (place_of a)) a →
      (((t && ltb b 2) && ltb c 2) && ltb d 256) && (eqb e 0 && eqb f 0) ≡ holds 22 (six a b c d e f)
  unfolding opened
  row-22 p = simp (p, tests)

  pub row-03 : ((((ltb a 256 && ltb b 256) && ltb c 2) && ltb d 256) && ltb e 256) && eqb f 0 ≡ holds 3 (six a b c d e f)
  unfolding opened
  row-03 = simp tests

  pub row-05 : d < 2 ^ 32 → (((ltb a 256 && ltb b 256) && ltb c 2) && ltb e 2) && ltb f 256 ≡ holds 5 (six a b c d e f)
  unfolding opened
  row-05 h = simp (backward-travel, x4-travel, tests)

  pub row-57 : ((ltb a 2 && (eqb a 1 || eqb b 0)) && ltb c 256) && (eqb d 0 && (eqb e 0 && eqb f 0)) ≡ holds 57 (six a b c d e f)
  unfolding opened
  row-57 = simp (cam-numbers, whole-cam, or-either, tests)

  pub row-58 : ((ltb a 256 && ltb b 2) && ltb c 256) && (eqb d 0 && (eqb e 0 && eqb f 0)) ≡ holds 58 (six a b c d e f)
  unfolding opened
  row-58 = simp tests

  pub row-60 : ltb a 256 && (eqb b 0 && (eqb c 0 && (eqb d 0 && (eqb e 0 && eqb f 0)))) ≡ holds 60 (six a b c d e f)
  unfolding opened
  row-60 = simp tests

  pub row-61 : (ltb a 65536 && ltb b 256) && (eqb c 0 && (eqb d 0 && (eqb e 0 && eqb f 0))) ≡ holds 61 (six a b c d e f)
  unfolding opened
  row-61 = simp tests

  pub row-62 : (ltb a 256 && ltb b 256) && (eqb c 0 && (eqb d 0 && (eqb e 0 && eqb f 0))) ≡ holds 62 (six a b c d e f)
  unfolding opened
  row-62 = simp tests

  pub row-63 : (((ltb a 256 && ltb b 2) && ltb c 256) && ltb d 256) && (eqb e 0 && eqb f 0) ≡ holds 63 (six a b c d e f)
  unfolding opened
  row-63 = simp tests

  pub row-65 : ltb b 256 && (eqb c 0 && (eqb d 0 && (eqb e 0 && eqb f 0))) ≡ holds 65 (six a b c d e f)
  unfolding opened
  row-65 = simp tests

  pub row-70 : (ltb a 2 && ltb b 256) && (eqb c 0 && (eqb d 0 && (eqb e 0 && eqb f 0))) ≡ holds 70 (six a b c d e f)
  unfolding opened
  row-70 = simp tests

  pub row-69 : eqb a 0 && (eqb b 0 && (eqb c 0 && (eqb d 0 && (eqb e 0 && eqb f 0)))) ≡ holds 69 (six a b c d e f)
  unfolding opened
  row-69 = simp tests

  pub row_other : (code : ℕ) → Apart (Unit {0}) code others →
      ltb a 256 && (eqb b 0 && (eqb c 0 && (eqb d 0 && (eqb e 0 && eqb f 0)))) ≡ holds code (six a b c d e f)
  unfolding opened
  row_other code n = row-60 ∙ ap (λ (x : Cell). same_numbers (numbers_of x) (six a b c d e f)) (other-cell code (six a b c d e f) n)
