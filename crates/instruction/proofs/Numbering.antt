-- A cell from its numbers: its code and its numbers say all of it. Lists of numbers, compared one by one.
-- Assumes nothing.
use Prim.Native.Nat.{ℕ}
use mathlib.Core.Path.{◌≡◌, refl, ap, sym, ◌∙◌}
use mathlib.Core.Bool.{Bool, true, false}
use mathlib.Core.List.{List, [], ◌∷◌}
use lib.Dec.{eqb}
use lib.Pointwise.{pointwise}
use lib.ListN.{length, get_or, take, replicate}
use lib.Seq.{sets, length-sets}
use borrow.Author.Tests.{eqb-true, eq-eqb}
use Rattle.laws.specs.Tests.{choose, both, either}
use Rattle.laws.proofs.Tests.{both_left, both_right, both_true}
use Rattle.laws.proofs.Joins.{and_both}
use Rattle.laws.proofs.Telling.{Apart, unequal-apart}
use Rattle.units.specs.declared.CellAddress.{CellAddress}
use Rattle.units.specs.declared.position.Position.{Position}
use Rattle.fields.specs.Names.{listed, list_of}
use Rattle.fields.specs.Rows.{all_valid}
use Rattle.instruction.specs.Codes.{code_of}
use Rattle.format.specs.Formats.{fields_in, fields_of, known_in, known}
use Rattle.instruction.specs.Numbers.{numbers_with, numbers_of, cam_of, with_next, cell_with, cell_of, same_numbers}
use Rattle.instruction.specs.Soundness.{canonical, cell_sound}
use Rattle.instruction.specs.declared.Instruction.{Instruction}
use Rattle.instruction.specs.declared.Instruction.TheVariants.{Null, IndexedRamp, IndexedRampFine, FreeRamp, FreeRampFine, Indexed, IndexedFine, Free, FreeFine, ZeroSearch, DelayedStop, CamSetting, OutputSetting, CounterReset, OpeningLoop, ClosingLoop, ConditionalJump, TimeDelay, Recovery, CurrentSetting}
use Rattle.instruction.specs.declared.Cell.{Cell}
use Rattle.instruction.proofs.Values.{byte, word, greatest, wide_at, Kept, kept, one_bit, travel-bits, steps-bits-within, place-hertz-valid}

-- the code is in the table, and the numbers past its row are zeros
shape : (i : Instruction) (d : ℕ) →
    (known (code_of i) ≡ true) × (numbers_with i d ≡ sets (replicate 6 0) 0 (take (length (fields_of (code_of i))) (numbers_with i d)))
unfolding known known_in either code_of fields_of fields_in choose numbers_with
shape (IndexedRamp f r x n) d = (refl, refl)
shape (IndexedRampFine f r x n) d = (refl, refl)
shape (FreeRamp f r s x) d = (refl, refl)
shape (FreeRampFine f r s x) d = (refl, refl)
shape (Indexed f x n) d = (refl, refl)
shape (IndexedFine x f n) d = (refl, refl)
shape (Free f s x) d = (refl, refl)
shape (FreeFine s x f) d = (refl, refl)
shape (ZeroSearch f r s l) d = (refl, refl)
shape (DelayedStop f r t n) d = (refl, refl)
shape (CamSetting v p) d = (refl, refl)
shape (OutputSetting o v) d = (refl, refl)
shape CounterReset d = (refl, refl)
shape (OpeningLoop n) d = (refl, refl)
shape (ClosingLoop e) d = (refl, refl)
shape (ConditionalJump i v e) d = (refl, refl)
shape (TimeDelay n) d = (refl, refl)
shape (CurrentSetting s) d = (refl, refl)
shape Null d = (refl, refl)
shape Recovery d = (refl, refl)

pub known-code : (i : Instruction) → known (code_of i) ≡ true
known-code i = (shape i 0).0

pub numbers-zeros : (c : Cell) → numbers_of c ≡ sets (replicate 6 0) 0 (take (length (fields_of (code_of c.instruction))) (numbers_of c))
numbers-zeros c = (shape c.instruction c.next.0).1

pub length-numbers : (c : Cell) → length (numbers_of c) ≡ 6
length-numbers c = ap length (numbers-zeros c) ∙ length-sets (replicate 6 0) 0 (take (length (fields_of (code_of c.instruction))) (numbers_of c))

-- 01, of the 57: "stored +0 for V=0"
cam-canonical : (v : Bool) (p : Position) → either v (eqb p.0 0) ≡ true → cam_of v p.0 ≡ CamSetting v p
unfolding cam_of choose either
cam-canonical true p t = refl
cam-canonical false p t = ap (λ (n : ℕ). CamSetting false (record { 0 = n })) (sym (eqb-true p.0 0 t))

-- one line for each instruction, in the order of the table
back : (i : Instruction) (d : CellAddress) → all_valid (fields_of (code_of i)) (numbers_with i d.0) ≡ true → canonical i d.0 ≡ true →
    Kept (fields_of (code_of i)) (numbers_with i d.0) →
    cell_of (code_of i) (numbers_with i d.0) ≡ record { instruction = i; next = d }
unfolding code_of fields_of fields_in choose numbers_with canonical cell_of cell_with Kept wide_at greatest all_valid list_of listed
back (IndexedRamp f r x n) d t w k = simp (k byte 0 refl, k byte 1 refl, one_bit x, steps-bits-within n w, k byte 4 refl)
back (IndexedRampFine f r x n) d t w k = simp (k byte 0 refl, k byte 1 refl, one_bit x, steps-bits-within n w, k byte 4 refl)
back (FreeRamp f r s x) d t w k = simp (k byte 0 refl, k byte 1 refl, one_bit s, one_bit x, k byte 4 refl)
back (FreeRampFine f r s x) d t w k = simp (k byte 0 refl, k byte 1 refl, one_bit s, one_bit x, k byte 4 refl)
back (Indexed f x n) d t w k = simp (k byte 0 refl, steps-bits-within n w, one_bit x, k byte 3 refl)
back (IndexedFine x f n) d t w k = simp (place-hertz-valid f (both_left _ _ t), steps-bits-within n w, one_bit x, k byte 3 refl)
back (Free f s x) d t w k = simp (k byte 0 refl, one_bit s, one_bit x, k byte 3 refl)
back (FreeFine s x f) d t w k = simp (place-hertz-valid f (both_left _ _ t), one_bit s, one_bit x, k byte 3 refl)
back (ZeroSearch f r s l) d t w k = simp (k byte 0 refl, k byte 1 refl, one_bit s, k byte 3 refl, k byte 4 refl)
back (DelayedStop f r u n) d t w k = simp (k byte 0 refl, k byte 1 refl, travel-bits u, steps-bits-within n w, k byte 5 refl)
back (CamSetting v p) d t w k = simp (one_bit v, cam-canonical v p w, k byte 2 refl)
back (OutputSetting o v) d t w k = simp (k byte 0 refl, one_bit v, k byte 2 refl)
back CounterReset d t w k = simp (k byte 0 refl)
back (OpeningLoop n) d t w k = simp (k word 0 refl, k byte 1 refl)
back (ClosingLoop e) d t w k = simp (k byte 0 refl, k byte 1 refl)
back (ConditionalJump i v e) d t w k = simp (k byte 0 refl, one_bit v, k byte 2 refl, k byte 3 refl)
back (TimeDelay n) d t w k = simp (k byte 1 refl)
back (CurrentSetting s) d t w k = simp (one_bit s, k byte 1 refl)
back Null d t w k = simp (k byte 0 refl)
back Recovery d t w k = ap (λ (n : ℕ). record { instruction = Recovery; next = record { 0 = n } }) (sym (eqb-true d.0 0 w))

-- a sound cell from its code and its numbers
pub cell-numbers : (c : Cell) → cell_sound c ≡ true → cell_of (code_of c.instruction) (numbers_of c) ≡ c
unfolding cell_sound
cell-numbers c s =
    let t = both_left _ _ s in
    back c.instruction c.next t (both_right _ _ s) (kept (fields_of (code_of c.instruction)) (numbers_of c) t)

-- two sound cells with one code and the same numbers are the same
pub same-cell : (c d : Cell) → cell_sound c ≡ true → cell_sound d ≡ true → code_of c.instruction ≡ code_of d.instruction →
    numbers_of c ≡ numbers_of d → c ≡ d
same-cell c d s t e f = sym (cell-numbers c s) ∙ ap (λ (n : ℕ). cell_of n (numbers_of c)) e ∙ ap (cell_of (code_of d.instruction)) f ∙ cell-numbers d t

-- ---- a code that is none of the others

-- the codes that are told apart
abbrev pub others : List ℕ
others = 1 ∷ 31 ∷ 2 ∷ 32 ∷ 11 ∷ 21 ∷ 12 ∷ 22 ∷ 3 ∷ 5 ∷ 57 ∷ 58 ∷ 60 ∷ 61 ∷ 62 ∷ 63 ∷ 65 ∷ 70 ∷ 69 ∷ []

pub other-cell : (code : ℕ) (v : List ℕ) → Apart (Unit {0}) code others → with_next Null (get_or v 0 0) ≡ cell_of code v
unfolding cell_of cell_with choose
other-cell code v n = let f = (unequal-apart (Unit {0}) code others n).1 in cc

-- ---- lists of numbers, compared

pub same-numbers : (l : List ℕ) → same_numbers l l ≡ true
unfolding same_numbers
same-numbers [] = refl
same-numbers (x ∷ l) = both_true (eq-eqb x x refl) (same-numbers l)

pub numbers-same : (k l : List ℕ) → same_numbers k l ≡ true → k ≡ l
unfolding same_numbers
numbers-same [] [] t = refl
numbers-same [] (y ∷ l) t = cc
numbers-same (x ∷ k) [] t = cc
numbers-same (x ∷ k) (y ∷ l) t =
    let e : x ≡ y = eqb-true x y (both_left _ _ t) in
    let m = numbers-same k l (both_right _ _ t) in
    cc

-- as `==` compares arrays
pub pointwise-same : (xs ys : List ℕ) → pointwise eqb xs ys ≡ same_numbers xs ys
unfolding same_numbers
pointwise-same [] [] = refl
pointwise-same [] (y ∷ ys) = refl
pointwise-same (x ∷ xs) [] = refl
pointwise-same (x ∷ xs) (y ∷ ys) = and_both _ _ ∙ ap (both (eqb x y)) (pointwise-same xs ys)
