-- What is stored of numbers that their fields admit: a sound cell of that code.
-- Assumes nothing.
use Prim.Native.Nat.{ℕ, zero, suc, ◌<◌}
use native.Mathlib.Omega.{arith}
use mathlib.Core.Path.{◌≡◌, refl, subst}
use mathlib.Core.Bool.{Bool, true, false}
use mathlib.Core.List.{List}
use lib.Dec.{eqb}
use lib.ListN.{get_or}
use borrow.Author.Tests.{eqb-true}
use Rattle.laws.specs.Tests.{choose, both, either}
use Rattle.laws.specs.Tables.{every}
use Rattle.laws.proofs.Tests.{both_right, both_true, choose-by}
use Rattle.fields.specs.Names.{listed, list_of}
use Rattle.fields.specs.Kinds.{valid, valid_signed}
use Rattle.fields.specs.Rows.{all_valid}
use Rattle.fields.specs.declared.kinds.Kind.TheVariants.{Next}
use Rattle.instruction.specs.Codes.{code_of}
use Rattle.format.specs.Formats.{Entry, position, formats, fields_in, fields_of, known}
use Rattle.instruction.specs.Numbers.{six, numbers_with, byte_of, is_one, with_next, cam_of, cell_with, cell_of}
use Rattle.instruction.specs.Soundness.{canonical, cell_sound}
use Rattle.instruction.specs.declared.Instruction.{Instruction}
use Rattle.instruction.specs.declared.Instruction.TheVariants.{Null, IndexedRamp, IndexedRampFine, FreeRamp, FreeRampFine, Indexed, IndexedFine, Free, FreeFine, ZeroSearch, DelayedStop, CamSetting, OutputSetting, CounterReset, OpeningLoop, ClosingLoop, ConditionalJump, TimeDelay, Recovery, CurrentSetting}
use Rattle.format.proofs.Entries.{formats-few, known_by}
use Rattle.instruction.proofs.Values.{byte, word, bit, bits, greatest, wide_at, Admitted, admitted, Kept, kept, backward-travel, x4-travel, within-steps, within_count, hertz-place-valid, valid_same}

code-cam : (v : Bool) (p : ℕ) → code_of (cam_of v p) ≡ 57
unfolding cam_of code_of
code-cam v p = choose-by (λ (i : Instruction). code_of i ≡ 57) v (λ u. refl) (λ u. refl)

-- the code of what is stored, as one test over the table
same_code : List ℕ → ℕ → Bool
same_code vs code = eqb (code_of (cell_of code vs).instruction) code

codes_same : (vs : List ℕ) → every (λ (e : Entry). same_code vs e.code) formats ≡ true
unfolding same_code every both cell_of cell_with choose code_of
codes_same vs = rw (code-cam (is_one (get_or vs 0 0)) (get_or vs 1 0))

pub code-cell : (code : ℕ) (vs : List ℕ) → known code ≡ true → code_of (cell_of code vs).instruction ≡ code
unfolding same_code
code-cell code vs h = eqb-true _ code (known_by (same_code vs) code (codes_same vs) h)

-- 01, of the 57: "stored +0 for V=0"
stored-cam : (v : Bool) (b c : ℕ) → valid position b ≡ true → both (valid Next (byte_of c)) true ≡ true →
    cell_sound (with_next (cam_of v b) c) ≡ true
unfolding cam_of choose cell_sound fields_of fields_in code_of numbers_with canonical either all_valid valid valid_signed both
stored-cam true b c p n = both_true (both_true p n) refl
stored-cam false b c p n = both_true n refl

-- six numbers that the fields of an instruction's code admit make a sound cell
stored : (i : Instruction) (a b c d e f : ℕ) → all_valid (fields_of (code_of i)) (six a b c d e f) ≡ true →
    Admitted (fields_of (code_of i)) (six a b c d e f) → Kept (fields_of (code_of i)) (six a b c d e f) → cell_sound (cell_with (code_of i) a b c d e f) ≡ true
unfolding fields_of fields_in choose cell_with cell_sound code_of numbers_with canonical all_valid Admitted Kept wide_at greatest list_of listed
stored (IndexedRamp _ _ _ _) a b c d e f t v k =
    both_true (simp (k byte 0 refl, k byte 1 refl, k bits 2 refl, k bit 3 refl, k byte 4 refl) t) (within-steps c (v 2 refl))
stored (IndexedRampFine _ _ _ _) a b c d e f t v k =
    both_true (simp (k byte 0 refl, k byte 1 refl, k bits 2 refl, k bit 3 refl, k byte 4 refl) t) (within-steps c (v 2 refl))
stored (FreeRamp _ _ _ _) a b c d e f t v k =
    both_true (simp (k byte 0 refl, k byte 1 refl, k bit 2 refl, k bit 3 refl, k byte 4 refl) t) refl
stored (FreeRampFine _ _ _ _) a b c d e f t v k =
    both_true (simp (k byte 0 refl, k byte 1 refl, k bit 2 refl, k bit 3 refl, k byte 4 refl) t) refl
stored (Indexed _ _ _) a b c d e f t v k =
    both_true (simp (k byte 0 refl, k bits 1 refl, k bit 2 refl, k byte 3 refl) t) (within-steps b (v 1 refl))
stored (IndexedFine _ _ _) a b c d e f t v k =
    both_true (both_true (hertz-place-valid a (v 0 refl)) (simp (k bits 1 refl, k bit 2 refl, k byte 3 refl) (both_right _ _ t)))
    (within-steps b (v 1 refl))
stored (Free _ _ _) a b c d e f t v k =
    both_true (simp (k byte 0 refl, k bit 1 refl, k bit 2 refl, k byte 3 refl) t) refl
stored (FreeFine _ _ _) a b c d e f t v k =
    both_true (both_true (hertz-place-valid a (v 0 refl)) (simp (k bit 1 refl, k bit 2 refl, k byte 3 refl) (both_right _ _ t))) refl
stored (ZeroSearch _ _ _ _) a b c d e f t v k =
    both_true (simp (k byte 0 refl, k byte 1 refl, k bit 2 refl, k byte 3 refl, k byte 4 refl) t) refl
stored (DelayedStop _ _ _ _) a b c d e f t v k =
    both_true (simp (k byte 0 refl, k byte 1 refl, backward-travel, k bit 2 refl, k bits 3 refl, x4-travel, k bit 4 refl, k byte 5 refl) t)
    (within_count d (v 3 refl))
stored (CamSetting _ _) a b c d e f t v k =
    stored-cam (is_one a) b c (v 1 refl) (simp (k byte 2 refl) (both_right _ _ (both_right _ _ t)))
stored (OutputSetting _ _) a b c d e f t v k = both_true (simp (k byte 0 refl, k bit 1 refl, k byte 2 refl) t) refl
stored CounterReset a b c d e f t v k = both_true (simp (k byte 0 refl) t) refl
stored (OpeningLoop _) a b c d e f t v k = both_true (simp (k word 0 refl, k byte 1 refl) t) refl
stored (ClosingLoop _) a b c d e f t v k = both_true (simp (k byte 0 refl, k byte 1 refl) t) refl
stored (ConditionalJump _ _ _) a b c d e f t v k = both_true (simp (k byte 0 refl, k bit 1 refl, k byte 2 refl, k byte 3 refl) t) refl
stored (TimeDelay _) a b c d e f t v k = both_true (simp (k byte 1 refl) t) refl
stored (CurrentSetting _) a b c d e f t v k = both_true (simp (k bit 0 refl, k byte 1 refl) t) refl
stored Null a b c d e f t v k = both_true (simp (k byte 0 refl) t) refl
stored Recovery a b c d e f t v k = both_true refl refl

-- the six numbers that a cell is made of
get_d-six : (vs : List ℕ) (i : ℕ) → i < 6 →
    get_or vs i 0 ≡ get_or (six (get_or vs 0 0) (get_or vs 1 0) (get_or vs 2 0) (get_or vs 3 0) (get_or vs 4 0) (get_or vs 5 0)) i 0
get_d-six vs zero h = refl
get_d-six vs (suc zero) h = refl
get_d-six vs (suc (suc zero)) h = refl
get_d-six vs (suc (suc (suc zero))) h = refl
get_d-six vs (suc (suc (suc (suc zero)))) h = refl
get_d-six vs (suc (suc (suc (suc (suc zero))))) h = refl
get_d-six vs (suc (suc (suc (suc (suc (suc i)))))) h = absurd (omega arith)

-- a known code and numbers that its fields admit make a sound cell
pub sound-cell : (code : ℕ) (vs : List ℕ) → known code ≡ true → all_valid (fields_of code) vs ≡ true → cell_sound (cell_of code vs) ≡ true
unfolding cell_of
sound-cell code vs h t =
    subst (λ (n : ℕ). all_valid (fields_of n) ws ≡ true → cell_sound (cell_of n vs) ≡ true) (code-cell code vs h) of
    (valid_same (fields_of code) vs ws (formats-few code) (λ i l. get_d-six vs i (omega (arith, formats-few code))) t)
  where
    ws : List ℕ
    ws = six (get_or vs 0 0) (get_or vs 1 0) (get_or vs 2 0) (get_or vs 3 0) (get_or vs 4 0) (get_or vs 5 0)

    of : all_valid (fields_of (code_of (cell_of code vs).instruction)) ws ≡ true → cell_sound (cell_of (code_of (cell_of code vs).instruction) vs) ≡ true
    of u = stored (cell_of code vs).instruction _ _ _ _ _ _ u (admitted _ ws u) (kept _ ws u)
