-- 02, Slip 6: what an older gateway makes of images, proved.
-- Assumes nothing.
use Prim.Native.Nat.{ℕ}
use native.Mathlib.Omega.{arith}
use mathlib.Core.Path.{◌≡◌, refl, ap, ap₂, sym, ◌∙◌}
use mathlib.Core.Bool.{Bool, true, false, not}
use mathlib.Core.Logic.{inl, inr}
use mathlib.Core.List.{List, [], ◌∷◌, ◌++◌}
use lib.Dec.{eqb, leb, ltb}
use lib.ListN.{length, take, get_or, replicate}
use borrow.Author.Tests.{eqb-true, leb-true, leb-false, le-leb, lt-ltb, le-ltb}
use Rattle.laws.specs.Tests.{choose, both, either}
use Rattle.laws.specs.Tables.{every}
use Rattle.laws.proofs.Tests.{choose-by, choose-map}
use Rattle.laws.proofs.Joins.{both_end, both-false-right, both-assoc, both-comm}
use Rattle.fields.specs.Kinds.{valid}
use Rattle.fields.specs.Rows.{all_valid}
use Rattle.fields.specs.declared.kinds.Kind.TheVariants.{Next}
use Rattle.units.specs.Limits.{delay_limit, delay_limit_before}
use Rattle.format.specs.Formats.{delay, delay_before, fields_in, fields_of, formats_before, codes, codes_before}
use Rattle.format.proofs.Before.{others-before, wait-before, wait-now}
use Rattle.instruction.specs.Codes.{code_of}
use Rattle.instruction.specs.Numbers.{numbers_of}
use Rattle.instruction.specs.Soundness.{canonical, cell_sound_by, cell_sound}
use Rattle.instruction.specs.declared.Cell.{Cell}
use Rattle.instruction.proofs.Numbering.{length-numbers}
use Rattle.packed.specs.Rows.{read_row}
use Rattle.packed.specs.Cells.{ReadCells, cells_from}
use Rattle.packed.specs.declared.rows.Row.{Row}
use Rattle.std.specs.Prelude.{Option, Some, None}
use Rattle.packed.proofs.Before.{cells-before}
use Rattle.machine.specs.Record.{null_cell}
use Rattle.machine.specs.Soundness.{state_sound, sound}
use Rattle.machine.specs.Operations.{Made}
use Rattle.machine.specs.Operations.Made.{NotMade, Drive}
use Rattle.machine.specs.Images.{preset_kinds, presets_from, fresh_with, not_loaded, holds_presets, loaded_with, loaded_after, loaded_by, loaded_of, sound_before, loaded_before}
use Rattle.machine.specs.Invariant.{Kept}
use Rattle.machine.specs.MemoryImages.{restored, Makes}
use Rattle.machine.specs.LongerWaits.{is_longer_wait, has_longer_wait}
use Rattle.machine.specs.declared.Presets.{Presets}
use Rattle.machine.specs.declared.Machine.{Machine}
use Rattle.machine.proofs.Tests.{by-test}
use Rattle.machine.proofs.MemoryImages.{Either, memory_images}

-- ---- joins of tests

-- a test that another takes in, amid a join
narrowed : (p q w r c : Bool) → (q ≡ true → w ≡ true) → both (both (both p q) r) c ≡ both (both (both (both p w) r) c) q
unfolding both
narrowed p true w r c h = rw (h refl) (sym (both_end (both (both (both p true) r) c)))
narrowed p false w r c h = ap (λ (x : Bool). both (both x r) c) (both-false-right p false refl) ∙ sym (both-false-right (both (both (both p w) r) c) false refl)

-- two joins, one amid the other
moved : (a p b q : Bool) → both (both a p) (both b q) ≡ both (both a b) (both p q)
unfolding both
moved true true b q = refl
moved true false b q = sym (both-false-right b false refl)
moved false p b q = refl

apart : (a b : Bool) → both (not a) (not b) ≡ not (either a b)
unfolding both either
apart true b = refl
apart false b = refl

-- ---- a cell

not-above : (a v : ℕ) → not (ltb a v) ≡ leb v a
not-above a v =
    by-test (leb v a) (λ e. rw (e, le-ltb a v (leb-true v a e))) (λ e. rw (e, lt-ltb a v (leb-false v a e)))

-- of a 65
wait-row :
    (vs : List ℕ) (c : Bool) → length vs ≡ 6 →
    both (all_valid (delay_before ∷ Next ∷ []) vs) c ≡ both (both (all_valid (delay ∷ Next ∷ []) vs) c) (not (ltb delay_limit_before (get_or vs 0 0)))
unfolding all_valid valid
wait-row [] c h = absurd (omega (arith, h))
wait-row (v ∷ vs) c h =
    rw (not-above delay_limit_before v)
    (narrowed (leb 0 v) (leb v delay_limit_before) (leb v delay_limit) (all_valid (Next ∷ []) vs) c
    (λ e. le-leb v delay_limit (omega (arith, leb-true v delay_limit_before e))))

row_before :
    (code : ℕ) (vs : List ℕ) (c : Bool) → length vs ≡ 6 →
    both (all_valid (fields_in formats_before code) vs) c
    ≡ both (both (all_valid (fields_of code) vs) c) (not (both (eqb code 65) (ltb delay_limit_before (get_or vs 0 0))))
unfolding both
row_before code vs c h =
    by-test (eqb code 65) (λ e. rw (eqb-true code 65 e, wait-before, wait-now) (wait-row vs c h))
    (λ e. rw (e, others-before code e) (sym (both_end (both (all_valid (fields_of code) vs) c))))

-- what a cell may hold before is what it may hold now, and no longer wait
cell-before : (c : Cell) → cell_sound_by codes_before.fields c ≡ both (cell_sound c) (not (is_longer_wait c))
unfolding cell_sound is_longer_wait
cell-before c = row_before (code_of c.instruction) (numbers_of c) (canonical c.instruction c.next.0) (length-numbers c)

-- ---- a drive

cells-before-sound :
    (cs : List Cell) → every (cell_sound_by codes_before.fields) cs ≡ both (every cell_sound cs) (not (has_longer_wait cs))
unfolding every has_longer_wait
cells-before-sound [] = sym (both_end true)
cells-before-sound (c ∷ cs) =
    ap₂ both (cell-before c) (cells-before-sound cs)
    ∙ moved (cell_sound c) (not (is_longer_wait c)) (every cell_sound cs) (not (has_longer_wait cs))
    ∙ ap (both (both (cell_sound c) (every cell_sound cs))) (apart (is_longer_wait c) (has_longer_wait cs))

pub sound-before : (m : Machine) → sound_before m ≡ both (sound m) (not (has_longer_wait m.cells))
unfolding sound
sound-before m =
    ap (λ (x : Bool). both x (state_sound m.cells m.state)) (cells-before-sound m.cells)
    ∙ both-assoc _ _ _ ∙ ap (both (every cell_sound m.cells)) (both-comm _ _) ∙ sym (both-assoc _ _ _)

-- ---- images

-- what an older gateway makes of a drive that is read now
abbrev pub older : Made → Made
older (NotMade k) = NotMade k
older (Drive m) = choose (has_longer_wait m.cells) not_loaded (Drive m)

older-by : (a b l : Bool) (m : Machine) → has_longer_wait m.cells ≡ l →
    choose (both a (both b (not l))) (Drive m) not_loaded ≡ older (choose (both a b) (Drive m) not_loaded)
unfolding both choose
older-by true true true m e = rw e
older-by true true false m e = rw e
older-by true false l m e = refl
older-by false b l m e = refl

with-before :
    (s : List ℕ) (p : Presets) (r : ReadCells) → loaded_with sound_before s p r ≡ older (loaded_with sound s p r)
unfolding loaded_with
with-before s p None = refl
with-before s p (Some (cells, at)) =
    let m = fresh_with p cells in
    ap (λ (x : Bool). choose (both (eqb at (length s)) x) (Drive m) not_loaded) (sound-before m)
    ∙ older-by (eqb at (length s)) (sound m) (has_longer_wait m.cells) m refl

pub loaded-before : (s : List ℕ) → loaded_before s ≡ older (loaded_of s)
unfolding loaded_by loaded_after
loaded-before s = by (read_row preset_kinds s 0)
  where
    by : (r : Option Row) → loaded_after codes_before sound_before s r ≡ older (loaded_after codes sound s r)
    by None = refl
    by (Some p) =
        let holds = holds_presets p.values in
        let q = presets_from p.values in
        let fresh = replicate 131 null_cell in
        let now = cells_from codes 128 s p.next 0 fresh in
        ap (λ (r : ReadCells). choose holds (loaded_with sound_before s q r) not_loaded) (cells-before 128 s p.next 0 fresh)
        ∙ ap (λ (x : Made). choose holds x not_loaded) (with-before s q now)
        ∙ sym (choose-map older holds (loaded_with sound s q now) not_loaded)

-- ---- what each of the two takes

pub taken-now : (s : List ℕ) (m : Machine) → loaded_before s ≡ Drive m → Either (loaded_of s) → loaded_of s ≡ Drive m
taken-now s m e (inl n) =
    let d : Drive m ≡ not_loaded = sym e ∙ loaded-before s ∙ ap older n in
    let z : ◌≡◌ {A = ℕ} 0 1 = cc in absurd (omega arith)
taken-now s m e (inr d) =
    choose-by (λ (x : Made). x ≡ Drive m → loaded_of s ≡ Drive m) (has_longer_wait d.0.cells)
    (λ t v. let z : ◌≡◌ {A = ℕ} 0 1 = cc in absurd (omega arith))
    (λ t v. d.1 ∙ v) (sym (ap older d.1) ∙ sym (loaded-before s) ∙ e)

-- three Null cells are no longer waits
null-waits : (cs : List Cell) → has_longer_wait (cs ++ replicate 3 null_cell) ≡ has_longer_wait cs
unfolding has_longer_wait is_longer_wait code_of both either
null-waits [] = refl
null-waits (c ∷ cs) = ap (either (is_longer_wait c)) (null-waits cs)

pub image-before :
    (m : Machine) → Kept m → (s : List ℕ) → Makes m s →
    loaded_before s ≡ choose (has_longer_wait (take 128 m.cells)) not_loaded (Drive (restored m))
unfolding fresh_with
image-before m k s p =
    loaded-before s ∙ ap older (memory_images.back m k s p)
    ∙ ap (λ (x : Bool). choose x not_loaded (Drive (restored m))) (null-waits (take 128 m.cells))
