-- 02, Slip 1: what images keep and which bytes are images, proved.
-- Assumes nothing.
use Prim.Native.Nat.{ℕ, ◌≤◌}
use native.Mathlib.Omega.{arith}
use mathlib.Core.Path.{◌≡◌, refl, ap, ap₂, sym, ◌∙◌, subst}
use mathlib.Core.Bool.{true}
use mathlib.Core.Logic.{◌⊎◌, inl, inr}
use mathlib.Core.List.{List, ◌++◌}
use lib.Dec.{ltb}
use lib.ListN.{length, take, drop, replicate}
use lib.Seq.{length-take-le, take-append_seam, take-append-le, take_all}
use borrow.Author.Tests.{le-ltb}
use Rattle.laws.proofs.Tests.{both_left, choose-by, choose-true, choose-false}
use Rattle.format.specs.Formats.{codes}
use Rattle.instruction.specs.declared.Cell.{Cell}
use Rattle.packed.specs.Rows.{row_bytes, read_row}
use Rattle.packed.specs.Cells.{cells_bytes, ReadCells}
use Rattle.packed.specs.declared.rows.Row.{Row}
use Rattle.std.specs.Prelude.{Option, Some, None, Result, Ok}
use Rattle.machine.specs.Record.{null_cell}
use Rattle.machine.specs.Soundness.{state_sound, sound}
use Rattle.machine.specs.Operations.{filled, Made}
use Rattle.machine.specs.Operations.Made.{Drive}
use Rattle.machine.specs.Images.{preset_kinds, preset_numbers, image_of, written_into, buffer_by, buffer_written, fresh_with, not_loaded, holds_presets, loaded_with, loaded_after, loaded_by, loaded_of}
use Rattle.machine.specs.Invariant.{Kept}
use Rattle.machine.specs.MemoryImages.{restored, SameMemory, Makes, MemoryImages}
use Rattle.machine.specs.declared.Presets.{Presets}
use Rattle.machine.specs.declared.Machine.{Machine}
use Rattle.machine.proofs.Images.{bytes_back, loaded-restores}
use Rattle.machine.proofs.Invariant.{Good, kept-good, good-kept, good-sound, restored-good}
use Rattle.machine.proofs.Members.{every_take}

-- ---- what the writer makes

-- a sound drive, and a buffer that has room
pub record Fits (m : Machine) (buffer : List ℕ) (n : ℕ) : Type 0 where
  pub sound : sound m ≡ true
  pub count : n ≡ length (image_of m)

written-fits : (m : Machine) (buffer : List ℕ) (n : ℕ) → written_into buffer m ≡ Ok n → Fits m buffer n
unfolding written_into
written-fits m buffer n e =
    choose-by (λ (x : Result ℕ ℕ). x ≡ Ok n → Fits m buffer n) (sound m)
    (λ t. choose-by (λ (x : Result ℕ ℕ). x ≡ Ok n → Fits m buffer n) (ltb (length buffer) (length (image_of m)))
    (λ u v. let z : ◌≡◌ {A = ℕ} 0 1 = cc in absurd (omega arith))
    (λ u v. let same : n ≡ length (image_of m) = cc in record { sound = t; count = same }))
    (λ t v. let z : ◌≡◌ {A = ℕ} 0 1 = cc in absurd (omega arith)) e

fits-written : (m : Machine) → sound m ≡ true → (buffer : List ℕ) → length (image_of m) ≤ length buffer → written_into buffer m ≡ Ok (length (image_of m))
unfolding written_into
fits-written m t buffer h = choose-true _ _ _ t ∙ choose-false _ _ _ (le-ltb (length buffer) (length (image_of m)) h)

-- the bytes told of are the image
image-bytes : (m : Machine) (buffer : List ℕ) (n : ℕ) → written_into buffer m ≡ Ok n → take n (buffer_written buffer m) ≡ image_of m
unfolding buffer_written buffer_by filled
image-bytes m buffer n e =
    ap (λ (w : Result ℕ ℕ). take n (buffer_by buffer m w)) e
    ∙ ap (λ (k : ℕ). take k (filled (image_of m) buffer)) (written-fits m buffer n e).count
    ∙ take-append_seam (image_of m) (drop (length (image_of m)) buffer)

makes-image : (m : Machine) (s : List ℕ) → Makes m s → image_of m ≡ s
makes-image m s p = sym (image-bytes m p.buffer p.count p.written) ∙ p.bytes

image-makes : (m : Machine) → sound m ≡ true → Makes m (image_of m)
image-makes m t =
    let e = fits-written m t (image_of m) (omega arith) in
    record { buffer = image_of m; count = length (image_of m); written = e; bytes = image-bytes m (image_of m) _ e }

-- ---- written, then read

image-back : (m : Machine) → Good m → loaded_of (image_of m) ≡ Drive (restored m)
unfolding image_of state_sound
image-back m g =
    bytes_back m.state.presets (take 128 m.cells) (both_left _ _ g.state) (length-take-le 128 m.cells (omega (arith, g.count)))
    (every_take _ 128 m.cells g.cells)

-- ---- equal bytes

front-cells : (m : Machine) → Good m → take 128 (restored m).cells ≡ take 128 m.cells
unfolding fresh_with
front-cells m g =
    let long = length-take-le 128 m.cells (omega (arith, g.count)) in
    take-append-le 128 (take 128 m.cells) (replicate 3 null_cell) (omega (arith, long)) ∙ take_all 128 (take 128 m.cells) (omega (arith, long))

bytes_same : (m n : Machine) → Good m → Good n → image_of m ≡ image_of n → SameMemory m n
unfolding fresh_with
bytes_same m n g h e =
    let d : Drive (restored m) ≡ Drive (restored n) = sym (image-back m g) ∙ ap loaded_of e ∙ image-back n h in
    let r : restored m ≡ restored n = cc in
    record {
      presets = ap (λ (x : Machine). x.state.presets) r;
      cells = sym (front-cells m g) ∙ ap (λ (x : Machine). take 128 x.cells) r ∙ front-cells n h;
    }

same_bytes : (m n : Machine) → SameMemory m n → image_of m ≡ image_of n
unfolding image_of
same_bytes m n e =
    ap₂ (λ (p : Presets) (cs : List Cell). row_bytes preset_kinds (preset_numbers p) ++ cells_bytes cs) e.presets e.cells

-- ---- which bytes are images

-- reading gives 10 or a drive
abbrev pub Either : Made → Type 0
Either x = (x ≡ not_loaded) ⊎ ((m : Machine) × (x ≡ Drive m))

cells-either : (s : List ℕ) (p : Presets) (r : ReadCells) → Either (loaded_with sound s p r)
unfolding loaded_with
cells-either s p None = inl refl
cells-either s p (Some (cells, at)) = choose-by Either _ (λ t. inr (fresh_with p cells, refl)) (λ t. inl refl)

pub loaded-either : (s : List ℕ) → Either (loaded_of s)
unfolding loaded_by loaded_after
loaded-either s = by (read_row preset_kinds s 0)
  where
    by : (r : Option Row) → Either (loaded_after codes sound s r)
    by None = inl refl
    by (Some r) = choose-by Either (holds_presets r.values) (λ t. cells-either s _ _) (λ t. inl refl)

loaded-image : (s : List ℕ) (m : Machine) → loaded_of s ≡ Drive m → image_of m ≡ s
unfolding image_of fresh_with
loaded-image s m e =
    let r = loaded-restores s m e in
    let cs = r.cells in
    ap image_of (sym r.filled)
    ∙ ap (λ (k : ℕ). row_bytes preset_kinds (preset_numbers r.presets) ++ cells_bytes (take k (cs ++ replicate 3 null_cell))) (sym r.count)
    ∙ ap (λ (l : List Cell). row_bytes preset_kinds (preset_numbers r.presets) ++ cells_bytes l) (take-append_seam cs (replicate 3 null_cell))
    ∙ r.bytes

pub read_again : (s : List ℕ) (m : Machine) → loaded_of s ≡ Drive m → Kept m × Makes m s
read_again s m e =
    let g = restored-good s m (loaded-restores s m e) in
    (good-kept m g, subst (Makes m) (loaded-image s m e) (image-makes m (good-sound m g)))

drive-refused : (s : List ℕ) (m : Machine) → loaded_of s ≡ not_loaded → Kept m → ¬ Makes m s
drive-refused s m e k p =
    let d = ap loaded_of (sym (makes-image m s p)) ∙ image-back m (kept-good m k) in
    let z : ◌≡◌ {A = ℕ} 0 1 = cc in omega arith

none-refused : (s : List ℕ) → ((m : Machine) → Kept m → ¬ Makes m s) → loaded_of s ≡ not_loaded
none-refused s none = by (loaded-either s)
  where
    by : Either (loaded_of s) → loaded_of s ≡ not_loaded
    by (inl e) = e
    by (inr d) = let r = read_again s d.0 d.1 in absurd (none d.0 r.0 r.1)

pub memory_images : MemoryImages
memory_images =
    record {
      back = λ m k s p. ap loaded_of (sym (makes-image m s p)) ∙ image-back m (kept-good m k);
      same = λ m n k j s t p q. (
        λ e. bytes_same m n (kept-good m k) (kept-good n j) (makes-image m s p ∙ e ∙ sym (makes-image n t q)),
        λ e. sym (makes-image m s p) ∙ same_bytes m n e ∙ makes-image n t q,
      );
      refused = λ s. (λ e m k. drive-refused s m e k, none-refused s);
      again = read_again;
      every = λ m k. fits-written m k.sound;
    }
