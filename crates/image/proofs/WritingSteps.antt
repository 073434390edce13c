-- The presets' row by its outline, the room that an image needs, and what writing one comes to.
-- Assumes nothing.
use Prim.Native.Nat.{ℕ, ◌+◌, ◌≤◌, ◌<◌}
use native.Mathlib.Omega.{arith}
use mathlib.Core.Path.{◌≡◌, refl, ap, sym, ◌∙◌}
use mathlib.Core.Bool.{true, false}
use mathlib.Core.List.{List, ◌++◌}
use lib.ListN.{length, take, drop, length-append, length-take}
use lib.Seq.{length-sets, take-append_seam}
use borrow.Author.Tests.{lt-ltb, le-ltb}
use Rattle.laws.specs.Tests.{choose, both, same}
use Rattle.laws.specs.Writing.{Put}
use Rattle.laws.proofs.Tests.{choose-true, choose-false}
use Rattle.laws.proofs.Writing.{put-append, put_as, sets-front}
use Rattle.fields.specs.Kinds.{is_signed}
use Rattle.packed.specs.Rows.{row_bytes, read_row}
use Rattle.packed.specs.Layout.{laid, laid_read, Writable}
use Rattle.packed.specs.Cells.{cells_bytes}
use Rattle.packed.proofs.RoundTrip.{length-row}
use Rattle.packed.proofs.CellRoundTrip.{length-cells}
use Rattle.packed.proofs.Outlines.{agrees, agrees_from, laid-row, laid-read}
use Rattle.machine.specs.Soundness.{sound}
use Rattle.machine.specs.Commands.{preset_kind}
use Rattle.machine.specs.Operations.{filled}
use Rattle.machine.specs.Images.{preset_kinds, preset_numbers, image_of, written_into, buffer_by, buffer_written}
use Rattle.std.specs.Prelude.{Ok, Err}
use Rattle.machine.specs.declared.Presets.{Presets}
use Rattle.machine.specs.declared.Machine.{Machine}

-- ---- the presets' row: five numbers, none with a sign

presets-agree : agrees preset_kinds 6 ≡ true
unfolding agrees agrees_from same both is_signed preset_kind choose
presets-agree = refl

pub presets-laid : (p : Presets) → laid 5 6 (preset_numbers p) ≡ row_bytes preset_kinds (preset_numbers p)
unfolding preset_numbers
presets-laid p = sym (laid-row preset_kinds 6 (preset_numbers p) presets-agree (omega arith))

pub presets-read : (s : List ℕ) → laid_read 5 6 s 0 ≡ read_row preset_kinds s 0
presets-read s = sym (laid-read preset_kinds 6 s 0 presets-agree)

-- ---- room

-- five numbers and 128 cells, with at most five groups to a number
pub image-most : (m : Machine) → length (image_of m) ≤ 4608
unfolding image_of
image-most m =
    let p = row_bytes preset_kinds (preset_numbers m.state.presets) in
    let cs = take 128 m.cells in
    omega (
      arith,
      length-append p (cells_bytes cs),
      length-row preset_kinds (preset_numbers m.state.presets),
      length-cells cs,
      length-take 128 m.cells,
    )

module _ (m : Machine) (vs space : List ℕ) (v : vs ≡ preset_numbers m.state.presets) (room : length (image_of m) ≤ length space) where
  front : laid 5 6 vs ≡ row_bytes preset_kinds (preset_numbers m.state.presets)
  front = ap (laid 5 6) v ∙ presets-laid m.state.presets

  parts : laid 5 6 vs ++ cells_bytes (take 128 m.cells) ≡ image_of m
  unfolding image_of
  parts = ap (λ (x : List ℕ). x ++ cells_bytes (take 128 m.cells)) front

  lengths : length (laid 5 6 vs) + length (cells_bytes (take 128 m.cells)) ≡ length (image_of m)
  lengths = sym (length-append (laid 5 6 vs) (cells_bytes (take 128 m.cells))) ∙ ap length parts

  pub presets-writable : Writable 5 6 vs 0 space
  presets-writable = record { few = omega arith; room = omega (arith, lengths, room) }

  pub cells-writable : (space' : List ℕ) (at : ℕ) → Put space space' (laid 5 6 vs) 0 at → at + length (cells_bytes (take 128 m.cells)) ≤ length space'
  cells-writable space' at p =
      let k = ap length p.now ∙ length-sets space 0 (laid 5 6 vs) in
      omega (arith, lengths, room, k, p.next)

  pub image-put :
      (space' space'' : List ℕ) (at e : ℕ) → Put space space' (laid 5 6 vs) 0 at → Put space' space'' (cells_bytes (take 128 m.cells)) at e →
      Put space space'' (image_of m) 0 e
  image-put space' space'' at e p q = put_as parts (put-append p q)

-- ---- what writing comes to

pub written-unsound : (m : Machine) (buffer : List ℕ) → sound m ≡ false → written_into buffer m ≡ Err 2
unfolding written_into
written-unsound m buffer t = choose-false _ _ _ t

pub written-short : (m : Machine) (buffer : List ℕ) → sound m ≡ true → length buffer < length (image_of m) → written_into buffer m ≡ Err 9
unfolding written_into
written-short m buffer t h = choose-true _ _ _ t ∙ choose-true _ _ _ (lt-ltb (length buffer) (length (image_of m)) h)

pub written-whole :
    (m : Machine) (buffer : List ℕ) → sound m ≡ true → length (image_of m) ≤ length buffer → written_into buffer m ≡ Ok (length (image_of m))
unfolding written_into
written-whole m buffer t h = choose-true _ _ _ t ∙ choose-false _ _ _ (le-ltb (length buffer) (length (image_of m)) h)

pub buffer-refused : (m : Machine) (buffer : List ℕ) (k : ℕ) → written_into buffer m ≡ Err k → buffer ≡ buffer_written buffer m
unfolding buffer_written buffer_by
buffer-refused m buffer k e = sym (ap (buffer_by buffer m) e)

pub buffer-filled :
    (m : Machine) (buffer : List ℕ) (n : ℕ) → written_into buffer m ≡ Ok n → image_of m ++ drop (length (image_of m)) buffer ≡ buffer_written buffer m
unfolding buffer_written buffer_by filled
buffer-filled m buffer n e = sym (ap (buffer_by buffer m) e)

-- the front of the space is the image
pub image-front : (m : Machine) (space space' : List ℕ) (n : ℕ) → length (image_of m) ≤ length space → Put space space' (image_of m) 0 n → take n space' ≡ image_of m
image-front m space space' n h p =
    let e : n ≡ length (image_of m) = omega (arith, p.next) in
    ap (take n) (p.now ∙ sets-front space (image_of m) h)
    ∙ ap (λ (k : ℕ). take k (image_of m ++ drop (length (image_of m)) space)) e
    ∙ take-append_seam (image_of m) (drop (length (image_of m)) space)

-- the image was put into a space, n bytes long
module _ (m : Machine) (buffer space space' : List ℕ) (n : ℕ) (t : sound m ≡ true) (p : Put space space' (image_of m) 0 n) where
  pub put-short : length buffer < n → written_into buffer m ≡ Err 9
  put-short h = written-short m buffer t (omega (arith, p.next))

  pub put_whole : n ≤ length buffer → written_into buffer m ≡ Ok n
  put_whole h =
      let e : length (image_of m) ≡ n = omega (arith, p.next) in
      written-whole m buffer t (omega (arith, p.next)) ∙ ap Ok e

  -- and copied from there
  pub put-copied :
      (later : List ℕ) → length (image_of m) ≤ length space → n ≤ length buffer →
      later ≡ take n space' ++ drop (length (take n space')) buffer → later ≡ buffer_written buffer m
  put-copied later h r e =
      e ∙ ap (λ (x : List ℕ). x ++ drop (length x) buffer) (image-front m space space' n h p) ∙ buffer-filled m buffer n (put_whole r)
