-- Each way through reading an image.
-- Assumes nothing.
use Prim.Native.Nat.{ℕ, ◌<◌}
use native.Mathlib.Omega.{arith}
use mathlib.Core.Path.{◌≡◌, refl, ap, sym, ◌∙◌}
use mathlib.Core.Bool.{Bool, true, false, not}
use mathlib.Core.Logic.{◌≢◌}
use mathlib.Core.List.{List, ◌++◌}
use lib.Dec.{eqb, ltb}
use lib.Pointwise.{pointwise}
use lib.ListN.{length, take, drop, replicate}
use borrow.Author.Tests.{eq-eqb, ne_eqb, ltb-true, lt-leb}
use Rattle.laws.specs.Tests.{choose, both}
use Rattle.laws.proofs.Tests.{both_true, choose-by, choose-true, choose-false}
use Rattle.laws.proofs.Joins.{both-false-left, both-false-right}
use Rattle.format.specs.Formats.{codes}
use Rattle.instruction.specs.Numbers.{same_numbers}
use Rattle.instruction.proofs.Numbering.{pointwise-same}
use Rattle.instruction.specs.declared.Cell.{Cell}
use Rattle.std.specs.Prelude.{Option, Some, None, Result, Ok, Err}
use Rattle.std.specs.Result.{result_ok}
use Rattle.std.proofs.lemmas.Option.{same_Some}
use Rattle.std.proofs.lemmas.List.{take-append-drop}
use Rattle.packed.specs.Layout.{laid_read}
use Rattle.packed.specs.Cells.{ReadCells, cells_from, cells_as}
use Rattle.packed.specs.declared.rows.Row.{Row}
use Rattle.packed.proofs.CellRoundTrip.{with_rest, cells-front}
use Rattle.machine.specs.Record.{null_cell, fresh, with_presets}
use Rattle.machine.specs.Soundness.{presets_sound, state_sound, sound}
use Rattle.units.specs.declared.DriveAddress.{DriveAddress}
use Rattle.machine.specs.Operations.{Made, made}
use Rattle.machine.specs.Operations.Made.{NotMade as not_made, Drive as a_drive}
use Rattle.machine.specs.Images.{preset_numbers, presets_from, image_cells, fresh_with, not_loaded, holds_presets, loaded_with, loaded_after, loaded_by, loaded_of}
use Rattle.machine.specs.declared.Presets.{Presets}
use Rattle.machine.specs.declared.Machine.{Machine}
use Rattle.operations.specs.Results.{number_of}
use Rattle.drive.specs.Results.{made_as, machine_of}
use Rattle.drive.specs.declared.Drive.{Drive}
use Rattle.drive.specs.declared.results.Refused.{Refused}
use Rattle.image.proofs.WritingSteps.{presets-read}

-- ---- the cells

cells-found :
    (s : List ℕ) (p : Presets) (cells : List Cell) (at : ℕ) →
    loaded_with sound s p (cells_as (Some at) cells) ≡ choose (both (eqb at (length s)) (sound (fresh_with p cells))) (a_drive (fresh_with p cells)) not_loaded
unfolding cells_as loaded_with
cells-found s p cells at = refl

-- a fresh drive, or that the address is none of a drive's
pub made_ok : (r : Result Drive Refused) (d : Drive) (a : DriveAddress) → machine_of r ≡ fresh a → Some d ≡ result_ok r → d.machine ≡ fresh a
unfolding machine_of
made_ok (Ok x) d a h e = ap (λ (y : Drive). y.machine) (same_Some d x e) ∙ h
made_ok (Err x) d a h e = absurd (cc)

made_err : (r : Result Drive Refused) (a : ℕ) → made_as r ≡ made a → None ≡ result_ok r → 47 < a
unfolding made_as made
made_err (Ok x) a h e = absurd (cc)
made_err (Err x) a h e =
    choose-by (λ (m : Made). not_made (number_of x.refusal) ≡ m → 47 < a) (ltb 47 a) (λ t g. ltb-true 47 a t) (λ t g. absurd (cc)) h

-- presets of an address above 47 are those of no sound drive
address-sound : (p : Presets) (cells : List Cell) → 47 < p.address.0 → sound (fresh_with p cells) ≡ false
unfolding sound state_sound presets_sound fresh_with
address-sound p cells h = both-false-right _ _ (both-false-left _ _ (both-false-left _ _ (lt-leb p.address.0 47 h)))

loaded_address : (s : List ℕ) (p : Presets) (r : ReadCells) → 47 < p.address.0 → loaded_with sound s p r ≡ not_loaded
unfolding loaded_with
loaded_address s p None h = refl
loaded_address s p (Some (cells, at)) h = choose-false _ _ _ (both-false-right _ _ (address-sound p cells h))

pub loaded-refused :
    (s : List ℕ) (p : Presets) (c : ReadCells) (r : Result Drive Refused) → made_as r ≡ made p.address.0 → None ≡ result_ok r →
    loaded_with sound s p c ≡ not_loaded
loaded-refused s p c r h e = loaded_address s p c (made_err r p.address.0 h e)

-- n is what came of reading into the first cells of a fresh drive m, which became `front`
module _ (s : List ℕ) (p : Presets) (from : ℕ) (m : Machine) (n : Option ℕ) (front : List Cell) (made : m ≡ fresh p.address)
    (read : cells_as n front ≡ cells_from codes (length (take 128 m.cells)) s from 0 (take 128 m.cells)) where
  -- all cells afterwards
  abbrev cells : List Cell
  cells = front ++ drop 128 m.cells

  -- what is to be handed back
  abbrev loaded : Made
  loaded = loaded_with sound s p (cells_from codes image_cells s from 0 (replicate 131 null_cell))

  -- the fresh drive with these presets and cells
  abbrev drive : Machine
  drive = record { state = with_presets m.state p; cells = cells }

  memory : m.cells ≡ replicate 131 null_cell
  unfolding fresh
  memory = ap (λ (x : Machine). x.cells) made

  all_read : cells_as n cells ≡ cells_from codes 128 s from 0 m.cells
  unfolding cells_as
  all_read =
      let kept : length (take 128 m.cells) ≡ 128 = rw memory refl in
      by n
      ∙ ap (with_rest (drop 128 m.cells)) (read ∙ ap (λ (k : ℕ). cells_from codes k s from 0 (take 128 m.cells)) kept)
      ∙ sym (cells-front 128 s from 0 (take 128 m.cells) (drop 128 m.cells) (omega (arith, kept)))
      ∙ ap (cells_from codes 128 s from 0) (take-append-drop 128 m.cells)
    where
      by : (o : Option ℕ) → cells_as o cells ≡ with_rest (drop 128 m.cells) (cells_as o front)
      by None = refl
      by (Some at) = refl

  by_read : loaded ≡ loaded_with sound s p (cells_as n cells)
  by_read =
      ap (λ (l : List Cell). loaded_with sound s p (cells_from codes 128 s from 0 l)) (sym memory) ∙ ap (loaded_with sound s p) (sym all_read)

  filled-fresh : drive ≡ fresh_with p cells
  unfolding fresh fresh_with
  filled-fresh = ap (λ (x : Machine). record { state = with_presets x.state p; cells = cells }) made

  found : (at : ℕ) → n ≡ Some at → loaded ≡ choose (both (eqb at (length s)) (sound (fresh_with p cells))) (a_drive (fresh_with p cells)) not_loaded
  found at e = by_read ∙ ap (λ (x : Option ℕ). loaded_with sound s p (cells_as x cells)) e ∙ cells-found s p cells at

  pub loaded-none : n ≡ None → loaded ≡ not_loaded
  unfolding cells_as loaded_with
  loaded-none e = by_read ∙ ap (λ (x : Option ℕ). loaded_with sound s p (cells_as x cells)) e

  pub loaded-longer : (at : ℕ) → n ≡ Some at → at ≢ length s → loaded ≡ not_loaded
  loaded-longer at e d = found at e ∙ choose-false _ _ _ (both-false-left _ _ (ne_eqb at (length s) d))

  pub loaded-unsound : (at : ℕ) → n ≡ Some at → sound drive ≡ false → loaded ≡ not_loaded
  loaded-unsound at e t = found at e ∙ choose-false _ _ _ (both-false-right _ _ (ap sound (sym filled-fresh) ∙ t))

  pub loaded-whole : (at : ℕ) → n ≡ Some at → at ≡ length s → sound drive ≡ true → loaded ≡ a_drive drive
  loaded-whole at e d t =
      found at e ∙ choose-true _ _ _ (both_true (eq-eqb at (length s) d) (ap sound (sym filled-fresh) ∙ t)) ∙ ap a_drive (sym filled-fresh)

-- ---- the presets

module _ (s : List ℕ) (n : Option Row) (read : n ≡ laid_read 5 6 s 0) where
  parsed : loaded_of s ≡ loaded_after codes sound s n
  unfolding loaded_by
  parsed = ap (loaded_after codes sound s) (sym (presets-read s) ∙ sym read)

  pub presets-none : n ≡ None → loaded_of s ≡ not_loaded
  unfolding loaded_after
  presets-none e = parsed ∙ ap (loaded_after codes sound s) e

  pub presets-other : (r : Row) → n ≡ Some r → same_numbers (preset_numbers (presets_from r.values)) r.values ≡ false → loaded_of s ≡ not_loaded
  unfolding loaded_after holds_presets
  presets-other r e t = parsed ∙ ap (loaded_after codes sound s) e ∙ choose-false _ _ _ t

  -- q, the presets of the numbers read, are what the cells go with
  pub presets-given :
      (r : Row) (q : Presets) → n ≡ Some r → q ≡ presets_from r.values → same_numbers (preset_numbers (presets_from r.values)) r.values ≡ true →
      loaded_with sound s q (cells_from codes image_cells s r.next 0 (replicate 131 null_cell)) ≡ loaded_of s
  unfolding loaded_after holds_presets
  presets-given r q e d t =
      ap (λ (x : Presets). loaded_with sound s x (cells_from codes image_cells s r.next 0 (replicate 131 null_cell))) d
      ∙ sym (parsed ∙ ap (loaded_after codes sound s) e ∙ choose-true _ _ _ t)

-- q are the presets of the numbers vs, ns are theirs, and r tells whether these differ
pub told_same :
    (vs ns : List ℕ) (q : Presets) (r b : Bool) → q ≡ presets_from vs → ns ≡ preset_numbers q → r ≡ not (pointwise eqb ns vs) → r ≡ b →
    same_numbers (preset_numbers (presets_from vs)) vs ≡ not b
told_same vs ns q r b d m e t =
    ap (λ (x : List ℕ). same_numbers x vs) (ap preset_numbers (sym d) ∙ sym m) ∙ sym (pointwise-same ns vs)
    ∙ sym (not_not (pointwise eqb ns vs)) ∙ ap not (sym e ∙ t)
  where
    not_not : (b : Bool) → not (not b) ≡ b
    not_not true = refl
    not_not false = refl
