-- One turn of the walk as `follow` makes it: what each way through a turn comes to.
-- Assumes nothing.
use Prim.Native.Nat.{ℕ, ◌+◌, ◌<◌}
use native.Mathlib.Omega.{arith}
use mathlib.Core.Path.{◌≡◌, refl, sym, ap, ◌∙◌, subst}
use mathlib.Core.Bool.{Bool, true, false}
use mathlib.Core.List.{List}
use lib.IntN.{ℤ, ◌+ℤ◌}
use lib.ListN.{get_or}
use mir.Syntax.{w64}
use mir.Val.{to_z, of_z}
use Rattle.std.specs.Prelude.{Option, Some, None, Ok, Err}
use Rattle.laws.specs.Tables.{every}
use Rattle.fields.specs.Kinds.{valid}
use Rattle.fields.specs.declared.kinds.Kind.TheVariants.{Next}
use Rattle.units.specs.declared.CellAddress.{CellAddress}
use Rattle.cellmap.specs.Marks.{is_marked, marked}
use Rattle.instruction.specs.Adding.{sums, added_of}
use Rattle.instruction.specs.Soundness.{cell_sound}
use Rattle.instruction.specs.declared.Cell.{Cell}
use Rattle.instruction.specs.declared.adding.Sums.{Sums}
use Rattle.machine.specs.Record.{cell_at, null_cell}
use Rattle.totals.specs.Walk.{Totalled, sum_of, rows_of, place_of, followed}
use Rattle.totals.specs.Room.{Room}
use Rattle.totals.proofs.Fitting.{Onward, cells_fit, onward, carried}
use Rattle.totals.proofs.Walking.{next_place, at-end, at_again, at_other, at-going}

module _ (cells : List Cell) {a : CellAddress} {met : List Bool} {s : Sums} (l : valid Next a.0 ≡ true) (o : Room met s) where
  pub under-ended : a.0 ≡ 0 → ◌≡◌ {A = Totalled} (Ok s) (followed (rows_of cells) a met s)
  under-ended e = at-end (rows_of cells) a met s e

  module _ {k : ℕ} (e : k ≡ place_of a) (n : a.0 ≡ 0 → ⊥) where
    pub under-place : k < 131
    under-place = next_place a l n e

    pub under-again : is_marked met k ≡ true → ◌≡◌ {A = Totalled} (Err 12) (followed (rows_of cells) a met s)
    under-again m = at_again (rows_of cells) a met s n (ap (is_marked met) (sym e) ∙ m)

    -- what is read of the cell
    read : {x y : Option Sums} → x ≡ added_of (get_or cells k null_cell).instruction → x ≡ y → added_of (cell_at cells a).instruction ≡ y
    unfolding cell_at
    read r q = ap (λ (k : ℕ). added_of (get_or cells k null_cell).instruction) (sym e) ∙ sym r ∙ q

    pub under_other :
        {x : Option Sums} → is_marked met k ≡ false → x ≡ added_of (get_or cells k null_cell).instruction → x ≡ None →
        ◌≡◌ {A = Totalled} (Err 13) (followed (rows_of cells) a met s)
    under_other m r q = at_other (rows_of cells) a met s n (ap (is_marked met) (sym e) ∙ m) (read r q)

    module _
        {x : Option Sums} {t : Sums} (f : every cell_sound cells ≡ true) (m : is_marked met k ≡ false)
        (r : x ≡ added_of (get_or cells k null_cell).instruction) (q : x ≡ Some t) where
      pub under_on : Onward met k s t
      under_on =
          subst (λ (k : ℕ). Onward met k s t) (sym e)
          (onward (rows_of cells) a met s t (next_place a l n refl) (cells_fit cells f) o (ap (is_marked met) (sym e) ∙ m) (read r q))

      -- the sums as the code makes them
      abbrev pub added : ℤ → Sums
      added z = sums (record { 0 = z }) (record { 0 = s.delay.0 + t.delay.0 })

      abbrev pub steps-made : ℤ
      steps-made = to_z w64 (of_z w64 (to_z w64 (of_z w64 s.steps.0) +ℤ to_z w64 (of_z w64 t.steps.0)))

      pub under-linked : valid Next (get_or cells k null_cell).next.0 ≡ true
      unfolding cell_at
      under-linked = subst (λ (k : ℕ). valid Next (get_or cells k null_cell).next.0 ≡ true) (sym e) (cells_fit cells f a).next

      pub under-room : Room (marked met k) (added steps-made)
      unfolding sum_of
      under-room =
          let w = under_on in
          let z = carried _ _ w.before w.steps w.sum in
          subst (λ (z : ℤ). Room (marked met k) (added z)) (sym z) w.room

      pub under-passed :
          followed (rows_of cells) (get_or cells k null_cell).next (marked met k) (added steps-made) ≡ followed (rows_of cells) a met s
      unfolding cell_at sum_of
      under-passed =
          let w = under_on in
          let z = carried _ _ w.before w.steps w.sum in
          let on : followed (rows_of cells) (cell_at cells a).next (marked met (place_of a)) (sum_of s t) ≡ followed (rows_of cells) a met s =
          at-going (rows_of cells) a met s t n (ap (is_marked met) (sym e) ∙ m) (read r q) (omega (arith, under-place, e, o.count)) in
          ap (λ (z : ℤ). followed (rows_of cells) (get_or cells k null_cell).next (marked met k) (added z)) z
          ∙ ap (λ (k : ℕ). followed (rows_of cells) (get_or cells k null_cell).next (marked met k) (sum_of s t)) e ∙ on
