-- The places of the memory: the cell at each, and the places that a sound drive names.
-- Assumes nothing.
use Prim.Native.Nat.{ℕ, zero, suc, ◌-◌, ◌≤◌, ◌<◌}
use native.Mathlib.Omega.{arith}
use mathlib.Core.Path.{◌≡◌, refl, sym, ap}
use mathlib.Core.Bool.{Bool, true, false}
use mathlib.Core.List.{List, [], ◌∷◌}
use mathlib.Core.Logic.{⊎_elim}
use lib.Dec.{eqb}
use lib.ListN.{get_or}
use Rattle.laws.specs.Tests.{choose, both, either}
use Rattle.laws.specs.Tables.{every}
use Rattle.laws.proofs.Tests.{both_left, both_right}
use Rattle.fields.specs.Kinds.{valid}
use Rattle.fields.specs.Rows.{all_valid}
use Rattle.fields.specs.declared.kinds.Kind.TheVariants.{Next}
use Rattle.fields.proofs.Bounds.{valid-next}
use Rattle.units.specs.declared.CellAddress.{CellAddress}
use Rattle.instruction.specs.Codes.{code_of}
use Rattle.format.specs.Formats.{fields_of, fields_in}
use Rattle.instruction.specs.Numbers.{numbers_with}
use Rattle.instruction.specs.Soundness.{canonical, cell_sound}
use Rattle.instruction.specs.declared.Cell.{Cell}
use Rattle.machine.specs.Record.{cell_at, null_cell}
use Rattle.machine.specs.Soundness.{is_cell, suspended_sound, busy_sound, running_sound, state_sound, sound}
use Rattle.machine.specs.Milliseconds.{present}
use Rattle.machine.specs.declared.Suspended.{Suspended}
use Rattle.machine.specs.declared.Running.{Running}
use Rattle.machine.specs.declared.State.{State}
use Rattle.machine.specs.declared.Machine.{Machine}
use Rattle.machine.proofs.Tests.{fifth}
use Rattle.machine.proofs.Cells.{cell-next}

-- ---- the cell at a place

pub place-cell : (cells : List Cell) (a : CellAddress) {k : ℕ} → k ≡ a.0 - 100 → cell_at cells a ≡ get_or cells k null_cell
unfolding cell_at
place-cell cells a e = ap (λ (k : ℕ). get_or cells k null_cell) (sym e)

-- the present cell, read at its place
pub place-present : (cells : List Cell) (d : State) {k : ℕ} → k ≡ d.running.cell.0 - 100 → present cells d ≡ get_or cells k null_cell
unfolding present
place-present cells d e = place-cell cells d.running.cell e

null-sound : cell_sound null_cell ≡ true
unfolding cell_sound all_valid fields_of fields_in choose code_of numbers_with canonical valid both either
null-sound = refl

-- where all cells are sound, so is what is read at any place
pub place-sound : (cells : List Cell) (k : ℕ) → every cell_sound cells ≡ true → cell_sound (get_or cells k null_cell) ≡ true
unfolding every
place-sound [] k t = null-sound
place-sound (c ∷ cells) zero t = both_left _ _ t
place-sound (c ∷ cells) (suc k) t = place-sound cells k (both_right _ _ t)

-- ---- 000 or a cell

next-chosen : (a : CellAddress) (b x y : Bool) → eqb a.0 0 ≡ b → choose b x (both (is_cell a) y) ≡ true → valid Next a.0 ≡ true
unfolding choose valid either
next-chosen a true x y e t = rw e
next-chosen a false x y e t = cell-next a (both_left _ _ t)

next-to : (a : CellAddress) → valid Next a.0 ≡ true → a.0 ≤ 230
next-to a t = ⊎_elim (λ (z : a.0 ≡ 0). omega (arith, z)) (λ (h : (100 ≤ a.0) × (a.0 ≤ 230)). h.1) (valid-next a.0 t)

-- ---- the cells that a sound state names

module _ (cells : List Cell) where
  pub suspended-next : (r : Suspended) → suspended_sound cells r ≡ true → valid Next r.cell.0 ≡ true
  unfolding suspended_sound
  suspended-next r t = next-chosen r.cell _ _ _ refl t

  pub running-to : (r : Running) → running_sound cells r ≡ true → r.cell.0 ≤ 230
  unfolding running_sound busy_sound
  running-to r t = next-to r.cell (next-chosen r.cell _ _ _ refl t)

  pub suspended-place : (r : Suspended) {k : ℕ} → suspended_sound cells r ≡ true → k ≡ r.cell.0 - 100 → k < 131
  suspended-place r t e = omega (arith, e, next-to r.cell (suspended-next r t))

  pub running-place : (r : Running) {k : ℕ} → running_sound cells r ≡ true → k ≡ r.cell.0 - 100 → k < 131
  running-place r t e = omega (arith, e, running-to r t)

-- ---- the parts of a sound drive

pub sound-cells : (m : Machine) → sound m ≡ true → every cell_sound m.cells ≡ true
unfolding sound
sound-cells m t = both_left _ _ t

pub sound-state : (m : Machine) → sound m ≡ true → state_sound m.cells m.state ≡ true
unfolding sound
sound-state m t = both_right _ _ t

pub sound-suspended : (m : Machine) → sound m ≡ true → suspended_sound m.cells m.state.suspended ≡ true
unfolding state_sound
sound-suspended m t = fifth _ _ _ _ _ _ (sound-state m t)

pub sound-running : (m : Machine) → sound m ≡ true → running_sound m.cells m.state.running ≡ true
unfolding state_sound
sound-running m t = both_right _ _ (both_right _ _ (both_right _ _ (both_right _ _ (both_right _ _ (sound-state m t)))))
