-- A cell stored keeps a drive sound.
-- Assumes nothing.
use Prim.Native.Nat.{ℕ, ◌-◌}
use native.Mathlib.Omega.{arith}
use mathlib.Core.Path.{◌≡◌, refl, sym, ap, ◌∙◌}
use mathlib.Core.Bool.{true, not}
use mathlib.Core.List.{List}
use lib.Dec.{eqb}
use lib.ListN.{get_or, length-set}
use lib.Seq.{get_or-set_same, get_or-set_other}
use borrow.Author.Tests.{eqb-true, eqb-false}
use Rattle.laws.specs.Tests.{choose, both, either}
use Rattle.laws.proofs.Tests.{both_left, both_right, both_true, choose-by, choose-true, choose-false}
use Rattle.units.specs.declared.CellAddress.{CellAddress}
use Rattle.instruction.specs.Codes.{code_of}
use Rattle.instruction.specs.Soundness.{cell_sound}
use Rattle.instruction.specs.declared.Cell.{Cell}
use Rattle.machine.specs.Record.{cell_at, stored_at, null_cell, nothing_suspended, idle}
use Rattle.machine.specs.Soundness.{is_cell, is_nothing, suspended_remaining, suspended_sound, running_sound}
use Rattle.machine.specs.Acting.{same_content, keeps_suspended, stored_state, named, acted_at, cells_after, named_cell, machine_after}
use Rattle.machine.specs.declared.Remaining.{Remaining}
use Rattle.machine.specs.declared.State.{State}
use Rattle.machine.specs.declared.Machine.{Machine}
use Rattle.machine.specs.declared.commands.Command.TheVariants.{Store}
use Rattle.machine.proofs.Tests.{by-test, either_second, second, every_set}
use Rattle.machine.proofs.Cells.{cell-from, cell-to, Memory}
use Rattle.machine.proofs.RemainingCounts.{suspended-same}
use Rattle.machine.proofs.Parts.{Parts, parts-of, idle-resting, Whole}
use Rattle.machine.proofs.Going.{emptied-sound}

-- a state that suits one memory suits another, if its record and its running do
moved-parts :
    {cells : List Cell} {s : State} (other : List Cell) → Parts cells s → suspended_sound other s.suspended ≡ true →
    running_sound other s.running ≡ true → Parts other s
moved-parts other g u r = parts-of g.presets g.position g.inputs g.outputs g.cam g.fault u r

module _ {cells : List Cell} (m : Memory cells) (a : CellAddress) (c : Cell) (h : is_cell a ≡ true) where
  pub stored-memory : cell_sound c ≡ true → Memory (stored_at cells a c)
  unfolding stored_at
  stored-memory t =
      record {
        sound = every_set cell_sound cells (a.0 - 100) c m.sound t;
        count = length-set cells (a.0 - 100) c ∙ m.count;
      }

  -- the cell itself, and every other
  pub stored_here : (b : CellAddress) → a.0 ≡ b.0 → cell_at (stored_at cells a c) b ≡ c
  unfolding cell_at stored_at
  stored_here b e =
      rw (← e) (get_or-set_same cells (a.0 - 100) c null_cell (omega (arith, m.count, cell-from a h, cell-to a h)))

  pub stored_other : (b : CellAddress) → is_cell b ≡ true → (a.0 ≡ b.0 → ⊥) → cell_at (stored_at cells a c) b ≡ cell_at cells b
  unfolding cell_at stored_at
  stored_other b k n =
      get_or-set_other cells (a.0 - 100) (b.0 - 100) c null_cell (λ e. n (omega (arith, cell-from a h, cell-from b k)))

  -- 01: "WN of equal content leaves it"
  stored-remaining :
      (b : CellAddress) (r : Remaining) → is_cell b ≡ true →
      either (not (eqb a.0 b.0)) (same_content (cell_at cells a) c) ≡ true →
      suspended_remaining r (cell_at cells b).instruction ≡ true → suspended_remaining r (cell_at (stored_at cells a c) b).instruction ≡ true
  unfolding same_content
  stored-remaining b r k t u =
      by-test (eqb a.0 b.0)
      (λ e. let q = eqb-true a.0 b.0 e in
      let same = eqb-true _ _ (both_left _ _ (either_second _ _ t (ap not e))) in
      ap (λ (x : Cell). suspended_remaining r x.instruction) (stored_here b q)
      ∙ sym (suspended-same _ _ r (ap (λ (x : Cell). code_of x.instruction) (at_same q) ∙ same)) ∙ u)
      (λ e. ap (λ (x : Cell). suspended_remaining r x.instruction) (stored_other b k (eqb-false a.0 b.0 e)) ∙ u)
    where
      at_same : a.0 ≡ b.0 → cell_at cells b ≡ cell_at cells a
      at_same q = unfold cell_at in ap (λ (n : ℕ). get_or cells (n - 100) null_cell) (sym q)

-- 01: "WN of changed content into the interrupted record's cell empties the record; WN of equal content leaves it."
pub stored-sound :
    (m : Machine) → Whole m → (a : CellAddress) (c : Cell) → is_cell a ≡ true → cell_sound c ≡ true → idle m.state ≡ true →
    Whole (machine_after (Store a c) m)
unfolding machine_after named_cell named acted_at cells_after stored_state keeps_suspended
stored-sound m w a c h t i =
    record {
      memory = stored-memory w.memory a c h t;
      parts = choose-by (Parts (stored_at m.cells a c)) _
          (λ k. moved-parts _ w.parts (kept k) rests) (λ k. moved-parts _ (emptied-sound w.parts) empty rests);
    }
  where
    rests : running_sound (stored_at m.cells a c) m.state.running ≡ true
    rests = unfold running_sound idle in choose-true _ _ _ i ∙ idle-resting w.parts i

    empty : suspended_sound (stored_at m.cells a c) nothing_suspended ≡ true
    empty = unfold suspended_sound choose both is_nothing in refl

    kept :
        either (not (eqb a.0 m.state.suspended.cell.0)) (same_content (cell_at m.cells a) c) ≡ true →
        suspended_sound (stored_at m.cells a c) m.state.suspended ≡ true
    kept k =
        unfold suspended_sound in
        by-test (eqb m.state.suspended.cell.0 0)
        (λ z. choose-true _ _ _ z ∙ sym (choose-true _ _ _ z) ∙ w.parts.suspended)
        (λ z. let u = sym (choose-false _ _ _ z) ∙ w.parts.suspended in
        choose-false _ _ _ z
        ∙ both_true (both_left _ _ u)
        (both_true (second _ _ _ u)
        (stored-remaining w.memory a c h _ m.state.suspended.remaining (both_left _ _ u) k (both_right _ _ (both_right _ _ u)))))
