-- A change that is carried out in place is a millisecond, and so is one by value at the places of the memory.
-- Assumes nothing.
use Prim.Native.Nat.{ℕ, ◌+◌, ◌-◌}
use mathlib.Core.Path.{◌≡◌, sym, ap, ◌∙◌}
use mathlib.Core.Bool.{false}
use mathlib.Core.List.{List}
use lib.ListN.{get_or}
use Rattle.instruction.specs.declared.Cell.{Cell}
use Rattle.machine.specs.Record.{cell_at, null_cell, idle}
use Rattle.machine.specs.Milliseconds.{present, held, millisecond_at, millisecond}
use Rattle.machine.specs.declared.State.{State}
use Rattle.machine.proofs.Places.{place-present}
use Rattle.changes.specs.Changes.{is_more, changed_by, next_change}
use Rattle.changes.specs.declared.Change.{Change}
use Rattle.changes.proofs.Changing.{millisecond-changed}
use Rattle.waits.proofs.Waits.{Waiting, Going, waiting-step}

-- by value, the cells read at their places
pub millisecond-placed :
    (cells : List Cell) (d : State) {i k : ℕ} → i ≡ d.running.cell.0 - 100 → k ≡ d.suspended.cell.0 - 100 →
    millisecond_at d (get_or cells i null_cell) (get_or cells k null_cell) ≡ millisecond cells d
unfolding millisecond present held cell_at
millisecond-placed cells d e f = rw (e, f)

changed-placed :
    (cells : List Cell) (d : State) {i : ℕ} {x : Change} → i ≡ d.running.cell.0 - 100 → x ≡ next_change d (get_or cells i null_cell) →
    idle d ≡ false → is_more x ≡ false → changed_by x d ≡ millisecond cells d
unfolding millisecond
changed-placed cells d {i} e q t m =
    millisecond-changed d (get_or cells i null_cell) q (held cells d) t m
    ∙ ap (λ (c : Cell). millisecond_at d c (held cells d)) (sym (place-present cells d e))

-- one millisecond more, by a change that is carried out in place
pub changed-step :
    {cells : List Cell} {limit : ℕ} {s d r : State} {n i : ℕ} {x : Change} → Going cells limit s d n → i ≡ d.running.cell.0 - 100 →
    x ≡ next_change d (get_or cells i null_cell) → is_more x ≡ false → r ≡ changed_by x d → Waiting cells limit s r (n + 1)
changed-step {cells} {d = d} {x = x} g e q b z = waiting-step g (z ∙ changed-placed cells d e q g.busy b)
