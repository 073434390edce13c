-- 02, Slip 6, proved: what cells hold, what a wait leaves of a delay, and, from OlderImages, what an older gateway makes of images.
-- Assumes nothing.
use Prim.Native.Nat.{ℕ, suc, ◌+◌, ◌-◌, ◌≤◌, ◌<◌}
use native.Mathlib.Omega.{arith}
use mathlib.Core.Path.{◌≡◌, ap, ap₂, sym, ◌∙◌}
use mathlib.Core.Bool.{Bool, true, false}
use mathlib.Core.List.{List, map}
use lib.Dec.{eqb, leb}
use borrow.Author.Tests.{le-leb}
use Rattle.laws.specs.Tests.{choose, both}
use Rattle.laws.proofs.Tests.{both_left, both_right, both_true, choose-true, choose-false}
use Rattle.laws.proofs.Joins.{both_end}
use Rattle.units.specs.declared.CellAddress.{CellAddress}
use Rattle.units.specs.declared.Milliseconds.{Milliseconds}
use Rattle.fields.specs.Kinds.{valid}
use Rattle.fields.specs.Rows.{all_valid}
use Rattle.fields.specs.declared.kinds.Kind.TheVariants.{Next}
use Rattle.format.specs.Formats.{fields_in, fields_of}
use Rattle.instruction.specs.Codes.{code_of}
use Rattle.instruction.specs.Numbers.{numbers_with}
use Rattle.instruction.specs.Soundness.{canonical, cell_sound}
use Rattle.instruction.specs.declared.Cell.{Cell}
use Rattle.instruction.specs.declared.Instruction.TheVariants.{OpeningLoop, TimeDelay}
use Rattle.machine.specs.Record.{idle, moving, with_state}
use Rattle.machine.specs.Soundness.{is_waiting, resting_sound, running_sound, state_sound, sound}
use Rattle.machine.specs.Starting.{in_phase}
use Rattle.machine.specs.Waiting.{end_at, wait_from, wait}
use Rattle.machine.specs.Calls.{Outcome, shown_at, waited, act, apply}
use Rattle.machine.specs.Calls.Call.{Wait}
use Rattle.machine.specs.Calls.Ending.{Ended}
use Rattle.machine.specs.LongerWaits.{Delayed, SpentWait, LongerWaits}
use Rattle.machine.specs.declared.State.{State}
use Rattle.machine.specs.declared.Machine.{Machine}
use Rattle.machine.specs.declared.answers.End.{End}
use Rattle.machine.specs.declared.answers.End.TheVariants as end
use Rattle.machine.proofs.Delays.{delaying, delay-unsettled, came_to, wait-delay}
use Rattle.machine.proofs.Tests.{clash, by-test}
use Rattle.machine.proofs.MemoryImages.{loaded-either, read_again}
use Rattle.machine.proofs.OlderImages.{sound-before, older, loaded-before, taken-now, image-before}

-- ---- cells

delay-holds :
    (n : Milliseconds) (next : CellAddress) →
    cell_sound (record { instruction = TimeDelay n; next = next }) ≡ both (leb n.0 8388607) (valid Next next.0)
unfolding cell_sound all_valid fields_of fields_in choose code_of numbers_with canonical valid both
delay-holds n next =
    both_end _
    ∙ ap₂ both (ap (λ (b : Bool). both b (leb n.0 8388607)) (le-leb 0 n.0 (omega arith))) (both_end (valid Next next.0))

loop-holds :
    (n : ℕ) (next : CellAddress) →
    cell_sound (record { instruction = OpeningLoop n; next = next }) ≡ both (both (leb 1 n) (leb n 65535)) (valid Next next.0)
unfolding cell_sound all_valid fields_of fields_in choose code_of numbers_with canonical valid
loop-holds n next = both_end _ ∙ ap (both (both (leb 1 n) (leb n 65535))) (both_end (valid Next next.0))

-- ---- a wait in a delay

-- a sound drive in a delay is busy
delay-busy : (m : Machine) (k : ℕ) → sound m ≡ true → Delayed m k → idle m.state ≡ false
unfolding sound state_sound running_sound resting_sound idle
delay-busy m k t d =
    let running = both_right _ _ (both_right _ _ (both_right _ _ (both_right _ _ (both_right _ _ (both_right _ _ t))))) in
    by-test (eqb m.state.running.cell.0 0)
    (λ e. clash (sym (ap is_waiting d.phase) ∙ both_left _ _ (sym (choose-true _ _ _ e) ∙ running))) (λ e. e)

end-spent : (s : State) (k : ℕ) → idle s ≡ false → end_at (delaying s k) ≡ end.Spent
unfolding end_at idle moving choose
end-spent s k t = rw t

-- how long such a wait was, and what it comes to
delay-waited :
    (n k : ℕ) (cells : List Cell) (s : State) → idle s ≡ false → n < k → came_to (wait n cells (delaying s k)) ≡ (n, delaying s (k - n))
unfolding wait wait_from
delay-waited n k cells s busy h =
    let more = k - n - 1 in
    let long : k ≡ suc (more + n) = omega arith in
    let left : suc more ≡ k - n = omega arith in
    let budget : n ≡ 0 + n = omega arith in
    ap (λ (j : ℕ). came_to (wait n cells (delaying s j))) long
    ∙ ap (λ (b : Bool). came_to (wait_from n b cells (delaying s (suc (more + n))))) (delay-unsettled s _ busy)
    ∙ ap (λ (j : ℕ). came_to (wait_from j false cells (delaying s (suc (more + n))))) budget
    ∙ wait-delay n more 0 cells s busy
    ∙ ap₂ (λ (j i : ℕ). (i, delaying s j)) left (sym budget)

delay-spent :
    (m : Machine) (n k : ℕ) → sound m ≡ true → Delayed m k → 1 ≤ n → n ≤ 1000000 → n < k → SpentWait m n (k - n) (apply (Wait n) m)
unfolding apply act
delay-spent m n k t d low high h =
    let s = m.state in
    let w = wait n m.cells s in
    let busy = delay-busy m k t d in
    let here : s ≡ delaying s k = ap₂ (in_phase s) d.phase d.remaining in
    let came = ap (λ (x : State). came_to (wait n m.cells x)) here ∙ delay-waited n k m.cells s busy h in
    let last : w.last ≡ delaying s (k - n) = ap (λ (r : ℕ × State). r.1) came in
    let o : apply (Wait n) m ≡ waited m w =
    choose-true _ _ _ t ∙ choose-true _ _ _ (both_true (le-leb 1 n low) (le-leb n 1000000 high)) in
    let seen = map (shown_at m.cells) w.trace in
    record {
      refusal = ap (λ (x : Outcome). x.refusal) o;
      shown = seen;
      ending =
          ap (λ (x : Outcome). x.ending) o
          ∙ ap₂ (λ (e : End) (i : ℕ). Ended e i seen) (ap end_at last ∙ end-spent s (k - n) busy) (ap (λ (r : ℕ × State). r.0) came);
      machine = ap (λ (x : Outcome). x.machine) o ∙ ap (with_state m) last;
    }

pub longer_waits : LongerWaits
longer_waits =
    record {
      delays = delay-holds;
      loops = loop-holds;
      same = λ s m e. let d = taken-now s m e (loaded-either s) in (d, (read_again s m d).1);
      longer = λ m k s p t. image-before m k s p ∙ choose-true _ _ _ t;
      others = λ m k s p t. image-before m k s p ∙ choose-false _ _ _ t;
      refused = λ s e. loaded-before s ∙ ap older e;
      spent = delay-spent;
      sound = sound-before;
    }
