-- An inputs word keeps a state sound.
-- Assumes nothing.
use Prim.Native.Nat.{ℕ, zero, suc, ◌+◌, ◌/◌, ◌≤◌}
use native.Mathlib.Omega.{arith}
use mathlib.Core.Path.{◌≡◌, refl, ap}
use mathlib.Core.Bool.{Bool, true, false}
use mathlib.Core.List.{List}
use lib.Dec.{lit≤}
use lib.ListN.{length}
use borrow.Author.Tests.{le-leb}
use Rattle.laws.proofs.Tests.{both_true, choose-by}
use Rattle.instruction.specs.Numbers.{bit_of}
use Rattle.instruction.specs.declared.Cell.{Cell}
use Rattle.machine.specs.Record.{input_at, in_s0}
use Rattle.machine.specs.Soundness.{is_cell}
use Rattle.machine.specs.Milliseconds.{present}
use Rattle.machine.specs.Stopping.{free_run_stop, px_seen, emergency_stop}
use Rattle.machine.specs.InputWords.{bits_from, inputs_of, selected_cell, starts, judged_st, judged_ee, judged_es, judged_px, judged_word, input_word}
use Rattle.machine.specs.declared.State.{State}
use Rattle.machine.proofs.Cells.{Memory}
use Rattle.machine.proofs.Parts.{Parts, inputs-sound}
use Rattle.machine.proofs.Going.{started-sound}
use Rattle.machine.proofs.Stopping.{stop-sound, px-sound, emergency-sound}

length-bits : (n w : ℕ) → length (bits_from n w) ≡ n
unfolding bits_from
length-bits zero w = refl
length-bits (suc n) w = ap suc (length-bits n (w / 2))

bit-small : (b : Bool) → bit_of b ≤ 1
bit-small true = lit≤ tt
bit-small false = lit≤ tt

-- 01: "100 + S0 + 2×S1 + 4×S2 + 8×S3"
selected-cell : (s : State) → is_cell (selected_cell s) ≡ true
unfolding is_cell selected_cell
selected-cell s =
    let a = bit-small (input_at s in_s0) in
    let b = bit-small (input_at s (in_s0 + 1)) in
    let c = bit-small (input_at s (in_s0 + 2)) in
    let d = bit-small (input_at s (in_s0 + 3)) in
    both_true (le-leb 100 (selected_cell s).0 (omega arith)) (le-leb (selected_cell s).0 230 (omega arith))

module _ {cells : List Cell} (m : Memory cells) where
  judged-start : (before : State) {s : State} → Parts cells s → Parts cells (judged_st before s)
  unfolding judged_st
  judged-start before {s} g = choose-by (Parts cells) (starts before s) (λ t. started-sound g (selected_cell s) (selected-cell s)) (λ t. g)

  judged-emergency : {s : State} → Parts cells s → Parts cells (judged_ee s (present cells s))
  unfolding judged_ee emergency_stop
  judged-emergency g = choose-by (Parts cells) _ (λ t. emergency-sound m g) (λ t. g)

  judged-stop : {s : State} → Parts cells s → Parts cells (judged_es s (present cells s))
  unfolding judged_es free_run_stop
  judged-stop g = choose-by (Parts cells) _ (λ t. stop-sound m g) (λ t. g)

  judged-px : {s : State} → Parts cells s → Parts cells (judged_px s (present cells s))
  unfolding judged_px px_seen
  judged-px g = px-sound m g _

  -- 01: "ST is judged on the drive as it stood before the word, with the word's other inputs; then EE, ES and PX"
  pub word_sound : (w : ℕ) {s : State} → Parts cells s → Parts cells (input_word w cells s)
  unfolding judged_word input_word inputs_of
  word_sound w {s} g = judged-px (judged-stop (judged-emergency (judged-start s (inputs-sound g (inputs_of w) (length-bits 11 w)))))
