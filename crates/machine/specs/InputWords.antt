-- 01, "Carrying out": an inputs word.
-- Assumes nothing.
use Rattle.std.specs.Prelude.{ℕ, zero, suc, ◌+◌, ◌*◌, ◌/◌, ◌%◌, Bool, not, List, [], ◌∷◌, eqb}
use Rattle.laws.specs.Tests.{choose, both}
use Rattle.units.specs.declared.CellAddress.{CellAddress}
use Rattle.instruction.specs.Numbers.{bit_of}
use Rattle.instruction.specs.declared.Cell.{Cell}
use Rattle.machine.specs.Record.{with_inputs, input_at, in_px, in_s0, in_st, in_es, in_ee, idle}
use Rattle.machine.specs.Starting.{started}
use Rattle.machine.specs.Milliseconds.{present}
use Rattle.machine.specs.Stopping.{free_run_stop_at, px_seen_at, emergency_stop_at}
use Rattle.machine.specs.declared.State.{State}

-- n bits of a number, the lowest first
unfoldable pub bits_from : ℕ → ℕ → List Bool
bits_from zero w = []
bits_from (suc n) w = eqb (w % 2) 1 ∷ bits_from n (w / 2)

-- 01: "(bits 0 to 10)"
unfoldable pub inputs_of : ℕ → List Bool
inputs_of w = bits_from 11 w

-- 01: "100 + S0 + 2×S1 + 4×S2 + 8×S3"
unfoldable pub selected_cell : State → CellAddress
selected_cell s =
    record {
      0 =
          100 + bit_of (input_at s in_s0) + 2 * bit_of (input_at s (in_s0 + 1)) + 4 * bit_of (input_at s (in_s0 + 2))
          + 8 * bit_of (input_at s (in_s0 + 3));
    }

-- 01: "ST going on with EE off (and ES off where preset ES is 1), on an idle drive": before is the drive as it stood, s the same with the word's inputs
unfoldable pub starts : State → State → Bool
starts before s =
    both (idle before)
    (both (both (not (input_at before in_st)) (input_at s in_st))
    (both (not (input_at s in_ee)) (not (both s.presets.interlock (input_at s in_es)))))

-- 01: "In an inputs word ST is judged on the drive as it stood before the word, with the word's other inputs; then EE, ES and PX, each by being on or off in that word"
unfoldable pub judged_st : State → State → State
judged_st before s = choose (starts before s) (started s (selected_cell s)) s

unfoldable pub judged_ee : State → Cell → State
judged_ee s c = choose (input_at s in_ee) (emergency_stop_at s c) s

unfoldable pub judged_es : State → Cell → State
judged_es s c = choose (input_at s in_es) (free_run_stop_at s c) s

unfoldable pub judged_px : State → Cell → State
judged_px s c = px_seen_at (input_at s in_px) s c

-- what one of these does to a drive, given how its present cell is found
abbrev judged_by : (State → Cell) → (State → Cell → State) → State → State
judged_by cell_of judged s = judged s (cell_of s)

-- the whole word, in that order, each at the cell that is then present
unfoldable pub judged_word : (State → Cell) → ℕ → State → State
judged_word cell_of w s =
    judged_by cell_of judged_px (judged_by cell_of judged_es (judged_by cell_of judged_ee (judged_st s (with_inputs s (inputs_of w)))))

-- a word, given only the cell that is present before it: one that becomes present within the word waits, and no later part looks at it
unfoldable pub input_word_at : ℕ → State → Cell → State
input_word_at w s c = judged_word (λ x. c) w s

unfoldable pub input_word : ℕ → List Cell → State → State
input_word w cells s = judged_word (present cells) w s
