-- Raw writes to a fresh drive, computed: what it holds and what it cannot, the units of what remains, and cells in forms that are never stored.
-- Assumes nothing.
use Prim.Native.Nat.{ℕ, ◌-◌}
use mathlib.Core.Path.{◌≡◌, refl}
use mathlib.Core.Bool.{Bool, true, false}
use mathlib.Core.List.{List, [], ◌∷◌, map}
use lib.ListN.{get_or}
use Rattle.std.specs.Prelude.{Option, Some, None}
use lib.IntN.{pos, negsuc}
use Rattle.laws.specs.Tests.{choose, both, either}
use Rattle.frequency.specs.Table.{following, rising, frequencies}
use Rattle.frequency.specs.Places.{hertz_of, not_above, place_of}
use Rattle.format.specs.Formats.{fields_in, fields_of, known_in, known, format_of}
use Rattle.instruction.specs.Codes.{code_of}
use Rattle.instruction.specs.Numbers.{travel_of, cam_of, cell_with, cell_of}
use Rattle.instruction.specs.declared.Cell.{Cell}
use Rattle.instruction.specs.declared.Instruction.TheVariants.{CamSetting, Recovery}
use Rattle.machine.specs.Record.{fresh, null_cell, cell_at}
use Rattle.machine.specs.Soundness.{is_cell, is_delay}
use Rattle.machine.specs.Commands.{resolution_at}
use Rattle.machine.specs.InputWords.{bits_from, inputs_of}
use Rattle.machine.specs.declared.Machine.{Machine}
use Rattle.machine.specs.declared.Remaining.{Remaining}
use Rattle.machine.specs.declared.Remaining.TheVariants.{Counted, Timed}
use Rattle.raw.specs.Integers.{fits_signed, extended}
use Rattle.raw.specs.Counts.{integer_of, counts_of, holds_delay, count_of, with_both, counted}
use Rattle.raw.specs.Fields.{fields, field_in, field_at, fits_field, phase_at, with_field, counts_with}
use Rattle.raw.specs.Cells.{fits_hertz, fits_fixed, fits_count, fits_kind, second_of, number_as, cell_holding, kind_at, numbers_in, fits_row, made_of}
use Rattle.raw.specs.Writes.{written_with, put_together, field_written, output_written, with_cell, cell_written}

-- what the cases unfold
computing : Unit {0}
unfolding choose both either following rising frequencies hertz_of not_above place_of fields_in fields_of known_in known format_of code_of travel_of
    cam_of cell_with cell_of fresh cell_at is_cell is_delay resolution_at bits_from inputs_of fits_signed extended integer_of counts_of holds_delay count_of
    with_both counted fields field_in field_at fits_field phase_at with_field counts_with fits_hertz fits_fixed fits_count fits_kind second_of number_as
    cell_holding kind_at numbers_in fits_row made_of written_with put_together field_written output_written with_cell cell_written
computing = tt

new : Machine
new = fresh (record { 0 = 0 })

-- the integer −n
minus : ℕ → ℕ
minus n = 18446744073709551616 - n

-- a field's place and an integer, and whether the record can hold it
field_cases : List ((ℕ × ℕ) × Bool)
field_cases =
    -- docs/SCRIPTS.md: "a drive address of 256, a loop count of 65,536, an inputs word of 2,048"
    ((0, 255), true) ∷ ((0, 256), false) ∷ ((13, 65535), true) ∷ ((13, 65536), false) ∷ ((6, 2047), true) ∷ ((6, 2048), false)
    -- rs, es, phase
    ∷ ((2, 7), true) ∷ ((2, 8), false) ∷ ((3, 1), true) ∷ ((3, 2), false) ∷ ((15, 6), true) ∷ ((15, 7), false)
    -- pos and rest are signed
    ∷ ((5, 2147483647), true) ∷ ((5, 2147483648), false) ∷ ((5, minus 2147483648), true) ∷ ((5, minus 2147483649), false)
    ∷ ((16, minus 2147483648), true) ∷ ((16, 2147483648), false) ∷ []

-- whether a write is held, and the record then; else that before
held : Option Machine → Bool
held None = false
held (Some m) = true

after : Machine → Option Machine → Machine
after m None = m
after m (Some n) = n

field_held : (ℕ × ℕ) × Bool → Bool
field_held x = held (field_written new x.0.0 x.0.1)

fields-held : map field_held field_cases ≡ map (λ (x : (ℕ × ℕ) × Bool). x.1) field_cases
unfolding computing new minus field_cases field_held held
fields-held = refl

-- a cell as integers, and whether the record can hold it
cell_cases : List (List ℕ × Bool)
cell_cases =
    -- 01 with s as 1 or −1 and XX as 1 or 4
    (1 ∷ 3 ∷ 10 ∷ minus 7 ∷ 4 ∷ 0 ∷ 0 ∷ [], true) ∷ (1 ∷ 3 ∷ 10 ∷ 7 ∷ 2 ∷ 0 ∷ 0 ∷ [], false)
    ∷ (2 ∷ 3 ∷ 10 ∷ minus 1 ∷ 1 ∷ 0 ∷ 0 ∷ [], true) ∷ (2 ∷ 3 ∷ 10 ∷ 0 ∷ 1 ∷ 0 ∷ 0 ∷ [], false)
    -- docs/SCRIPTS.md: "a frequency outside the table for a 21 or 22"
    ∷ (21 ∷ 2181 ∷ 7 ∷ 1 ∷ 0 ∷ 0 ∷ 0 ∷ [], true) ∷ (21 ∷ 2200 ∷ 7 ∷ 1 ∷ 0 ∷ 0 ∷ 0 ∷ [], false)
    ∷ (61 ∷ 65535 ∷ 0 ∷ 0 ∷ 0 ∷ 0 ∷ 0 ∷ [], true) ∷ (61 ∷ 65536 ∷ 0 ∷ 0 ∷ 0 ∷ 0 ∷ 0 ∷ [], false)
    -- a delay beyond the longest can be held, though no sound drive holds it
    ∷ (65 ∷ 8388607 ∷ 0 ∷ 0 ∷ 0 ∷ 0 ∷ 0 ∷ [], true) ∷ (65 ∷ 8388608 ∷ 0 ∷ 0 ∷ 0 ∷ 0 ∷ 0 ∷ [], true)
    ∷ (65 ∷ minus 1 ∷ 0 ∷ 0 ∷ 0 ∷ 0 ∷ 0 ∷ [], false)
    -- docs/SCRIPTS.md: "A code that is none of the 20 is unrepresentable"
    ∷ (99 ∷ 0 ∷ 0 ∷ 0 ∷ 0 ∷ 0 ∷ 0 ∷ [], false) ∷ []

cells-held : map (λ (x : List ℕ × Bool). held (cell_written new 0 x.0)) cell_cases ≡ map (λ (x : List ℕ × Bool). x.1) cell_cases
unfolding computing new minus cell_cases held
cells-held = refl

first_cell : List ℕ → Cell
first_cell n = get_or (after new (cell_written new 0 n)).cells 0 null_cell

unset-cam : first_cell (57 ∷ 0 ∷ 5 ∷ 100 ∷ 0 ∷ 0 ∷ 0 ∷ []) ≡
    record { instruction = CamSetting false (record { 0 = 5 }); next = record { 0 = 100 } }
unfolding computing new after first_cell
unset-cam = refl

recovery-next : first_cell (69 ∷ 100 ∷ 0 ∷ 0 ∷ 0 ∷ 0 ∷ 0 ∷ []) ≡ record { instruction = Recovery; next = record { 0 = 100 } }
unfolding computing new after first_cell
recovery-next = refl

-- two fields written one after the other
twice : Machine → ℕ × ℕ → ℕ × ℕ → Machine
twice m a b = after m (field_written (after m (field_written m a.0 a.1)) b.0 b.1)

running : Machine → Remaining
running m = m.state.running.remaining

interrupted : Machine → Remaining
interrupted m = m.state.suspended.remaining

-- phase 2 is a run, and phase 1 a delay, also where the phase is written last
run-in-steps : running (twice new (15, 2) (16, minus 5)) ≡ Counted (record { 0 = negsuc 4 })
unfolding computing new minus after twice running
run-in-steps = refl

delay-in-milliseconds : running (twice new (15, 1) (16, 5)) ≡ Timed (record { 0 = 5 })
unfolding computing new after twice running
delay-in-milliseconds = refl

unit-of-a-later-phase : running (twice new (16, 5) (15, 1)) ≡ Timed (record { 0 = 5 })
unfolding computing new after twice running
unit-of-a-later-phase = refl

negative-delay : held (field_written (after new (field_written new 15 1)) 16 (minus 5)) ≡ false
unfolding computing new minus after held
negative-delay = refl

-- cell 100 interrupted: with a 65, and with 00
interrupted-in-milliseconds :
    interrupted (twice (after new (cell_written new 0 (65 ∷ 9 ∷ 0 ∷ 0 ∷ 0 ∷ 0 ∷ 0 ∷ []))) (11, 100) (12, 7)) ≡ Timed (record { 0 = 7 })
unfolding computing new after twice interrupted
interrupted-in-milliseconds = refl

interrupted-in-steps : interrupted (twice new (11, 100) (12, 7)) ≡ Counted (record { 0 = pos 7 })
unfolding computing new after twice interrupted
interrupted-in-steps = refl
