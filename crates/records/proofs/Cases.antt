-- Computed examples: records as raw writes make them, each field in its place and at its ends, every resolution, phase and input.
-- Assumes nothing.
use Prim.Native.Nat.{ℕ, suc, ◌-◌}
use Prim.Native.String.{String}
use mathlib.Core.Path.{◌≡◌, refl}
use mathlib.Core.List.{List, [], ◌∷◌, ◌++◌, map}
use Rattle.std.specs.Prelude.{Option, Some, None}
use Rattle.laws.specs.Tests.{choose, both, either}
use Rattle.laws.specs.Text.{bytes}
use Rattle.decimal.specs.Printing.{digits, width_from, width, decimal, signed}
use Rattle.instruction.specs.Codes.{code_of}
use Rattle.machine.specs.Record.{fresh, cell_at}
use Rattle.machine.specs.Soundness.{is_cell, is_delay}
use Rattle.machine.specs.Commands.{resolution_at}
use Rattle.machine.specs.InputWords.{bits_from, inputs_of}
use Rattle.machine.specs.Answers.{preset_value}
use Rattle.machine.specs.declared.Machine.{Machine}
use Rattle.lines.specs.Gathering.{bit_text}
use Rattle.raw.specs.Integers as integers
use Rattle.raw.specs.Counts as counts
use Rattle.raw.specs.Fields as fields
use Rattle.raw.specs.Writes as writes
use Rattle.raw.specs.Writes.{field_written}
use Rattle.observed.specs.Orders.{field_text}
use Rattle.records.specs.Records as records
use Rattle.records.specs.Records.{record_text}

-- what a raw write and the text of a record unfold
computing : Unit {0}
unfolding choose both either bytes digits width_from width decimal signed code_of fresh cell_at is_cell is_delay resolution_at bits_from inputs_of
    preset_value bit_text integers.fits_signed integers.extended counts.integer_of counts.counts_of counts.holds_delay counts.count_of counts.with_both counts.counted
    fields.fields fields.field_in fields.field_at fields.fits_field fields.phase_at fields.with_field fields.counts_with
    writes.written_with writes.put_together writes.field_written field_text records.signed_field records.remaining_text records.remaining_field
    records.presets_text records.inputs_word records.cam_text records.fault_text records.suspended_text records.running_text records.record_text
computing = tt

-- the integer −n, as a raw write has it
minus : ℕ → ℕ
minus n = 18446744073709551616 - n

-- the record after a write that it can hold, else the one before
after : Machine → Option Machine → Machine
after m None = m
after m (Some n) = n

-- the fields from a place on written, each with its integer, to a drive
written : ℕ → List ℕ → Machine → Machine
written k [] m = m
written k (v ∷ vs) m = written (suc k) vs (after m (field_written m k v))

shown_from : ℕ → List ℕ → List ℕ
shown_from k vs = record_text (written k vs (fresh (record { 0 = 0 }))).state

-- a raw write to each field in the order of the names, and the record shows the integers in that order
written-as-shown :
    map (shown_from 0)
    (
    (7 ∷ 3 ∷ 5 ∷ 1 ∷ 0 ∷ minus 9 ∷ 1025 ∷ 1 ∷ 12 ∷ 50 ∷ 101 ∷ 102 ∷ minus 13 ∷ 14 ∷ 103 ∷ 2 ∷ minus 15 ∷ 16 ∷ 1 ∷ [])
    -- the ends of each, which no sound drive has
    ∷ (255 ∷ 254 ∷ 7 ∷ 0 ∷ 1 ∷ 2147483647 ∷ 2047 ∷ 0 ∷ minus 2147483648 ∷ 253 ∷ 252 ∷ 251 ∷ 2147483647 ∷ 65535 ∷ 250 ∷ 1 ∷ 4294967295 ∷ 65534
    ∷ 0 ∷ [])
    ∷ []
    )
    ≡ map bytes
    ("7,3,5,1,0,-9,1025,1,+12,50,101,102,-13,14,103,2,-15,16,1" ∷
    "255,254,7,0,1,+2147483647,2047,0,-2147483648,253,252,251,+2147483647,65535,250,1,+4294967295,65534,0" ∷ [])
unfolding computing minus after written shown_from
written-as-shown = refl

-- every resolution, every phase, and the word of each input, on a fresh drive
abbrev within : String → String → ℕ → List ℕ
within before behind v = bytes before ++ (decimal v ++ bytes behind)

resolutions-shown :
    let places : List ℕ = 0 ∷ 1 ∷ 2 ∷ 3 ∷ 4 ∷ 5 ∷ 6 ∷ 7 ∷ [] in
    map (λ (v : ℕ). shown_from 2 (v ∷ [])) places ≡ map (within "0,1," ",0,0,+0,0,0,+0,0,0,0,+0,0,0,0,+0,0,0") places
unfolding computing after written shown_from
resolutions-shown = refl

phases-shown :
    let places : List ℕ = 0 ∷ 1 ∷ 2 ∷ 3 ∷ 4 ∷ 5 ∷ 6 ∷ [] in
    map (λ (v : ℕ). shown_from 15 (v ∷ [])) places ≡ map (within "0,1,2,0,0,+0,0,0,+0,0,0,0,+0,0,0," ",+0,0,0") places
unfolding computing after written shown_from
phases-shown = refl

inputs-shown :
    let words : List ℕ = 1 ∷ 2 ∷ 4 ∷ 8 ∷ 16 ∷ 32 ∷ 64 ∷ 128 ∷ 256 ∷ 512 ∷ 1024 ∷ 2047 ∷ [] in
    map (λ (v : ℕ). shown_from 6 (v ∷ [])) words ≡ map (within "0,1,2,0,0,+0," ",0,+0,0,0,0,+0,0,0,0,+0,0,0") words
unfolding computing after written shown_from
inputs-shown = refl
