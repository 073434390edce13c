-- The interrupted record: equal texts are texts of equal records, where both are sound over the same cells.
-- Assumes nothing.
use Prim.Native.Nat.{ℕ, ◌^◌, ◌≤◌, ◌<◌}
use native.Mathlib.Omega.{arith}
use mathlib.Core.Path.{◌≡◌, refl, ap, sym, ◌∙◌}
use mathlib.Core.Bool.{Bool, true, false, not}
use mathlib.Core.List.{List, [], ◌∷◌, nil≢cons}
use lib.ListN.{drop}
use lib.IntN.{nat_abs}
use lib.Dec.{eqb, lit<}
use mir.Syntax.{w32}
use mir.Val.{SFits}
use mir.Facts.{Fits-of_z}
use borrow.Author.Tests.{eqb-true, leb-true, eq-eqb}
use Rattle.laws.specs.Tests.{both}
use Rattle.laws.specs.Tables.{every}
use Rattle.laws.proofs.Tests.{both_left, both_right, both_true, choose-true, choose-false}
use Rattle.decimal.specs.Printing.{digits}
use Rattle.fields.specs.Kinds.{print_field, good, good_signed, valid}
use Rattle.fields.specs.Rows.{print_fields, all_good, all_valid}
use Rattle.fields.proofs.RoundTrip.{print-injective}
use Rattle.fields.specs.declared.kinds.Kind.{Kind}
use Rattle.fields.specs.declared.kinds.Kind.TheVariants.{Count}
use Rattle.units.specs.Limits.{loop_limit, remaining_limit}
use Rattle.units.specs.Bits.{steps_of, bits_of}
use Rattle.units.specs.Remaining.{is_zero_of}
use Rattle.units.proofs.Integers.{sfits-nat_abs}
use Rattle.units.proofs.Complement.{steps-bits, of_z-zero}
use Rattle.units.specs.declared.Steps.{Steps}
use Rattle.units.specs.declared.Milliseconds.{Milliseconds}
use Rattle.format.specs.Formats.{cell}
use Rattle.instruction.specs.Codes.{code_of}
use Rattle.instruction.specs.Runs.{profile_of}
use Rattle.instruction.specs.declared.Cell.{Cell}
use Rattle.instruction.specs.declared.Instruction.{Instruction}
use Rattle.instruction.specs.declared.Instruction.TheVariants.{TimeDelay}
use Rattle.machine.specs.Record.{cell_at, nothing_suspended}
use Rattle.machine.specs.Soundness.{is_cell, loop_count_sound, steps_remaining, time_remaining, is_indexed, is_delay, suspended_remaining, suspended_sound}
use Rattle.machine.specs.Commands.{any_signed}
use Rattle.machine.specs.Answers.{remaining_bits, suspended_text}
use Rattle.machine.specs.declared.Remaining.{Remaining}
use Rattle.machine.specs.declared.Remaining.TheVariants.{Nothing, Counted, Timed}
use Rattle.machine.specs.declared.Suspended.{Suspended}
use Rattle.machine.proofs.Tests.{clash, second}
use Rattle.machine.proofs.Cells.{indexed-same}
use Rattle.machine.proofs.Invariant.{nothing_is}
use Rattle.machine.proofs.Showing.{within-valid, signed-valid}

-- ---- a rest and its bits

steps-fit : (n : Steps) → steps_remaining n ≡ true → SFits w32 n.0
unfolding steps_remaining
steps-fit n h = sfits-nat_abs w32 n.0 remaining_limit (leb-true _ _ (both_left _ _ h)) (lit< tt)

steps-not-zero : (n : Steps) → steps_remaining n ≡ true → bits_of n ≡ 0 → ⊥
unfolding steps_remaining is_zero_of
steps-not-zero n h e =
    let z : eqb (nat_abs n.0) 0 ≡ true = sym (of_z-zero n.0 (steps-fit n h)) ∙ eq-eqb _ _ e in
    let f : not (eqb (nat_abs n.0) 0) ≡ true = both_right _ _ h in
    clash (ap not (sym z) ∙ f)

time-least : (n : Milliseconds) → time_remaining n ≡ true → (1 ≤ n.0) × (n.0 ≤ remaining_limit)
unfolding time_remaining
time-least n h = (leb-true _ _ (both_left _ _ h), leb-true _ _ (both_right _ _ h))

-- no instruction is both an indexed run and a time delay
steps-or-time : (i : Instruction) (n : Steps) (t : Milliseconds) → suspended_remaining (Counted n) i ≡ true → suspended_remaining (Timed t) i ≡ true → ⊥
unfolding suspended_remaining is_delay is_indexed profile_of code_of
steps-or-time i n t g h =
    clash (sym (indexed-same i (TimeDelay t) (eqb-true (code_of i) 65 (both_left _ _ h))) ∙ both_left _ _ g)

-- the cell's code tells the unit of a rest
remaining-same :
    (i : Instruction) (a b : Remaining) → suspended_remaining a i ≡ true → suspended_remaining b i ≡ true → remaining_bits a ≡ remaining_bits b → a ≡ b
unfolding suspended_remaining remaining_bits
remaining-same i Nothing Nothing g h e = refl
remaining-same i Nothing (Counted n) g h e = absurd (steps-not-zero n (both_right _ _ h) (sym e))
remaining-same i Nothing (Timed t) g h e = absurd (omega (arith, time-least t (both_right _ _ h)))
remaining-same i (Counted n) Nothing g h e = absurd (steps-not-zero n (both_right _ _ g) e)
remaining-same i (Counted n) (Counted k) g h e =
    ap Counted
    (sym (steps-bits n (steps-fit n (both_right _ _ g))) ∙ ap steps_of e ∙ steps-bits k (steps-fit k (both_right _ _ h)))
remaining-same i (Counted n) (Timed t) g h e = absurd (steps-or-time i n t g h)
remaining-same i (Timed t) Nothing g h e = absurd (omega (arith, time-least t (both_right _ _ g)))
remaining-same i (Timed t) (Counted n) g h e = absurd (steps-or-time i n t h g)
remaining-same i (Timed t) (Timed u) g h e = λ j. Timed (record { 0 = e j })

remaining-bits : (a : Remaining) (i : Instruction) → suspended_remaining a i ≡ true → remaining_bits a < 2 ^ 32
unfolding suspended_remaining remaining_bits
remaining-bits Nothing i h = omega arith
remaining-bits (Counted n) i h = (Fits-of_z (steps-fit n (both_right _ _ h))).fits
remaining-bits (Timed t) i h = omega (arith, time-least t (both_right _ _ h))

-- ---- the record

-- 01: "an empty record is three zeros"
empty-is : (cells : List Cell) (r : Suspended) → suspended_sound cells r ≡ true → eqb r.cell.0 0 ≡ true → r ≡ nothing_suspended
unfolding suspended_sound
empty-is cells r h t =
    let g = sym (choose-true _ _ _ t) ∙ h in
    let c : r.cell.0 ≡ 0 = eqb-true _ _ t in
    let a : r.remaining ≡ Nothing = nothing_is _ (both_left _ _ g) in
    let l : r.loops ≡ 0 = eqb-true _ _ (both_right _ _ g) in
    λ j. record { cell = record { 0 = c j }; remaining = a j; loops = l j }

-- what is known of a record that is not empty
record Held (cells : List Cell) (r : Suspended) : Type 0 where
  cell : is_cell r.cell ≡ true
  count : r.loops ≤ loop_limit
  remaining : suspended_remaining r.remaining (cell_at cells r.cell).instruction ≡ true

held-is : (cells : List Cell) (r : Suspended) → suspended_sound cells r ≡ true → eqb r.cell.0 0 ≡ false → Held cells r
unfolding suspended_sound loop_count_sound
held-is cells r h f =
    let g = sym (choose-false _ _ _ f) ∙ h in
    record {
      cell = both_left _ _ g;
      count = leb-true _ _ (second _ _ _ g);
      remaining = both_right _ _ (both_right _ _ g);
    }

abbrev held_kinds : List Kind
held_kinds = cell ∷ any_signed ∷ Count 0 loop_limit ∷ []

abbrev held_values : Suspended → List ℕ
held_values r = r.cell.0 ∷ remaining_bits r.remaining ∷ r.loops ∷ []

held-valid : (cells : List Cell) (r : Suspended) → Held cells r → all_valid held_kinds (held_values r) ≡ true
unfolding all_valid valid is_cell
held-valid cells r h =
    both_true h.cell
    (both_true (signed-valid _ (remaining-bits _ _ h.remaining)) (both_true (within-valid _ _ h.count) refl))

held_same :
    (cells : List Cell) (r q : Suspended) → Held cells r → Held cells q →
    print_fields held_kinds (held_values r) ≡ print_fields held_kinds (held_values q) → r ≡ q
unfolding all_good every good good_signed both
held_same cells r q g h e =
    let l : held_values r ≡ held_values q =
    print-injective held_kinds _ _ refl (held-valid cells r g) (held-valid cells q h) refl refl (omega arith) e in
    let c : r.cell.0 ≡ q.cell.0 = cc in
    let b : remaining_bits r.remaining ≡ remaining_bits q.remaining = cc in
    let n : r.loops ≡ q.loops = cc in
    let a : r.remaining ≡ q.remaining =
    remaining-same (cell_at cells r.cell).instruction _ _ g.remaining
    (ap (λ (x : ℕ). suspended_remaining q.remaining (cell_at cells (record { 0 = x })).instruction) c ∙ h.remaining) b in
    λ j. record { cell = record { 0 = c j }; remaining = a j; loops = n j }

-- the text of an empty record is shorter than any other's
empty-text : (r q : Suspended) → eqb r.cell.0 0 ≡ true → eqb q.cell.0 0 ≡ false → suspended_text r ≡ suspended_text q → ⊥
unfolding suspended_text print_fields print_field digits
empty-text r q t f e = nil≢cons (ap (drop 4) (sym (choose-true _ _ _ t) ∙ e ∙ choose-false _ _ _ f))

pub suspended-same :
    (cells : List Cell) (r q : Suspended) → suspended_sound cells r ≡ true → suspended_sound cells q ≡ true → suspended_text r ≡ suspended_text q → r ≡ q
unfolding suspended_text
suspended-same cells r q g h e = by (eqb r.cell.0 0) (eqb q.cell.0 0) refl refl
  where
    by : (a b : Bool) → eqb r.cell.0 0 ≡ a → eqb q.cell.0 0 ≡ b → r ≡ q
    by true true s t = empty-is cells r g s ∙ sym (empty-is cells q h t)
    by true false s t = absurd (empty-text r q s t e)
    by false true s t = absurd (empty-text q r t s (sym e))
    by false false s t =
        held_same cells r q (held-is cells r g s) (held-is cells q h t) (sym (choose-false _ _ _ s) ∙ e ∙ choose-false _ _ _ t)
