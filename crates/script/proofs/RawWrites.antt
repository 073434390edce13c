-- Raw writes by the tests of their words.
-- Assumes nothing.
use Rattle.std.proofs.Common.{◌≡◌, ℕ, ◌-◌, ◌<◌, ◌≤◌, true, false, eqb, leb, List, [], ◌∷◌, length, refl, arith, le-ltb, lt-ltb, eq-eqb, ne_eqb, leb-true}
use Rattle.laws.specs.Tests.{choose, both, either}
use Rattle.laws.specs.Tables.{every}
use Rattle.laws.specs.Text.{bytes}
use Rattle.laws.proofs.Tests.{both_left, both_right}
use Rattle.std.specs.Prelude.{Err}
use Rattle.format.specs.Formats.{Entry, formats, known_in, known, fields_of}
use Rattle.script.specs.Words.{same_bytes, place_of}
use Rattle.script.specs.Writes.{field_names, field_of, output_of}
use Rattle.script.specs.Writes.{address_of, is_cell, field_count, takes_count, cell_of, cell_numbers}
use Rattle.script.specs.Writes.{name_of, named_field, write_of, numbers_of}
use Rattle.script.specs.declared.call.Complaint.TheVariants.{UnknownName}
use Rattle.script.proofs.Naming.{same-eq, names_count}

-- ---- how many numbers a code takes

-- a code above 99 is none
known_in-large : (es : List Entry) (code : ℕ) → every (λ (e : Entry). leb e.code 99) es ≡ true → 99 < code → known_in es code ≡ false
unfolding known_in every either
known_in-large [] code t h = refl
known_in-large (e ∷ es) code t h =
    let small : e.code ≤ 99 = leb-true _ _ (both_left _ _ t) in
    rw (ne_eqb code e.code (λ w. omega arith)) (known_in-large es code (both_right _ _ t) h)

pub known-large : (code : ℕ) → 99 < code → known code ≡ false
unfolding known every both
known-large code h = known_in-large formats code refl h

module _ (code count : ℕ) where
  pub takes-any : known code ≡ false → true ≡ takes_count code count
  unfolding takes_count choose
  takes-any t = simp t

  pub takes_one : known code ≡ true → length (fields_of code) ≡ 0 → eqb count 1 ≡ takes_count code count
  unfolding takes_count field_count choose
  takes_one t e = simp (t, eq-eqb (length (fields_of code)) 0 e)

  pub takes-fields : known code ≡ true → (length (fields_of code) ≡ 0 → ⊥) → eqb count (length (fields_of code)) ≡ takes_count code count
  unfolding takes_count field_count choose
  takes-fields t n = simp (t, ne_eqb (length (fields_of code)) 0 n)

-- ---- a line

module _ (ws : List (List ℕ)) where
  pub write-output : same_bytes (name_of ws) (bytes "out") ≡ true → output_of ws ≡ write_of ws
  unfolding write_of choose
  write-output t = simp t

  pub write_cell :
      same_bytes (name_of ws) (bytes "out") ≡ false → is_cell (address_of (name_of ws)) ≡ true → cell_of ws (address_of (name_of ws) - 100) ≡ write_of ws
  unfolding write_of choose
  write_cell o t = simp (o, t)

  pub write-unknown :
      same_bytes (name_of ws) (bytes "out") ≡ false → is_cell (address_of (name_of ws)) ≡ false → 19 ≤ place_of (name_of ws) field_names →
      Err UnknownName ≡ write_of ws
  unfolding write_of named_field choose
  write-unknown o t h = simp (o, t, names_count.1.1, le-ltb (place_of (name_of ws) field_names) 19 h)

  pub write-field :
      same_bytes (name_of ws) (bytes "out") ≡ false → is_cell (address_of (name_of ws)) ≡ false → place_of (name_of ws) field_names < 19 →
      field_of ws (place_of (name_of ws) field_names) ≡ write_of ws
  unfolding write_of named_field choose
  write-field o t h = simp (o, t, names_count.1.1, lt-ltb (place_of (name_of ws) field_names) 19 h)

-- ---- the numbers after it

module _ (ws : List (List ℕ)) (numbers : List ℕ) where
  pub numbers-cell : is_cell (address_of (name_of ws)) ≡ true → cell_numbers ws numbers ≡ numbers_of ws numbers
  unfolding numbers_of choose
  numbers-cell t = simp t

  pub numbers-kept : is_cell (address_of (name_of ws)) ≡ false → numbers ≡ numbers_of ws numbers
  unfolding numbers_of choose
  numbers-kept t = simp t

  -- an output's line names no cell
  pub numbers-output : same_bytes (name_of ws) (bytes "out") ≡ true → numbers ≡ numbers_of ws numbers
  unfolding numbers_of is_cell address_of choose both bytes
  numbers-output t = rw (same-eq (name_of ws) (bytes "out") t)
