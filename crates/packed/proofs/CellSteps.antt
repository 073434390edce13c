-- Each way through reading a cell, and each piece of writing it.
-- Assumes nothing.
use Prim.Native.Nat.{ℕ, ◌+◌, ◌≤◌, ◌<◌}
use native.Mathlib.Omega.{arith}
use mathlib.Core.Path.{◌≡◌, ap, sym, ◌∙◌}
use mathlib.Core.Bool.{Bool, true, false}
use mathlib.Core.List.{List, ◌++◌}
use lib.ListN.{length, length-append}
use lib.Seq.{length-sets}
use Rattle.laws.specs.Writing.{Put}
use Rattle.laws.proofs.Tests.{choose-by, choose-true, choose-false}
use Rattle.std.specs.Prelude.{Option, Some, None}
use Rattle.varint.specs.Groups.{groups, number_at, found}
use Rattle.format.specs.Formats.{fields_of, known, field_count, signed_place, codes}
use Rattle.format.proofs.Entries.{formats-few}
use Rattle.instruction.specs.Codes.{code_of}
use Rattle.instruction.specs.Numbers.{numbers_of, cell_of, same_numbers}
use Rattle.instruction.specs.declared.Cell.{Cell}
use Rattle.instruction.proofs.Numbering.{length-numbers}
use Rattle.packed.specs.Rows.{row_bytes, read_row}
use Rattle.packed.specs.Layout.{laid, laid_read, Writable}
use Rattle.packed.specs.Cells.{held, cell_bytes, cell_by, cell_after, cell_in}
use Rattle.packed.specs.declared.rows.Row.{Row}
use Rattle.packed.proofs.Outlines.{laid-row, laid-read, codes-agree, known-count}

-- ---- reading

pub cell-refused : (s : List ℕ) (at : ℕ) → number_at s at ≡ None → cell_in codes s at ≡ None
unfolding cell_in cell_after
cell-refused s at e = ap (cell_after codes s) e

pub after-known :
    (s : List ℕ) (code next : ℕ) → known code ≡ true → cell_after codes s (found code next) ≡ cell_by code (read_row (fields_of code) s next)
unfolding cell_after
after-known s code next k = choose-true _ _ None k

-- a count above six is that of no code, one up to six that of a code
many-unknown : (code : ℕ) → 6 < field_count code → known code ≡ false
unfolding field_count
many-unknown code =
    choose-by (λ (n : ℕ). 6 < n → known code ≡ false) (known code) (λ t h. absurd (omega (arith, formats-few code))) (λ t h. t)

few-known : (code : ℕ) → field_count code ≤ 6 → known code ≡ true
unfolding field_count
few-known code = choose-by (λ (n : ℕ). n ≤ 6 → known code ≡ true) (known code) (λ t h. t) (λ t h. absurd (omega arith))

pub cell-unknown :
    (s : List ℕ) (at code next : ℕ) {count : ℕ} → number_at s at ≡ found code next → count ≡ field_count code → 6 < count → cell_in codes s at ≡ None
unfolding cell_in cell_after
cell-unknown s at code next e c h = ap (cell_after codes s) e ∙ choose-false _ _ None (many-unknown code (omega (arith, c)))

-- the row of a code, read by its outline
row_read :
    (code : ℕ) (s : List ℕ) (from : ℕ) {count signed : ℕ} → known code ≡ true → count ≡ field_count code → signed ≡ signed_place (fields_of code) →
    read_row (fields_of code) s from ≡ laid_read count signed s from
row_read code s from {count} {signed} k c d =
    let ks = fields_of code in
    laid-read ks (signed_place ks) s from (codes-agree code)
    ∙ ap (λ (n : ℕ). laid_read n (signed_place ks) s from) (sym (c ∙ known-count code k))
    ∙ ap (λ (n : ℕ). laid_read count n s from) (sym d)

pub cell-known :
    (s : List ℕ) (at code next : ℕ) {count signed : ℕ} {p : Option Row} → number_at s at ≡ found code next → count ≡ field_count code → count ≤ 6 →
    signed ≡ signed_place (fields_of code) → p ≡ laid_read count signed s next → cell_in codes s at ≡ cell_by code p
unfolding cell_in
cell-known s at code next e c h d q =
    let k : known code ≡ true = few-known code (omega (arith, c)) in
    ap (cell_after codes s) e ∙ after-known s code next k ∙ ap (cell_by code) (row_read code s next k c d ∙ sym q)

-- the row is wrong; its numbers are of no cell, or of one
pub by-refused : (code : ℕ) {p : Option Row} → p ≡ None → cell_by code p ≡ None
unfolding cell_by
by-refused code e = ap (cell_by code) e

pub by-other :
    (code : ℕ) (r : Row) {p : Option Row} {h : Bool} → p ≡ Some r → h ≡ same_numbers (numbers_of (cell_of code r.values)) r.values → h ≡ false →
    cell_by code p ≡ None
unfolding cell_by
by-other code r e q t = ap (cell_by code) e ∙ choose-false _ _ None (sym q ∙ t)

pub by-same :
    (code : ℕ) (r : Row) {p : Option Row} {h : Bool} → p ≡ Some r → h ≡ same_numbers (numbers_of (cell_of code r.values)) r.values → h ≡ true →
    cell_by code p ≡ held (cell_of code r.values) r.next
unfolding cell_by
by-same code r e q t = ap (cell_by code) e ∙ choose-true _ _ None (sym q ∙ t)

-- ---- writing

module _ (c : Cell) (n count signed : ℕ) (vs : List ℕ) where
  -- the bytes, as the code's number and the row's numbers are written
  pub bytes-laid : n ≡ code_of c.instruction → count ≡ length (fields_of (code_of c.instruction)) → signed ≡ signed_place (fields_of n) → vs ≡ numbers_of c →
      groups n ++ laid count signed vs ≡ cell_bytes c
  unfolding cell_bytes
  bytes-laid m p q v =
      let code = code_of c.instruction in
      let ks = fields_of code in
      let place : signed ≡ signed_place ks = q ∙ ap (λ (k : ℕ). signed_place (fields_of k)) m in
      let few : length ks ≤ length (numbers_of c) = omega (arith, length-numbers c, formats-few code) in
      let row = ap (λ (k : ℕ). laid k signed vs) p ∙ ap (λ (k : ℕ). laid (length ks) k vs) place ∙ ap (laid (length ks) (signed_place ks)) v
      ∙ sym (laid-row ks (signed_place ks) (numbers_of c) (codes-agree code) few) in
      ap (λ (k : ℕ). groups k ++ laid count signed vs) m ∙ ap (λ (z : List ℕ). groups code ++ z) row

  pub row-writable : (at next : ℕ) (buf buf' : List ℕ) → at + length (cell_bytes c) ≤ length buf → n ≡ code_of c.instruction →
      count ≡ length (fields_of (code_of c.instruction)) → signed ≡ signed_place (fields_of n) → vs ≡ numbers_of c → Put buf buf' (groups n) at next →
      Writable count signed vs next buf'
  row-writable at next buf buf' h m p q v w =
      let code = code_of c.instruction in
      let t = ap length (bytes-laid m p q v) in
      let u = length-append (groups n) (laid count signed vs) in
      let k = ap length w.now ∙ length-sets buf at (groups n) in
      record { few = omega (arith, p, formats-few code); room = omega (arith, w.next) }

pub code-room :
    (c : Cell) (at n size : ℕ) → at + length (cell_bytes c) ≤ size → n ≡ code_of c.instruction → at + length (groups n) ≤ size
unfolding cell_bytes
code-room c at n size h m =
    let code = code_of c.instruction in
    rw m (omega (arith, length-append (groups code) (row_bytes (fields_of code) (numbers_of c))))
