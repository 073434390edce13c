-- What is written of a sound cell is read back, at any place and whatever follows; what is written for the cell that is read stands there.
-- The same of cells one after another.
-- Assumes nothing.
use Prim.Native.Nat.{ℕ, zero, suc, ◌+◌, ◌*◌, ◌^◌, ◌≤◌, ◌<◌}
use native.Mathlib.Omega.{arith}
use mathlib.Core.Path.{◌≡◌, refl, sym, ap, ◌∙◌}
use mathlib.Core.Bool.{Bool, true}
use mathlib.Core.List.{List, [], ◌∷◌, ◌++◌, append_assoc}
use lib.Dec.{ltb}
use lib.ListN.{length, drop, set, length-append, length-set}
use lib.Seq.{sets}
use borrow.Author.Tests.{ltb-true}
use Rattle.laws.specs.Tests.{both}
use Rattle.laws.specs.Tables.{every}
use Rattle.laws.proofs.Tests.{choose-by, choose-true, both_left, both_right}
use Rattle.std.specs.Prelude.{Option, Some, None}
use Rattle.std.proofs.lemmas.List.{set-append_left}
use Rattle.std.proofs.lemmas.Option.{same_Some, some_pair_parts}
use Rattle.varint.specs.Groups.{groups, number_at, found}
use Rattle.varint.specs.declared.groups.Reading.{Reading}
use Rattle.varint.proofs.RoundTrip.{length-groups, number-back, number-stands}
use Rattle.format.specs.Formats.{fields_of, known, codes}
use Rattle.format.proofs.Entries.{formats-good, formats-few, known_by}
use Rattle.instruction.specs.Codes.{code_of}
use Rattle.instruction.specs.Numbers.{numbers_of, cell_of, same_numbers}
use Rattle.instruction.specs.Soundness.{cell_sound}
use Rattle.instruction.specs.declared.Instruction.{Instruction}
use Rattle.instruction.specs.declared.Cell.{Cell}
use Rattle.instruction.proofs.Numbering.{known-code, numbers-zeros, length-numbers, cell-numbers, same-numbers, numbers-same}
use Rattle.instruction.proofs.Storing.{code-cell}
use Rattle.packed.specs.Rows.{row, row_bytes, read_row}
use Rattle.packed.specs.Cells.{held, cell_bytes, cell_by, cell_after, cell_in, cells_bytes, ReadCells, on_cell, cells_from}
use Rattle.packed.specs.declared.rows.Row.{Row}
use Rattle.packed.specs.declared.cells.ReadCell.{ReadCell}
use Rattle.packed.proofs.RoundTrip.{length-row, row_back, row-stands}
use Rattle.packed.proofs.CellSteps.{after-known}

-- ---- how many bytes

pub length-cell : (c : Cell) → length (cell_bytes c) ≤ 35
unfolding cell_bytes
length-cell c =
    let code = code_of c.instruction in
    omega (
      arith,
      length-append (groups code) (row_bytes (fields_of code) (numbers_of c)),
      (length-groups code).1,
      length-row (fields_of code) (numbers_of c),
      formats-few code,
    )

-- ---- what is written is read

-- every code is a number of 32 bits
small_code : ℕ → Bool
small_code code = ltb code (2 ^ 32)

code-small : (i : Instruction) → code_of i < 2 ^ 32
unfolding small_code every both
code-small i = ltb-true (code_of i) (2 ^ 32) (known_by small_code (code_of i) refl (known-code i))

-- a sound cell from its code and its own numbers
by-own : (c : Cell) (at : ℕ) → cell_sound c ≡ true → cell_by (code_of c.instruction) (row (numbers_of c) at) ≡ held c at
unfolding cell_by
by-own c at s =
    let same = cell-numbers c s in
    rw same (choose-true _ _ None (same-numbers (numbers_of c)))

pub cell-back :
    (c : Cell) (pre rest : List ℕ) → cell_sound c ≡ true →
    cell_in codes (pre ++ (cell_bytes c ++ rest)) (length pre) ≡ held c (length pre + length (cell_bytes c))
unfolding cell_bytes cell_in cell_sound
cell-back c pre rest s =
    let code = code_of c.instruction in
    let ks = fields_of code in
    let g = groups code in
    let p = row_bytes ks (numbers_of c) in
    let few : length ks ≤ length (numbers_of c) = omega (arith, length-numbers c, formats-few code) in
    let end : length (pre ++ g) + length p ≡ length pre + length (g ++ p) = omega (arith, length-append pre g, length-append g p) in
    ap (λ (x : List ℕ). cell_after codes (pre ++ x) (number_at (pre ++ x) (length pre))) (append_assoc g p rest)
    ∙ ap (cell_after codes (pre ++ (g ++ (p ++ rest)))) (number-back code pre (p ++ rest) (code-small c.instruction))
    ∙ after-known (pre ++ (g ++ (p ++ rest))) code (length pre + length g) (known-code c.instruction)
    ∙ ap (λ (x : List ℕ). cell_by code (read_row ks x (length pre + length g))) (sym (append_assoc pre g (p ++ rest)))
    ∙ ap (λ (n : ℕ). cell_by code (read_row ks ((pre ++ g) ++ (p ++ rest)) n)) (sym (length-append pre g))
    ∙ ap (cell_by code) (row_back ks (numbers_of c) (pre ++ g) rest (formats-good code) (both_left _ _ s) (formats-few code) few)
    ∙ ap (λ (ws : List ℕ). cell_by code (row ws (length (pre ++ g) + length p))) (sym (numbers-zeros c))
    ∙ by-own c (length (pre ++ g) + length p) s
    ∙ ap (held c) end

-- ---- what is read was written

-- the parts of equal readings of a cell
held_parts : (c : Cell) (next : ℕ) (r : ReadCell) → Some r ≡ held c next → (r.cell ≡ c) × (r.next ≡ next)
held_parts c next r e =
    let same = same_Some r (record { cell = c; next = next }) e in
    (ap (λ (x : ReadCell). x.cell) same, ap (λ (x : ReadCell). x.next) same)

-- of a known code whose numbers the cell made of them has
stands :
    (s : List ℕ) (at code n : ℕ) (c : Cell) (next : ℕ) (p : Row) → number_at s at ≡ found code n → known code ≡ true →
    read_row (fields_of code) s n ≡ Some p → same_numbers (numbers_of (cell_of code p.values)) p.values ≡ true →
    held (cell_of code p.values) p.next ≡ held c next → drop at s ≡ cell_bytes c ++ drop next s
unfolding cell_bytes
stands s at code n c next p e k q b h =
    let parts = held_parts c next (record { cell = cell_of code p.values; next = p.next }) h in
    let d = parts.0 in
    let ks = fields_of code in
    let row = row-stands ks s n p (formats-few code) q in
    let own : code_of c.instruction ≡ code = ap (λ (x : Cell). code_of x.instruction) (sym d) ∙ code-cell code p.values k in
    let same : numbers_of c ≡ p.values = ap numbers_of (sym d) ∙ numbers-same _ _ b in
    let whole : groups code ++ row_bytes ks p.values ≡ cell_bytes c = rw (own, same) in
    (number-stands s at code n e).bytes ∙ ap (λ (z : List ℕ). groups code ++ z) row.bytes
    ∙ sym (append_assoc (groups code) (row_bytes ks p.values) (drop p.next s))
    ∙ ap (λ (z : List ℕ). z ++ drop p.next s) whole ∙ ap (λ (m : ℕ). cell_bytes c ++ drop m s) parts.1

pub cell-stands : (s : List ℕ) (at : ℕ) (c : Cell) (next : ℕ) → cell_in codes s at ≡ held c next → drop at s ≡ cell_bytes c ++ drop next s
unfolding cell_in cell_after cell_by
cell-stands s at c next = by_number (number_at s at) refl
  where
    Right : Option ReadCell → Type 0
    Right x = x ≡ held c next → drop at s ≡ cell_bytes c ++ drop next s

    wrong : Right None
    wrong h = absurd (cc)

    by_row : (r : Reading) → number_at s at ≡ Some r → known r.value ≡ true → (p : Option Row) → read_row (fields_of r.value) s r.next ≡ p →
        Right (cell_by r.value p)
    by_row r e k None q = wrong
    by_row r e k (Some p) q = choose-by Right _ (λ b. stands s at r.value r.next c next p e k q b) (λ b. wrong)

    by_number : (r : Option Reading) → number_at s at ≡ r → Right (cell_after codes s r)
    by_number None e = wrong
    by_number (Some r) e = choose-by Right _ (λ k. by_row r e k (read_row (fields_of r.value) s r.next) refl) (λ k. wrong)

-- ---- cells one after another

pub length-cells : (cs : List Cell) → length (cells_bytes cs) ≤ 35 * length cs
unfolding cells_bytes
length-cells [] = omega arith
length-cells (c ∷ cs) = omega (arith, length-append (cell_bytes c) (cells_bytes cs), length-cell c, length-cells cs)

-- one cell more
cells-step :
    (n : ℕ) (s : List ℕ) (at i : ℕ) (l : List Cell) (c : Cell) (next : ℕ) → cell_in codes s at ≡ held c next →
    cells_from codes (suc n) s at i l ≡ cells_from codes n s next (suc i) (set l i c)
unfolding cells_from
cells-step n s at i l c next e = ap (λ (r : Option ReadCell). on_cell r (λ c next. cells_from codes n s next (suc i) (set l i c))) e

pub cells-back :
    (cs : List Cell) (pre rest : List ℕ) (i : ℕ) (l : List Cell) → every cell_sound cs ≡ true →
    cells_from codes (length cs) (pre ++ (cells_bytes cs ++ rest)) (length pre) i l
    ≡ Some (sets l i cs, length pre + length (cells_bytes cs))
unfolding cells_from cells_bytes every
cells-back [] pre rest i l t = ap (λ (k : ℕ). Some (l, k)) (omega arith)
cells-back (c ∷ cs) pre rest i l t =
    let b = cell_bytes c in
    let r = cells_bytes cs in
    let long : length (pre ++ b) ≡ length pre + length b = length-append pre b in
    let s = pre ++ (b ++ (r ++ rest)) in
    ap (λ (x : List ℕ). cells_from codes (suc (length cs)) (pre ++ x) (length pre) i l) (append_assoc b r rest)
    ∙ cells-step (length cs) s (length pre) i l c (length pre + length b) (cell-back c pre (r ++ rest) (both_left _ _ t))
    ∙ ap (λ (x : List ℕ). cells_from codes (length cs) x (length pre + length b) (suc i) (set l i c)) (sym (append_assoc pre b (r ++ rest)))
    ∙ ap (λ (a : ℕ). cells_from codes (length cs) ((pre ++ b) ++ (r ++ rest)) a (suc i) (set l i c)) (sym long)
    ∙ cells-back cs (pre ++ b) rest (suc i) (set l i c) (both_right _ _ t)
    ∙ ap (λ (k : ℕ). Some (sets l i (c ∷ cs), k)) (omega (arith, long, length-append b r))

-- the cells ws, stored in l from place i on, are those of the bytes from place at to the place reached
pub record CellsStand (n : ℕ) (s : List ℕ) (at i : ℕ) (l cells : List Cell) (next : ℕ) : Type 0 where
  pub ws : List Cell
  pub many : length ws ≡ n
  pub stored : cells ≡ sets l i ws
  pub bytes : drop at s ≡ cells_bytes ws ++ drop next s

stand-step :
    (n : ℕ) (s : List ℕ) (at i : ℕ) (l cells : List Cell) (c : Cell) (next end : ℕ) → drop at s ≡ cell_bytes c ++ drop next s →
    CellsStand n s next (suc i) (set l i c) cells end → CellsStand (suc n) s at i l cells end
unfolding cells_bytes
stand-step n s at i l cells c next end d h =
    record {
      ws = c ∷ h.ws;
      many = ap suc h.many;
      stored = h.stored;
      bytes =
          d ∙ ap (λ (z : List ℕ). cell_bytes c ++ z) h.bytes
          ∙ sym (append_assoc (cell_bytes c) (cells_bytes h.ws) (drop end s));
    }

on-stand :
    (n : ℕ) (s : List ℕ) (at i : ℕ) (l cells : List Cell) (end : ℕ) (f : Cell → ℕ → ReadCells) →
    ((c : Cell) (next : ℕ) → f c next ≡ Some (cells, end) → CellsStand n s next (suc i) (set l i c) cells end) →
    (r : Option ReadCell) → cell_in codes s at ≡ r → on_cell r f ≡ Some (cells, end) → CellsStand (suc n) s at i l cells end
on-stand n s at i l cells end f h (Some r) e t =
    stand-step n s at i l cells r.cell r.next end (cell-stands s at r.cell r.next e) (h r.cell r.next t)
on-stand n s at i l cells end f h None e t = absurd (cc)

pub cells-stand :
    (n : ℕ) (s : List ℕ) (at i : ℕ) (l cells : List Cell) (next : ℕ) → cells_from codes n s at i l ≡ Some (cells, next) →
    CellsStand n s at i l cells next
unfolding cells_from cells_bytes
cells-stand zero s at i l cells end t =
    let e = some_pair_parts l cells at end t in
    record { ws = []; many = refl; stored = sym e.0; bytes = ap (λ (k : ℕ). drop k s) e.1 }
cells-stand (suc n) s at i l cells end t =
    on-stand n s at i l cells end (λ c next. cells_from codes n s next (suc i) (set l i c))
    (λ c next. cells-stand n s next (suc i) (set l i c) cells end) (cell_in codes s at) refl t

-- cells read into the front of a memory, of which the rest stays
abbrev pub with_rest : List Cell → ReadCells → ReadCells
with_rest rest (Some (cells, next)) = Some (cells ++ rest, next)
with_rest rest None = None

on-cell_rest :
    (rest : List Cell) (f g : Cell → ℕ → ReadCells) → ((c : Cell) (next : ℕ) → f c next ≡ with_rest rest (g c next)) →
    (r : Option ReadCell) → on_cell r f ≡ with_rest rest (on_cell r g)
on-cell_rest rest f g h None = refl
on-cell_rest rest f g h (Some r) = h r.cell r.next

pub cells-front :
    (n : ℕ) (s : List ℕ) (at i : ℕ) (l rest : List Cell) → i + n ≤ length l →
    cells_from codes n s at i (l ++ rest) ≡ with_rest rest (cells_from codes n s at i l)
unfolding cells_from
cells-front zero s at i l rest h = refl
cells-front (suc n) s at i l rest h =
    on-cell_rest rest (λ c next. cells_from codes n s next (suc i) (set (l ++ rest) i c)) (λ c next. cells_from codes n s next (suc i) (set l i c))
    (λ c next. ap (cells_from codes n s next (suc i)) (set-append_left l rest i c (omega arith))
    ∙ cells-front n s next (suc i) (set l i c) rest (simp length-set (omega arith)))
    (cell_in codes s at)
