-- One step of the search for a byte, and its end.
-- Assumes nothing.
use Rattle.std.proofs.Common.{◌≡◌, ℕ, ◌+◌, ◌<◌, ◌≤◌, List, ◌∷◌, length, get_or, take, length-take, length-take-le, get_or-take, drop_of_length-le, arith, add-one, drop-cons, eq-eqb, ne_eqb}
use Rattle.scan.specs.Bytes.{index_after, index_of, slice}

-- a part that is not empty begins with the element at its place
slice-cons :
    (at to : ℕ) (s : List ℕ) → at < to → to ≤ length s →
    slice at to s ≡ get_or s at 0 ∷ slice (at + 1) to s
unfolding slice
slice-cons at to s h k =
    let room : at < length (take to s) = rw (length-take-le to s k) h in
    rw (drop-cons (take to s) at 0 room, get_or-take to s at 0 h, add-one at)

-- the byte stands here
pub found :
    (b at to : ℕ) (s : List ℕ) → at < to → to ≤ length s → get_or s at 0 ≡ b →
    at + index_of b (slice at to s) ≡ at
unfolding index_of index_after
found b at to s h k e = rw (slice-cons at to s h k) (simp (eq-eqb (get_or s at 0) b e) (omega arith))

-- it does not stand here
pub passed :
    (b at to : ℕ) (s : List ℕ) → at < to → to ≤ length s → (get_or s at 0 ≡ b → ⊥) →
    at + index_of b (slice at to s) ≡ at + 1 + index_of b (slice (at + 1) to s)
unfolding index_of index_after
passed b at to s h k n =
    rw (slice-cons at to s h k) (simp (ne_eqb (get_or s at 0) b n) (omega arith))

within : (to : ℕ) (s : List ℕ) → length (take to s) ≤ to
within to s = rw (length-take to s) (omega arith)

-- it stands nowhere
pub found_none : (b to : ℕ) (s : List ℕ) → to + index_of b (slice to to s) ≡ to
unfolding index_of slice
found_none b to s = rw (drop_of_length-le (take to s) (within to s)) (omega arith)
