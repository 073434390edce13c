-- A row by its kinds and by its outline: the same bytes, written and read.
-- Assumes nothing.
use Prim.Native.Nat.{ℕ, suc, ◌+◌, ◌≤◌, ◌<◌}
use native.Mathlib.Omega.{arith}
use mathlib.Core.Path.{◌≡◌, refl, ap, sym, ◌∙◌}
use mathlib.Core.Bool.{Bool, true, false}
use mathlib.Core.List.{List, [], ◌∷◌, ◌++◌}
use lib.Dec.{eqb}
use lib.ListN.{length, get_or, drop, set, replicate}
use lib.Seq.{drop-cons}
use Rattle.laws.specs.Tests.{choose, both, same}
use Rattle.laws.specs.Tables.{every}
use Rattle.laws.proofs.Tests.{both_left, both_right, choose-true}
use Rattle.fields.specs.Kinds.{is_signed}
use Rattle.fields.specs.declared.kinds.Kind.{Kind}
use Rattle.std.specs.Prelude.{Option, Some, None}
use Rattle.varint.specs.Groups.{groups, number_at}
use Rattle.varint.specs.Signs.{folded, unfolded}
use Rattle.varint.specs.declared.groups.Reading.{Reading}
use Rattle.packed.specs.declared.rows.Row.{Row}
use Rattle.format.specs.Formats.{fields_of, known, field_count, signed_from, signed_place}
use Rattle.format.proofs.Entries.{fields-by}
use Rattle.packed.specs.Rows.{number_for, value_for, row_bytes, on_reading, row_from, read_row}
use Rattle.packed.specs.Layout.{laid_from, laid, laid_read_from, laid_read}

-- the kinds from place i on have a sign at the place `signed` and at no other
unfoldable pub agrees_from : ℕ → List Kind → ℕ → Bool
agrees_from i [] signed = true
agrees_from i (k ∷ ks) signed = both (same (is_signed k) (eqb i signed)) (agrees_from (suc i) ks signed)

unfoldable pub agrees : List Kind → ℕ → Bool
agrees ks signed = agrees_from 0 ks signed

same_test : (a b : Bool) → same a b ≡ true → a ≡ b
unfolding same
same_test true b t = sym t
same_test false true t = t
same_test false false t = refl

-- ---- written

row_laid :
    (ks : List Kind) (signed i : ℕ) (vs : List ℕ) → agrees_from i ks signed ≡ true → i + length ks ≤ length vs →
    row_bytes ks (drop i vs) ≡ laid_from (length ks) signed i vs
unfolding row_bytes laid_from agrees_from number_for
row_laid [] signed i vs a h = refl
row_laid (k ∷ ks) signed i vs a h =
    let v = get_or vs i 0 in
    let here : i < length vs = omega arith in
    let after = row_laid ks signed (suc i) vs (both_right _ _ a) (omega arith) in
    ap (row_bytes (k ∷ ks)) (drop-cons vs i 0 here)
    ∙ ap (λ (b : Bool). groups (choose b (folded v) v) ++ row_bytes ks (drop (suc i) vs)) (same_test _ _ (both_left _ _ a))
    ∙ ap (λ (z : List ℕ). groups (choose (eqb i signed) (folded v) v) ++ z) after

pub laid-row :
    (ks : List Kind) (signed : ℕ) (vs : List ℕ) → agrees ks signed ≡ true → length ks ≤ length vs → row_bytes ks vs ≡ laid (length ks) signed vs
unfolding agrees laid
laid-row ks signed vs a h = row_laid ks signed 0 vs a (omega arith)

-- ---- read

on-each :
    (f g : ℕ → ℕ → Option Row) → ((n next : ℕ) → f n next ≡ g n next) → (r : Option Reading) → on_reading r f ≡ on_reading r g
on-each f g h (Some r) = h r.value r.next
on-each f g h None = refl

from-laid :
    (ks : List Kind) (signed : ℕ) (s : List ℕ) (at i : ℕ) (vs : List ℕ) → agrees_from i ks signed ≡ true →
    row_from ks s at i vs ≡ laid_read_from (length ks) signed s at i vs
unfolding row_from laid_read_from agrees_from value_for
from-laid [] signed s at i vs a = refl
from-laid (k ∷ ks) signed s at i vs a =
    on-each _ _
    (λ n next.
    ap (λ (b : Bool). row_from ks s next (suc i) (set vs i (choose b (unfolded n) n))) (same_test _ _ (both_left _ _ a))
    ∙ from-laid ks signed s next (suc i) (set vs i (choose (eqb i signed) (unfolded n) n)) (both_right _ _ a))
    (number_at s at)

pub laid-read :
    (ks : List Kind) (signed : ℕ) (s : List ℕ) (from : ℕ) → agrees ks signed ≡ true → read_row ks s from ≡ laid_read (length ks) signed s from
unfolding agrees read_row laid_read
laid-read ks signed s from a = from-laid ks signed s from 0 (replicate 6 0) a

-- ---- the rows of the codes

pub codes-agree : (code : ℕ) → agrees (fields_of code) (signed_place (fields_of code)) ≡ true
unfolding agrees agrees_from same both every choose is_signed signed_from signed_place
codes-agree code = fields-by (λ (ks : List Kind). agrees ks (signed_place ks)) code refl refl

pub known-count : (code : ℕ) → known code ≡ true → field_count code ≡ length (fields_of code)
unfolding field_count
known-count code k = choose-true _ _ _ k
