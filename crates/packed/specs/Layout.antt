-- A row by its outline: how many numbers it has, and the place of the one with a sign. The code goes by these; the rows of kinds say the same.
-- Assumes nothing.
use Rattle.std.specs.Prelude.{ℕ, zero, suc, ◌+◌, ◌≤◌, List, [], ◌++◌, eqb, length, get_or, set, replicate, Option, Some, None}
use Rattle.laws.specs.Tests.{choose}
use Rattle.varint.specs.Groups.{groups, number_at}
use Rattle.varint.specs.Signs.{folded, unfolded}
use Rattle.packed.specs.Rows.{row, on_reading}
use Rattle.packed.specs.declared.rows.Row.{Row}

-- n numbers from place i on, of which the one at place `signed` is folded
unfoldable pub laid_from : ℕ → ℕ → ℕ → List ℕ → List ℕ
laid_from zero signed i vs = []
laid_from (suc n) signed i vs = groups (choose (eqb i signed) (folded (get_or vs i 0)) (get_or vs i 0)) ++ laid_from n signed (suc i) vs

unfoldable pub laid : ℕ → ℕ → List ℕ → List ℕ
laid count signed vs = laid_from count signed 0 vs

-- n numbers read, stored from place i on
unfoldable pub laid_read_from : ℕ → ℕ → List ℕ → ℕ → ℕ → List ℕ → Option Row
laid_read_from zero signed s at i vs = row vs at
laid_read_from (suc n) signed s at i vs =
    on_reading (number_at s at) (λ v next. laid_read_from n signed s next (suc i) (set vs i (choose (eqb i signed) (unfolded v) v)))

unfoldable pub laid_read : ℕ → ℕ → List ℕ → ℕ → Option Row
laid_read count signed s from = laid_read_from count signed s from 0 (replicate 6 0)

-- what reading into six places hands back, with the places afterwards
unfoldable pub parsed_as : Option ℕ → List ℕ → Option Row
parsed_as (Some next) vs = row vs next
parsed_as None vs = None

-- what writing a row into a buffer asks: at most six numbers, and room from the place on
pub record Writable (count signed : ℕ) (vs : List ℕ) (from : ℕ) (buf : List ℕ) : Type 0 where
  pub few : count ≤ 6
  pub room : from + length (laid count signed vs) ≤ length buf
