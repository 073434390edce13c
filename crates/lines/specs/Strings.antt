-- 01, "Bench strings and near misses": the strings of the console's input.
-- Assumes nothing.
use Rattle.std.specs.Prelude.{ℕ, ◌+◌, ◌≡◌, Bool, List, [], ◌∷◌, ◌++◌, length, take, drop, ltb, Option, Some, None}
use Rattle.laws.specs.Tests.{choose}
use Rattle.scan.specs.Bytes.{index_of}
use Rattle.lines.specs.declared.strings.Taken.{Taken}

-- 01: "of a longer string the first 64 bytes and the 13 are given"; s is what stands before the 13
unfoldable pub given : List ℕ → List ℕ
given s = take 64 s ++ (13 ∷ [])

-- what stands before the first 13, or all
unfoldable pub before : List ℕ → List ℕ
before b = take (index_of 13 b) b

-- whether there is a 13
unfoldable pub ends : List ℕ → Bool
ends b = ltb (index_of 13 b) (length b)

-- the string s after the bytes b, up to a 13: as it is given where a 13 ends it, else what is kept of it
unfoldable pub string_after : List ℕ → List ℕ → List ℕ
string_after s b = choose (ends b) (given (s ++ before b)) (take 64 (s ++ before b))

-- what is taken of the bytes b that stand at a place, for the string s
unfoldable pub taken_of : ℕ → List ℕ → List ℕ → Taken
taken_of from b s =
    record {
      length = length (string_after s b);
      next = choose (ends b) (Some (from + index_of 13 b + 1)) None;
    }

-- of a block, from a place on: what is taken for the first n bytes of l, and l', which has the string at its front and its further bytes as they were
pub record Takes (block : List ℕ) (from : ℕ) (l : List ℕ) (n : ℕ) (l' : List ℕ) (r : Taken) : Type 0 where
  pub taken : r ≡ taken_of from (drop from block) (take n l)
  pub now : l' ≡ string_after (take n l) (drop from block) ++ drop (length (string_after (take n l) (drop from block))) l
