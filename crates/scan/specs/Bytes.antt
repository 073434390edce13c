-- Where a byte stands in a list, and a part of a list.
-- Assumes nothing.
use Rattle.std.specs.Prelude.{ℕ, suc, Bool, true, false, List, [], ◌∷◌, take, drop, ◌==◌}

-- a place, given the one among the elements behind the first: 0 where the first is what is looked for
unfoldable pub index_after : Bool → ℕ → ℕ
index_after true n = 0
index_after false n = suc n

-- the first place of a byte, or how many elements there are
unfoldable pub index_of : ℕ → List ℕ → ℕ
index_of b [] = 0
index_of b (x ∷ xs) = index_after (x == b) (index_of b xs)

-- the elements from a place on, up to another
unfoldable pub slice : ℕ → ℕ → List ℕ → List ℕ
slice from to s = drop from (take to s)
