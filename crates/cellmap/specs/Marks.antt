-- A set of cells as a list of marks, one for each place.
-- Assumes nothing.
use Rattle.std.specs.Prelude.{ℕ, ◌+◌, Bool, true, false, List, [], ◌∷◌, get_or, set, replicate}
use Rattle.laws.specs.Tests.{choose}

-- no cell of 131
abbrev pub no_marks : List Bool
no_marks = replicate 131 false

abbrev pub is_marked : List Bool → ℕ → Bool
is_marked marks k = get_or marks k false

abbrev pub marked : List Bool → ℕ → List Bool
marked marks k = set marks k true

-- how many places have no mark
unfoldable pub unmarked : List Bool → ℕ
unmarked [] = 0
unmarked (b ∷ bs) = choose b 0 1 + unmarked bs
