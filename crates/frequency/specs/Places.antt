-- A frequency by its place in the table, from 0.
-- Assumes nothing.
use Rattle.std.specs.Prelude.{ℕ, ◌+◌, ◌-◌, List, [], ◌∷◌, leb, get_or}
use Rattle.laws.specs.Tests.{choose}
use Rattle.frequency.specs.declared.Frequency.{Frequency}
use Rattle.frequency.specs.Table.{frequencies}

-- the frequency at a place, in hertz
unfoldable pub hertz_of : Frequency → ℕ
hertz_of f = get_or frequencies f.0 0

-- how many numbers of a list are not above v
unfoldable pub not_above : ℕ → List ℕ → ℕ
not_above v [] = 0
not_above v (x ∷ xs) = choose (leb x v) 1 0 + not_above v xs

-- the place of the last frequency not above v
unfoldable pub place_of : ℕ → Frequency
place_of v = record { 0 = not_above v frequencies - 1 }
