-- The starred cases of 01's bench strings: a value and what it is rounded to, or the refusal.
-- Assumes nothing.
use Rattle.std.specs.Prelude.{ℕ, List, [], ◌∷◌, Result, Ok, Err}

-- 01: "* 1→1; * 224→224; * 318→318; * 319→318; * 320→320; * 2200→2181; * 4799→4571; * 4800→4800; 0 and 4801 refused."
unfoldable pub cases : List (ℕ × Result ℕ ℕ)
cases =
    (1, Ok 1) ∷ (224, Ok 224) ∷ (318, Ok 318) ∷ (319, Ok 318) ∷ (320, Ok 320) ∷ (2200, Ok 2181) ∷ (4799, Ok 4571)
    ∷ (4800, Ok 4800) ∷ (0, Err 7) ∷ (4801, Err 7) ∷ []
