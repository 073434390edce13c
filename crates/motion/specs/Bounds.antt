-- What a sound cell keeps to, where a function needs that a number fits.
-- Assumes nothing.
use Rattle.std.specs.Prelude.{ℕ, ◌≤◌}

-- 01: "FF in the ramp codes is 03 to 24 thousand Hz": no run is faster
pub record WithinHertz (n : ℕ) : Type 0 where
  pub within : n ≤ 24000
