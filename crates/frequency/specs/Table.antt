-- The board's table of step frequencies, and its rule.
-- Assumes nothing.
use Rattle.std.specs.Prelude.{ℕ, zero, suc, ◌+◌, ◌/◌, ◌≤◌, ◌<◌, ◌≡◌, length, get_or}
use mathlib.Core.List.{List, [], ◌∷◌, Memᴰ}

-- 01: "every whole part of 96,000 / d, d from 20 to 96,000"
pub record WholePart (v : ℕ) : Type 0 where
  pub divisor : ℕ
  pub least : 20 ≤ divisor
  pub most : divisor ≤ 96000
  pub whole : v ≡ 96000 / divisor

-- 01: "the table is every whole part of 96,000 / d, d from 20 to 96,000, rising, 599 numbers from 1 to 4800"
pub record Rule (t : List ℕ) : Type 0 where
  pub count : length t ≡ 599
  pub first : get_or t 0 0 ≡ 1
  pub last : get_or t 598 0 ≡ 4800
  pub rises : (k : ℕ) → suc k < 599 → get_or t k 0 < get_or t (suc k) 0
  pub each : (k : ℕ) → k < 599 → WholePart (get_or t k 0)
  pub complete : (v : ℕ) → WholePart v → Memᴰ v t

-- the next greater whole part
unfoldable pub following : ℕ → ℕ
following v = 96000 / (96000 / (v + 1))

-- n numbers from v on, each the next greater
unfoldable pub rising : ℕ → ℕ → List ℕ
rising zero v = []
rising (suc n) v = v ∷ rising n (following v)

-- 01: "599 numbers from 1"
unfoldable pub frequencies : List ℕ
frequencies = rising 599 1
