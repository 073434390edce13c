-- 01's starred cases hold by computation.
-- Assumes nothing.
use Prim.Native.Nat.{ℕ}
use mathlib.Core.Path.{◌≡◌, refl}
use mathlib.Core.List.{map}
use Rattle.laws.specs.Tests.{choose}
use Rattle.std.specs.Prelude.{Result}
use Rattle.frequency.specs.Rounding.{round_of, rounded_of}
use Rattle.frequency.specs.Cases.{cases}

pub cases-hold : map (λ (x : ℕ × Result ℕ ℕ). rounded_of x.0) cases ≡ map (λ (x : ℕ × Result ℕ ℕ). x.1) cases
unfolding cases rounded_of round_of choose
cases-hold = refl
