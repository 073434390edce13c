-- A string that ends in byte 13 is not empty.
-- Assumes nothing.
use Prim.Native.Nat.{ℕ, ◌≤◌}
use mathlib.Core.Path.{◌≡◌}
use mathlib.Core.Bool.{true}
use mathlib.Core.List.{List}
use lib.ListN.{length}
use borrow.Author.Tests.{leb-true}
use Rattle.laws.proofs.Tests.{both_left}
use Rattle.machine.specs.Strings.{ended}

pub ended-length : (b : List ℕ) → ended b ≡ true → 1 ≤ length b
unfolding ended
ended-length b t = leb-true 1 (length b) (both_left _ _ t)
