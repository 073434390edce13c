-- What giving a string asks.
-- Assumes nothing.
use Rattle.std.specs.Prelude.{ℕ, ◌≤◌, ◌≡◌, true, List, length}
use Rattle.machine.specs.Soundness.{sound}
use Rattle.machine.specs.declared.Machine.{Machine}

-- a sound drive, and a buffer of 64 bytes
pub record Tellable (m : Machine) (buffer : List ℕ) : Type 0 where
  pub sound : sound m ≡ true
  pub room : 64 ≤ length buffer
