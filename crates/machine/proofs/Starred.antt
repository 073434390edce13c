-- The starred cases hold, by computation.
-- Assumes nothing.
use mathlib.Core.Path.{◌≡◌, refl}
use mathlib.Core.Bool.{true}
use Rattle.laws.specs.Tables.{every}
use Rattle.machine.specs.Cases.{send, send_all, replies, holds, starred}
use Rattle.machine.proofs.Computing.{computing}

pub starred-hold : every holds starred ≡ true
unfolding computing send send_all replies holds starred
starred-hold = refl
