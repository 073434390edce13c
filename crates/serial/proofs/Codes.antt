-- The codes that the checks look for, as one number each.
-- Assumes nothing.
use Prim.Native.Nat.{ℕ}
use mathlib.Core.Path.{◌≡◌}
use mathlib.Core.Bool.{Bool, true, ◌||◌}
use lib.Dec.{eqb}
use Rattle.laws.specs.Tests.{either}
use Rattle.laws.specs.Text.{bytes}
use Rattle.laws.proofs.Joins.{or-either}
use Rattle.fields.specs.Names.{pair_of}
use Rattle.machine.specs.Commands.{is_code}
use Rattle.machine.specs.Strings.{is_stop, to_every, permitted}
use Rattle.machine.specs.declared.commands.Header.{Header}

-- EE is 17733, ES 17747
pub stop-code : (k : ℕ) → eqb k 17733 || eqb k 17747 ≡ is_stop k
unfolding is_stop is_code pair_of bytes
stop-code k = or-either _ _

-- WS is 22355
pub permitted-code : (h : Header) {stop : Bool} → stop ≡ is_stop h.code → to_every h ≡ true → eqb h.code 22355 || stop ≡ permitted h
unfolding permitted is_code pair_of bytes either
permitted-code h i t = rw (t, i) (or-either (eqb h.code 22355) (is_stop h.code))
