-- `acted` meets its contract: each arm is a clause of the definition.
-- Assumes nothing.
use Prim.Native.Nat.{ℕ, ◌<◌}
use native.Mathlib.Omega.{arith}
use mathlib.Core.Path.{◌≡◌, sym, ap, ◌∙◌}
use mathlib.Core.Bool.{Bool, true}
use borrow.Author.Tests.{ltb-true}
use Rattle.machine.specs.Commands.{placed}
use Rattle.machine.specs.declared.commands.Command.{Command}
use Rattle.machine.specs.declared.commands.Command.TheVariants.{SetOutput}
use Rattle.machine.specs.Acting.{acted_at}
use Rattle.serial.proofs.acting.acted.Goals as goal

-- an output that SO sets has a place
output-placed : {k : Command} {o : ℕ} {v : Bool} → k ≡ SetOutput o v → placed k ≡ true → o < 14
unfolding placed
output-placed {k} {o} {v} e p =
    let h : o < 13 = ltb-true o 13 (sym (ap placed e) ∙ p) in
    omega arith

pub output_set-requires : goal.output_set-requires
unfolding acted_at
output_set-requires c = output-placed c.in-SetOutput.is c.requires.0
