-- `tell_by` meets its contract: a string that is not heard leaves all as it was; what another asks for is carried out.
-- Assumes nothing.
use mathlib.Core.Path.{◌≡◌, refl, sym, subst, ◌∙◌}
use mathlib.Core.Bool.{true}
use Rattle.laws.proofs.Tests.{both_left}
use Rattle.machine.specs.Commands.{placed}
use Rattle.machine.specs.Strings.{admitted}
use Rattle.machine.specs.declared.commands.Command.{Command}
use Rattle.machine.proofs.Hearing.{allowed-by}
use Rattle.serial.proofs.Told.{left-silent, not-admitted, left-heard}
use Rattle.serial.proofs.telling.tell_by.Goals as goal

-- a command or N has a place
abbrev Placed : Command → Type 0
Placed k = placed k ≡ true

pub returns-then-not-admitted : goal.returns-then-not-admitted
unfolding admitted placed
returns-then-not-admitted c =
    let a = c.args in
    let r =
    left-silent a.machine a.buf.now
    (not-admitted a.header a.command a.machine (sym c.admitted.ensures ∙ c.if-not-admitted.true)) in
    record { machine_value = r.0; answer = r.1 }

pub carried_out-requires : goal.carried_out-requires
unfolding admitted placed
carried_out-requires c = (
  c.requires.0,
  subst Placed (sym c.allowed.ensures) (allowed-by Placed c.args.command c.args.machine.state c.requires.1 refl),
  both_left _ _ (sym c.admitted.ensures ∙ c.if-not-admitted.false),
)

pub returns : goal.returns
unfolding admitted placed
returns c =
    let done = c.carried_out in
    let r =
    left-heard c.args.header c.args.command c.args.machine
    (sym c.admitted.ensures ∙ c.if-not-admitted.false)
    c.allowed.ensures c.requires.0.room done.ensures.machine_value done.ensures.answer in
    record { machine_value = r.0; answer = r.1 }
