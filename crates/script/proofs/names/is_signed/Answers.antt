-- `names::is_signed` meets its contract: the places of the signed names are these four.
-- Assumes nothing.
use Rattle.script.proofs.Naming.{signed-one, signed-none}
use Rattle.script.proofs.names.is_signed.Goals as goal

pub returns-in-5 : goal.returns-in-5
returns-in-5 c = signed-one c.args.place c.in-5.is

pub returns-in_default : goal.returns-in_default
returns-in_default c = signed-none c.args.place c.in_default.in_default-own.rest.1
