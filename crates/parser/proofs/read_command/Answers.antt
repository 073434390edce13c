-- `parser::read_command` meets its contract: each arm asks for what the definition asks for by its code.
-- Assumes nothing.
use mathlib.Core.Path.{refl}
use Rattle.laws.specs.Tests.{choose}
use Rattle.laws.specs.Text.{bytes}
use Rattle.fields.specs.Names.{pair_of, listed}
use Rattle.machine.specs.Commands.{is_code, command_by}
use Rattle.parser.proofs.Codes.{told, codes, other}
use borrow.Author.Rules.{rules}
use Rattle.parser.proofs.read_command.Goals as goal

pub returns-in-22350 : goal.returns-in-22350
unfolding command_by is_code choose pair_of bytes codes listed
returns-in-22350 c =
    let r = told _ c.in-22350.is c.store_in.ensures refl in
    record { value = r.0; named = r.1 }

pub returns-in-22355 : goal.returns-in-22355
unfolding command_by is_code choose pair_of bytes codes listed
returns-in-22355 c =
    let r = told _ c.in-22355.is c.preset_in.ensures refl in
    record { value = r.0; named = r.1 }

pub returns-in-20563 : goal.returns-in-20563
unfolding command_by is_code choose pair_of bytes codes listed
returns-in-20563 c =
    let r = told _ c.in-20563.is c.single_of.ensures refl in
    record { value = r.0; named = r.1 }

pub returns-in-17733 : goal.returns-in-17733
unfolding command_by is_code choose pair_of bytes codes listed
returns-in-17733 c =
    let r = told _ c.in-17733.is c.alone.ensures refl in
    record { value = r.0; named = r.1 }

pub returns-in-17747 : goal.returns-in-17747
unfolding command_by is_code choose pair_of bytes codes listed
returns-in-17747 c =
    let r = told _ c.in-17747.is c.alone-in-17747.ensures refl in
    record { value = r.0; named = r.1 }

pub returns-in-21313 : goal.returns-in-21313
unfolding command_by is_code choose pair_of bytes codes listed
returns-in-21313 c =
    let r = told _ c.in-21313.is c.single_of-in-21313.ensures refl in
    record { value = r.0; named = r.1 }

pub returns-in-21327 : goal.returns-in-21327
unfolding command_by is_code choose pair_of bytes codes listed
returns-in-21327 c =
    let r = told _ c.in-21327.is c.output_in.ensures refl in
    record { value = r.0; named = r.1 }

pub returns-in-21315 : goal.returns-in-21315
unfolding command_by is_code choose pair_of bytes codes listed
returns-in-21315 c =
    let r = told _ c.in-21315.is c.cam_in.ensures refl in
    record { value = r.0; named = r.1 }

pub returns-in-20801 : goal.returns-in-20801
unfolding command_by is_code choose pair_of bytes codes listed
returns-in-20801 c =
    let r = told _ c.in-20801.is c.alone-in-20801.ensures refl in
    record { value = r.0; named = r.1 }

pub returns-in-20819 : goal.returns-in-20819
unfolding command_by is_code choose pair_of bytes codes listed
returns-in-20819 c =
    let r = told _ c.in-20819.is c.single_of-in-20819.ensures refl in
    record { value = r.0; named = r.1 }

pub returns-in-20809 : goal.returns-in-20809
unfolding command_by is_code choose pair_of bytes codes listed
returns-in-20809 c =
    let r = told _ c.in-20809.is c.single_of-in-20809.ensures refl in
    record { value = r.0; named = r.1 }

pub returns-in-20815 : goal.returns-in-20815
unfolding command_by is_code choose pair_of bytes codes listed
returns-in-20815 c =
    let r = told _ c.in-20815.is c.single_of-in-20815.ensures refl in
    record { value = r.0; named = r.1 }

pub returns-in-20813 : goal.returns-in-20813
unfolding command_by is_code choose pair_of bytes codes listed
returns-in-20813 c =
    let r = told _ c.in-20813.is c.single_of-in-20813.ensures refl in
    record { value = r.0; named = r.1 }

pub returns-in-20803 : goal.returns-in-20803
unfolding command_by is_code choose pair_of bytes codes listed
returns-in-20803 c =
    let r = told _ c.in-20803.is c.alone-in-20803.ensures refl in
    record { value = r.0; named = r.1 }

pub returns-in-20805 : goal.returns-in-20805
unfolding command_by is_code choose pair_of bytes codes listed
returns-in-20805 c =
    let r = told _ c.in-20805.is c.alone-in-20805.ensures refl in
    record { value = r.0; named = r.1 }

pub returns-in-20818 : goal.returns-in-20818
unfolding command_by is_code choose pair_of bytes codes listed
returns-in-20818 c =
    let r = told _ c.in-20818.is c.alone-in-20818.ensures refl in
    record { value = r.0; named = r.1 }

pub returns-in_default : goal.returns-in_default
unfolding command_by is_code choose pair_of bytes codes listed
returns-in_default c =
    let r = other c.args.code c.args.s.now (search rules) in
    record { value = r.0; named = r.1 }
