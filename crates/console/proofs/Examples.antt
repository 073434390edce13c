-- What the console writes for the inputs that 01 gives, by computation.
-- Assumes nothing.
use mathlib.Core.Path.{refl}
use Rattle.laws.specs.Tables.{every}
use Rattle.laws.specs.Tests.{choose, both, either, same}
use Rattle.laws.specs.Text.{bytes}
use Rattle.decimal.specs.Parsing.{value_from, number_of, fixed_of, within}
use Rattle.decimal.specs.Printing.{digits, width_from, width, decimal, signed}
use Rattle.fields.specs.Kinds.{next_of, parse_field, print_field, valid}
use Rattle.fields.specs.Names.{pair_of}
use Rattle.fields.specs.Reader.{field_length, field_at}
use Rattle.fields.specs.Rows.{fields_from, parse_fields, ended as row_ended, parse_all, print_fields, all_valid}
use Rattle.instruction.specs.Codes.{code_of}
use Rattle.format.specs.Formats.{fields_in, fields_of, known_in, known}
use Rattle.instruction.specs.Numbers.{numbers_with, cell_with, cell_of}
use Rattle.instruction.specs.Soundness.{canonical, cell_sound}
use Rattle.instruction.specs.Texts.{cell_text, sent_fields, sent_code, sent_cell}
use Rattle.machine.specs.Acting.{keeps_suspended, stored_state, named, acted_at, cells_after, named_cell, machine_after}
use Rattle.machine.specs.Answers.{position_text, memory_text, answer_of, accepted, answer_at}
use Rattle.machine.specs.Calls.{act, apply, next}
use Rattle.machine.specs.Commands.{code_in, on_parsed, on_fields, on_all, on_sent, store_in, command_of, is_code, command_by}
use Rattle.machine.specs.Milliseconds.{present, count_down, millisecond_in, millisecond, millisecond_at}
use Rattle.machine.specs.Record.{cell_at, stored_at, fresh, idle, moving}
use Rattle.machine.specs.Soundness.{presets_sound, is_cell, position_sound, cam_sound, fault_sound, loop_count_sound, time_remaining, is_nothing}
use Rattle.machine.specs.Soundness.{is_time, is_delay, suspended_sound, has_phase, busy_remaining, at_speed_sound, resting_sound}
use Rattle.machine.specs.Soundness.{busy_sound, running_sound, state_sound, sound}
use Rattle.machine.specs.Starting.{advanced}
use Rattle.machine.specs.Strings.{carried_out, ended, body_of, is_digit, addressed, is_stop, free, to_every, permitted, judged, unanswered, told}
use Rattle.machine.specs.Strings.{header_of, admitted, is_start, allowed, told_in, told_by}
use Rattle.machine.specs.Taking.{take_time_delay, take, is_recovery, take_cell}
use Rattle.machine.specs.Waiting.{settled, wait_from, wait}
use Rattle.lines.specs.Strings.{given}
use Rattle.console.specs.Console.{lent, answer_to, after_string, byte_taken, console, standing_after, output_of}
use Rattle.console.specs.Examples.{Examples}

-- text, numbers and cells
texts : Unit {0}
unfolding every choose both either same bytes value_from number_of fixed_of within digits width_from width decimal signed next_of parse_field
    print_field valid pair_of field_length field_at fields_from parse_fields row_ended parse_all print_fields all_valid code_of fields_in fields_of known_in
    known numbers_with cell_with cell_of canonical cell_sound cell_text sent_fields sent_code sent_cell
texts = tt

-- which strings are heard, what they do and how they are answered
heard : Unit {0}
unfolding position_text memory_text answer_of accepted answer_at code_in on_parsed on_fields on_all on_sent store_in command_of is_code command_by cell_at stored_at
    fresh idle moving carried_out ended body_of is_digit addressed is_stop free to_every permitted judged unanswered told header_of admitted is_start
    allowed told_in told_by keeps_suspended stored_state named acted_at cells_after named_cell machine_after act apply next
heard = tt

-- a wait, and the test that comes before every call
waits : Unit {0}
unfolding present count_down millisecond_in millisecond millisecond_at advanced take_time_delay take is_recovery take_cell settled wait_from wait
    presets_sound is_cell position_sound cam_sound fault_sound loop_count_sound time_remaining is_nothing is_time is_delay suspended_sound has_phase
    busy_remaining at_speed_sound resting_sound busy_sound running_sound state_sound sound
waits = tt

pub examples-hold : Examples
unfolding texts heard waits given lent answer_to after_string byte_taken console standing_after output_of
examples-hold = record { exchange = refl; dropped = refl; ended = refl; busy = refl }
