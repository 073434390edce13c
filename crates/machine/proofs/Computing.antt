-- The definitions opened for computation, so that a table of cases is proved by `refl`. A proof says `unfolding computing`.
-- Assumes nothing.
use Rattle.laws.specs.Tables as laws-Tables
use Rattle.laws.specs.Tests as laws-Tests
use Rattle.laws.specs.Text as laws-Text
use Rattle.units.specs.Position as units-Position
use Rattle.units.specs.Remaining as units-Remaining
use Rattle.units.specs.Shift as units-Shift
use Rattle.frequency.specs.Places as frequency-Places
use Rattle.frequency.specs.Rounding as frequency-Rounding
use Rattle.frequency.specs.Table as frequency-Table
use Rattle.decimal.specs.Parsing as decimal-Parsing
use Rattle.decimal.specs.Printing as decimal-Printing
use Rattle.fields.specs.Kinds as fields-Kinds
use Rattle.fields.specs.Names as fields-Names
use Rattle.fields.specs.Reader as fields-Reader
use Rattle.fields.specs.Rows as fields-Rows
use Rattle.instruction.specs.Codes as instruction-Codes
use Rattle.format.specs.Formats as format-Formats
use Rattle.instruction.specs.Numbers as instruction-Numbers
use Rattle.instruction.specs.Runs as instruction-Runs
use Rattle.instruction.specs.Soundness as instruction-Soundness
use Rattle.instruction.specs.Texts as instruction-Texts
use Rattle.machine.specs.Acting as machine-Acting
use Rattle.machine.specs.Answers as machine-Answers
use Rattle.machine.specs.Calls as machine-Calls
use Rattle.machine.specs.Commands as machine-Commands
use Rattle.machine.specs.InputWords as machine-InputWords
use Rattle.machine.specs.Milliseconds as machine-Milliseconds
use Rattle.machine.specs.Orders as machine-Orders
use Rattle.machine.specs.Record as machine-Record
use Rattle.machine.specs.Reports as machine-Reports
use Rattle.machine.specs.Soundness as machine-Soundness
use Rattle.machine.specs.Starting as machine-Starting
use Rattle.machine.specs.Stepping as machine-Stepping
use Rattle.machine.specs.Stopping as machine-Stopping
use Rattle.machine.specs.Strings as machine-Strings
use Rattle.machine.specs.Taking as machine-Taking
use Rattle.machine.specs.Waiting as machine-Waiting

-- tests, text and numbers
unfoldable pub tests : Unit {0}
unfolding laws-Tables.every laws-Tests.choose laws-Tests.both laws-Tests.either laws-Tests.same laws-Text.bytes units-Position.wrapped
    units-Position.moved units-Position.stepped_of units-Remaining.is_zero_of units-Remaining.is_negative_of units-Remaining.nearer_of
    units-Shift.multiplier_of units-Shift.scaled_of units-Shift.shift_of units-Shift.is_beyond_of frequency-Places.hertz_of frequency-Places.not_above
    frequency-Places.place_of frequency-Rounding.round_of frequency-Table.following frequency-Table.rising frequency-Table.frequencies
    decimal-Parsing.value_from decimal-Parsing.number_of decimal-Parsing.fixed_of decimal-Parsing.within decimal-Parsing.negated
    decimal-Parsing.signed_of decimal-Parsing.optional_of decimal-Printing.digits decimal-Printing.width_from decimal-Printing.width
    decimal-Printing.decimal decimal-Printing.signed
tests = tt

-- fields and cells as text
unfoldable pub fields : Unit {0}
unfolding fields-Kinds.next_of fields-Kinds.sign_of fields-Kinds.multiplier_digit fields-Kinds.multiplier_of fields-Kinds.name_of
    fields-Kinds.parse_field fields-Kinds.letters_of fields-Kinds.print_field fields-Kinds.valid_signed fields-Kinds.valid fields-Names.pair_of
    fields-Names.listed fields-Names.list_of fields-Names.place_from fields-Reader.field_length fields-Reader.field_at fields-Rows.fields_from
    fields-Rows.parse_fields fields-Rows.ended fields-Rows.parse_all fields-Rows.print_fields fields-Rows.all_valid instruction-Codes.code_of
    format-Formats.fields_in format-Formats.fields_of format-Formats.known_in format-Formats.known instruction-Numbers.travel_of
    instruction-Numbers.numbers_with instruction-Numbers.cam_of instruction-Numbers.cell_with instruction-Numbers.cell_of instruction-Runs.profile_of
    instruction-Soundness.steps_within instruction-Soundness.canonical instruction-Soundness.cell_sound instruction-Texts.cell_text
    instruction-Texts.sent_fields instruction-Texts.sent_code instruction-Texts.sent_cell format-Formats.format_of
fields = tt

-- which strings are heard, what they do and how they are answered
unfoldable pub heard : Unit {0}
unfolding machine-Answers.preset_value machine-Answers.preset_text machine-Answers.position_text machine-Answers.input_text
    machine-Answers.output_value machine-Answers.output_text machine-Answers.memory_text machine-Answers.cam_text machine-Answers.fault_text
    machine-Answers.remaining_bits machine-Answers.suspended_text machine-Answers.answer_of machine-Answers.accepted machine-Answers.rejected
    machine-Commands.code_in machine-Commands.on_parsed machine-Commands.on_fields machine-Commands.on_all machine-Commands.on_sent machine-Commands.store_in
    machine-Commands.preset_kind machine-Commands.preset_in machine-Commands.cam_with machine-Commands.cam_in machine-Commands.command_of
    machine-Record.cell_at machine-Record.stored_at machine-Record.fresh machine-Record.idle machine-Record.moving machine-Strings.carried_out
    machine-Strings.ended machine-Strings.body_of machine-Strings.is_digit machine-Strings.addressed machine-Strings.is_stop machine-Strings.free
    machine-Strings.to_every machine-Strings.permitted machine-Strings.judged machine-Strings.unanswered machine-Strings.told
    machine-Answers.answer_at instruction-Numbers.same_numbers machine-Acting.same_content machine-Acting.keeps_suspended machine-Acting.stored_state
    machine-Acting.preset_set machine-Acting.named machine-Acting.acted_at machine-Acting.cells_after machine-Acting.named_cell
    machine-Acting.machine_after machine-Commands.is_code machine-Commands.resolution_at machine-Commands.preset_with machine-Commands.command_by
    machine-Strings.header_of machine-Strings.admitted machine-Strings.is_start machine-Strings.allowed machine-Strings.told_in
    machine-Strings.told_by machine-Commands.placed
heard = tt

-- a program: starting, each code, a millisecond, a wait
unfoldable pub programs : Unit {0}
unfolding machine-Milliseconds.present machine-Milliseconds.count_down machine-Milliseconds.millisecond_in machine-Milliseconds.millisecond
    machine-Starting.advanced machine-Taking.take_closing_loop machine-Taking.level_at machine-Taking.take_conditional_jump
    machine-Taking.take_time_delay machine-Taking.lacks_x4 machine-Taking.begin_indexed machine-Taking.shift_for machine-Taking.take_indexed
    machine-Taking.take_free machine-Taking.take_search machine-Taking.take_motion machine-Taking.take_run machine-Taking.take machine-Taking.resume
    machine-Taking.recover machine-Taking.is_recovery machine-Taking.take_cell machine-Waiting.settled machine-Waiting.end_at machine-Waiting.wait_from
    machine-Waiting.wait machine-Milliseconds.held machine-Milliseconds.millisecond_at machine-Waiting.milliseconds
programs = tt

-- a run under way: steps, stops, inputs words, reports, and the order to the board
unfoldable pub runs : Unit {0}
unfolding machine-InputWords.bits_from machine-InputWords.inputs_of machine-InputWords.selected_cell machine-InputWords.starts
    machine-InputWords.judged_st machine-InputWords.judged_ee machine-InputWords.judged_es machine-InputWords.judged_px machine-InputWords.input_word
    machine-Orders.remaining_steps machine-Orders.multiplied machine-Orders.run_order machine-Orders.order_in machine-Orders.order_of
    machine-Reports.takes_at_speed machine-Reports.takes_at_speed_in machine-Reports.halted_slowing machine-Reports.halted_emergency
    machine-Reports.halted_in machine-Reports.halted machine-Stepping.backward_in machine-Stepping.runs_backward machine-Stepping.cam_tested
    machine-Stepping.moved_by machine-Stepping.arrived_in machine-Stepping.counted machine-Stepping.step machine-Stopping.braking_steps
    machine-Stopping.free_run_stop_of machine-Stopping.free_run_stop_in machine-Stopping.free_run_stop machine-Stopping.px_in_run machine-Stopping.px_seen_in
    machine-Stopping.px_seen machine-Stopping.emergency_in machine-Stopping.emergency_stop machine-InputWords.input_word_at machine-InputWords.judged_word
    machine-Orders.order_at machine-Reports.halted_at machine-Reports.takes_at_speed_at machine-Stepping.step_at machine-Stopping.braking_count
    machine-Stopping.emergency_stop_at machine-Stopping.free_run_stop_at machine-Stopping.px_seen_at
runs = tt

-- the test that comes before every call
unfoldable pub soundness : Unit {0}
unfolding machine-Soundness.presets_sound machine-Soundness.is_cell machine-Soundness.position_sound machine-Soundness.cam_sound
    machine-Soundness.fault_sound machine-Soundness.loop_count_sound machine-Soundness.steps_remaining machine-Soundness.time_remaining
    machine-Soundness.is_nothing machine-Soundness.is_steps machine-Soundness.is_time machine-Soundness.is_steps_along machine-Soundness.is_indexed
    machine-Soundness.is_delay machine-Soundness.suspended_remaining machine-Soundness.suspended_sound machine-Soundness.has_ramp
    machine-Soundness.run_phase machine-Soundness.braking_phase machine-Soundness.slowing_phase machine-Soundness.back_phase
    machine-Soundness.has_phase machine-Soundness.emergency_remaining machine-Soundness.busy_remaining machine-Soundness.at_speed_sound
    machine-Soundness.resting_sound machine-Soundness.busy_sound machine-Soundness.running_sound machine-Soundness.state_sound
    machine-Soundness.sound
soundness = tt

-- calls and lists of calls
unfoldable pub calls : Unit {0}
unfolding machine-Calls.is_byte machine-Calls.proper machine-Calls.shown_at machine-Calls.shown machine-Calls.act machine-Calls.apply
    machine-Calls.next machine-Calls.look machine-Calls.after machine-Calls.seen
calls = tt

unfoldable pub computing : Unit {0}
unfolding tests fields heard programs runs soundness calls
computing = tt
