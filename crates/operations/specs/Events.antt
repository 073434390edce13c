-- What an event on the state of a sound drive comes to, given its present cell: 01, "By operation", 4, 5 and 6.
-- Assumes nothing.
use Rattle.std.specs.Prelude.{ℕ, ltb, Result, Ok, Err}
use Rattle.laws.specs.Tests.{choose}
use Rattle.instruction.specs.declared.Cell.{Cell}
use Rattle.machine.specs.Record.{moving}
use Rattle.machine.specs.Stepping.{step_at}
use Rattle.machine.specs.InputWords.{input_word_at}
use Rattle.machine.specs.Reports.{takes_at_speed_at, at_speed, takes_halted, halted_at}
use Rattle.machine.specs.declared.State.{State}
use Rattle.operations.specs.declared.results.Refusal.{Refusal}
use Rattle.operations.specs.declared.results.Refusal.TheVariants.{WordAbove2047, NoRunUnderWay, ReportOutOfPlace}

unfoldable pub stepped_at : State → Cell → Result State Refusal
stepped_at s c = choose (moving s) (Ok (step_at s c)) (Err NoRunUnderWay)

unfoldable pub at_speed_at : State → Cell → Result State Refusal
at_speed_at s c = choose (takes_at_speed_at s c) (Ok (at_speed s)) (Err ReportOutOfPlace)

unfoldable pub halted_on : State → Cell → Result State Refusal
halted_on s c = choose (takes_halted s) (Ok (halted_at s c)) (Err ReportOutOfPlace)

unfoldable pub worded_at : ℕ → State → Cell → Result State Refusal
worded_at w s c = choose (ltb 2047 w) (Err WordAbove2047) (Ok (input_word_at w s c))
