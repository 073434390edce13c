-- What a wait hands back, and what remains of a delay.
-- Assumes nothing.
use Rattle.std.specs.Prelude.{ℕ}
use Rattle.machine.specs.Waiting.{Waited, end_at}
use Rattle.machine.specs.declared.Remaining.{Remaining}
use Rattle.machine.specs.declared.Remaining.TheVariants.{Nothing, Counted, Timed}
use Rattle.waits.specs.declared.Ran.{Ran}

-- 01: "says which it was, and hands back how many were given, the drive being as after that many"
abbrev pub ran_of : Waited → Ran
ran_of w = record { end = end_at w.last; given = record { 0 = w.given }; state = w.last }

-- what remains, where it is milliseconds: only a delay has them
abbrev pub delay_remaining : Remaining → ℕ
delay_remaining Nothing = 0
delay_remaining (Counted n) = 0
delay_remaining (Timed n) = n.0
