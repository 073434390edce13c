-- What soundness asks of a program under way in a phase.
-- Assumes nothing.
use Rattle.std.specs.Prelude.{Bool}
use Rattle.laws.specs.Tests.{both}
use Rattle.instruction.specs.Runs.{profile_of}
use Rattle.instruction.specs.declared.Instruction.{Instruction}
use Rattle.machine.specs.Soundness.{has_phase, busy_remaining, at_speed_sound}
use Rattle.machine.specs.declared.Phase.{Phase}
use Rattle.machine.specs.declared.Remaining.{Remaining}

-- 01: "the phase is one that the present cell's code has", with the rest and the mark that it has there
unfoldable pub phase_sound : Phase → Instruction → Remaining → Bool → Bool
phase_sound phase i r at_speed = both (has_phase phase i) (both (busy_remaining phase (profile_of i) r) (at_speed_sound phase (profile_of i) at_speed))
