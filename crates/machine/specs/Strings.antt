-- 01, "Strings": which strings are heard, and what they leave.
-- Assumes nothing.
use Rattle.std.specs.Prelude.{ℕ, ◌+◌, ◌-◌, ◌*◌, Bool, true, false, not, List, [], length, get_or, take, eqb, leb, ltb}
use Rattle.laws.specs.Tests.{choose, both, either}
use Rattle.units.specs.declared.DriveAddress.{DriveAddress}
use Rattle.machine.specs.Record.{input_at, in_ee, idle}
use Rattle.machine.specs.Commands.{code_in, is_code, command_of}
use Rattle.machine.specs.Acting.{named_cell, machine_after}
use Rattle.machine.specs.Answers.{answer_at}
use Rattle.machine.specs.declared.State.{State}
use Rattle.machine.specs.declared.Machine.{Machine}
use Rattle.machine.specs.declared.commands.StringAddress.{StringAddress}
use Rattle.machine.specs.declared.commands.Header.{Header}
use Rattle.machine.specs.declared.commands.Command.{Command}
use Rattle.machine.specs.declared.commands.Command.TheVariants.{Store, SetPreset, Start, EmergencyStop, FreeRunStop, SetPosition, SetOutput, SetCam, AskPosition, AskPreset, AskInput, AskOutput, AskCell, AskCam, AskFault, AskSuspended, Wrong}

-- ---- the string

-- "(1) empty, or last byte not 13: silent"
unfoldable pub ended : List ℕ → Bool
ended b = both (leb 1 (length b)) (eqb (get_or b (length b - 1) 0) 13)

-- the string without its byte 13
unfoldable pub body_of : List ℕ → List ℕ
body_of b = take (length b - 1) b

unfoldable pub is_digit : ℕ → Bool
is_digit b = both (leb 48 b) (leb b 57)

-- the first two bytes as an address, the other two as a code; a byte that is not there is 0
unfoldable pub header_of : List ℕ → Header
header_of s =
    record {
      digits = both (is_digit (get_or s 0 0)) (is_digit (get_or s 1 0));
      address = record { 0 = (get_or s 0 0 - 48) * 10 + (get_or s 1 0 - 48) };
      code = code_in s;
    }

-- ---- the checks, in 01's order

-- 01's address of all drives
abbrev pub every_drive : ℕ
every_drive = 99

unfoldable pub to_every : Header → Bool
to_every h = eqb h.address.0 every_drive

-- "(2) first two bytes not digits, or neither own address nor 99: silent"
unfoldable pub addressed : DriveAddress → Header → Bool
addressed own h = both h.digits (either (eqb h.address.0 own.0) (to_every h))

unfoldable pub is_stop : ℕ → Bool
is_stop code = either (is_code "EE" code) (is_code "ES" code)

-- "(3) busy, and bytes 3 and 4 not EE or ES: silent"
unfoldable pub free : State → Header → Bool
free st h = either (idle st) (is_stop h.code)

-- "(4) for 99, code not WS, EE, ES: silent"
unfoldable pub permitted : Header → Bool
permitted h = either (not (to_every h)) (either (is_code "WS" h.code) (is_stop h.code))

-- a string of this header is heard, if it ends in byte 13
unfoldable pub admitted : Header → State → Bool
admitted h st = both (addressed st.presets.address h) (both (free st h) (permitted h))

-- "(5) over 64 bytes with the 13, unknown code, wrong fields or range: `AAN`"
unfoldable pub judged : List ℕ → List ℕ → Command
judged b s = choose (ltb 64 (length b)) Wrong (command_of s)

unfoldable pub is_start : Command → Bool
is_start (Store a c) = false
is_start (SetPreset v) = false
is_start (Start a) = true
is_start EmergencyStop = false
is_start FreeRunStop = false
is_start (SetPosition b) = false
is_start (SetOutput o v) = false
is_start (SetCam v b) = false
is_start AskPosition = false
is_start (AskPreset k) = false
is_start (AskInput k) = false
is_start (AskOutput k) = false
is_start (AskCell a) = false
is_start AskCam = false
is_start AskFault = false
is_start AskSuspended = false
is_start Wrong = false

-- "(6) PS with input EE on: `AAN`"
unfoldable pub allowed : Command → State → Command
allowed k st = choose (both (is_start k) (input_at st in_ee)) Wrong k

-- ---- what a string leaves

-- its answer (none where it is silent) and the drive
pub record Heard : Type 0 where
  pub answer : List ℕ
  pub machine : Machine

abbrev pub heard : List ℕ → Machine → Heard
heard a m = record { answer = a; machine = m }

abbrev pub silent : Machine → Heard
silent m = heard [] m

-- "(7) carried out"; "AA is the address in the string, also after WS,AD"
unfoldable pub carried_out : Command → StringAddress → Machine → Heard
carried_out k aa m = heard (answer_at k aa m.state (named_cell k m)) (machine_after k m)

-- "Address 99 is never answered."
unfoldable pub unanswered : Bool → Heard → Heard
unanswered true h = silent h.machine
unanswered false h = h

-- a string that ends in byte 13, by its header and the command that it asks for
unfoldable pub told_in : Header → Command → Machine → Heard
told_in h k m =
    choose (admitted h m.state) (unanswered (to_every h) (carried_out (allowed k m.state) h.address m)) (silent m)

-- a string, by the command that it asks for
unfoldable pub told_by : Command → List ℕ → Machine → Heard
told_by k b m = choose (ended b) (told_in (header_of (body_of b)) k m) (silent m)

unfoldable pub told : List ℕ → Machine → Heard
told b m = told_by (judged b (body_of b)) b m
