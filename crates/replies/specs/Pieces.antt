-- What the pieces of an answer say, and what writing them, and a whole answer, asks.
-- Assumes nothing.
use Rattle.std.specs.Prelude.{ℕ, ◌≤◌, ◌≡◌, true, List, [], ◌∷◌, ◌++◌, length}
use Rattle.decimal.specs.Printing.{digits}
use Rattle.fields.specs.Kinds.{valid}
use Rattle.fields.specs.Rows.{all_good, all_valid, most_all}
use Rattle.fields.specs.declared.kinds.Kind.{Kind}
use Rattle.fields.specs.declared.kinds.Kind.TheVariants.{Next}
use Rattle.instruction.specs.Soundness.{cell_sound}
use Rattle.instruction.specs.declared.Cell.{Cell}
use Rattle.machine.specs.Soundness.{presets_sound, fault_sound}
use Rattle.machine.specs.Commands.{placed}
use Rattle.machine.specs.declared.State.{State}
use Rattle.machine.specs.declared.commands.StringAddress.{StringAddress}
use Rattle.machine.specs.declared.commands.Command.{Command}

-- 01: "AA is the address in the string": its two digits, and two bytes more
unfoldable pub front_of : StringAddress → ℕ → ℕ → List ℕ
front_of aa a b = digits 2 aa.0 ++ (a ∷ b ∷ [])

-- 01: "Requests repeat themselves with the value after": Q and the letter of the request, the fields, and byte 13
unfoldable pub request_answer : StringAddress → ℕ → List ℕ → List ℕ
request_answer aa letter fields = digits 2 aa.0 ++ (81 ∷ letter ∷ (fields ++ (13 ∷ [])))

-- what every answer asks: an address of two digits, and a buffer of 64 bytes
pub record Ready (aa : StringAddress) (buffer : List ℕ) : Type 0 where
  pub address : aa.0 ≤ 99
  pub room : 64 ≤ length buffer

-- what answering with a row asks besides: at most six kinds, each good, values that they admit, and room beside address, code and byte 13
pub record ReadyRow (aa : StringAddress) (ks : List Kind) (vs buffer : List ℕ) : Type 0 where
  pub ready : Ready aa buffer
  pub few : length ks ≤ 6
  pub kinds_good : all_good ks ≡ true
  pub values_valid : all_valid ks vs ≡ true
  pub short : most_all ks ≤ 59

-- what answering asks: an address of two digits, a command whose names have a place, the shown parts of a sound drive, and a buffer of 64 bytes
pub record Answerable (aa : StringAddress) (command : Command) (s : State) (c : Cell) (buffer : List ℕ) : Type 0 where
  pub address : aa.0 ≤ 99
  pub names : placed command ≡ true
  pub presets : presets_sound s.presets ≡ true
  pub fault : fault_sound s.fault ≡ true
  pub suspended : valid Next s.suspended.cell.0 ≡ true
  pub cell : cell_sound c ≡ true
  pub room : 64 ≤ length buffer
