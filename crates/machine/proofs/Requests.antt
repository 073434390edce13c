-- The 165 requests: each is parsed as the command that asks for it, a cell's by a law and the others in one computed test.
-- Assumes nothing.
use Prim.Native.Nat.{ℕ, ◌+◌, ◌<◌}
use native.Mathlib.Omega.{arith}
use mathlib.Core.Path.{◌≡◌, refl, ap}
use mathlib.Core.Bool.{Bool, true}
use mathlib.Core.List.Memᴰ
use mathlib.Core.List.{List, [], ◌∷◌, ◌++◌, map, Memᴰ}
use lib.ListN.{length}
use lib.Dec.{leb}
use borrow.Author.Tests.{le-leb}
use Rattle.laws.specs.Tests.{choose, both, either}
use Rattle.laws.specs.Tables.{every}
use Rattle.laws.specs.Text.{bytes}
use Rattle.laws.proofs.Tests.{both_true}
use Rattle.decimal.specs.Printing.{digits}
use Rattle.decimal.specs.Parsing.{value_from, number_of, fixed_of, within}
use Rattle.fields.specs.Names.{pair_of, listed, list_of, place_from}
use Rattle.fields.specs.Reader.{field_length, field_at}
use Rattle.fields.specs.Kinds.{name_of, parse_field, letters_of, print_field, good, valid}
use Rattle.fields.specs.Rows.{fields_from, parse_fields, ended, parse_all, print_fields, all_good, all_valid}
use Rattle.fields.proofs.RoundTrip.{all_back}
use Rattle.format.specs.Formats.{cell}
use Rattle.instruction.proofs.Values.{keeps-byte}
use Rattle.machine.specs.Commands.{code_in, is_code, on_parsed, on_fields, on_all, command_by, command_of}
use Rattle.machine.specs.Calls.{is_byte}
use Rattle.machine.specs.Reading.{Request, places, requests, request_text}
use Rattle.machine.specs.Reading.Request.{Cell, Preset, Position, Output, Input, Cam, Fault, Suspended}
use Rattle.machine.specs.declared.commands.Command.{Command}
use Rattle.machine.specs.declared.commands.Command.TheVariants.{AskPosition, AskPreset, AskInput, AskOutput, AskCell, AskCam, AskFault}
use Rattle.machine.specs.declared.commands.Command.TheVariants.{AskSuspended}
use Rattle.machine.proofs.Members.{map-append-same, map-places, member-places}

-- the command that a request is
unfoldable pub command_for : Request → Command
command_for (Cell k) = AskCell (record { 0 = 100 + k })
command_for (Preset k) = AskPreset k
command_for Position = AskPosition
command_for (Output k) = AskOutput k
command_for (Input k) = AskInput k
command_for Cam = AskCam
command_for Fault = AskFault
command_for Suspended = AskSuspended

-- the requests and their texts, opened for computation
texts : Unit {0}
unfolding requests places request_text bytes print_fields print_field digits letters_of list_of listed pair_of
texts = tt

-- the fields of a string
fields : Unit {0}
unfolding parse_all parse_fields ended fields_from field_at field_length parse_field name_of place_from fixed_of number_of value_from within
fields = tt

-- the whole string
parsing : Unit {0}
unfolding texts fields command_for command_of command_by is_code code_in on_all on_parsed on_fields choose both either
parsing = tt

-- n requests of a kind
abbrev of_kind : (ℕ → Request) → ℕ → List Request
of_kind kind n = map kind (places n 0)

-- the address of a cell comes back as it was printed
cell-parsed : (x y k : ℕ) → k < 131 → command_of (x ∷ y ∷ request_text (Cell k)) ≡ command_for (Cell k)
unfolding command_for command_of command_by is_code code_in pair_of bytes choose on_all on_parsed on_fields request_text all_good every good both all_valid valid
cell-parsed x y k h =
    let t = both_true (le-leb 100 (100 + k) (omega arith)) (le-leb (100 + k) 230 (omega arith)) in
    rw (all_back (cell ∷ []) ((100 + k) ∷ []) (x ∷ y ∷ 81 ∷ 77 ∷ []) refl (both_true t refl) refl)
    (ap (λ (a : ℕ). AskCell (record { 0 = a })) (keeps-byte (100 + k) (omega arith)))

-- after any two bytes of an address, each request is the command that it stands for
pub requests-parsed : (x y : ℕ) → map (λ (r : Request). command_of (x ∷ y ∷ request_text r)) requests ≡ map command_for requests
unfolding requests
requests-parsed x y =
    map-append-same _ _ (of_kind Cell 131) _ (map-places _ _ Cell 131 0 (λ k h. cell-parsed x y k (omega arith))) (unfold parsing in refl)

-- short enough for a string, and bytes
unfoldable pub sendable : Request → Bool
sendable r = both (leb (length (request_text r)) 61) (every is_byte (request_text r))

pub requests-sendable : every sendable requests ≡ true
unfolding texts sendable every is_byte both
requests-sendable = refl

-- ---- what is asked

of-kind : (kind : ℕ → Request) (n k : ℕ) → k < n → Memᴰ (kind k) (of_kind kind n)
of-kind kind n k h = Memᴰ.map kind (member-places n 0 k (omega arith) (omega arith))

-- after the cells, after the presets and the position, after the outputs and the inputs
past-cells : {r : Request} {l : List Request} → Memᴰ r l → Memᴰ r (of_kind Cell 131 ++ l)
past-cells m = Memᴰ.append_right (of_kind Cell 131) m

past-position : {r : Request} {l : List Request} → Memᴰ r l → Memᴰ r (of_kind Cell 131 ++ (of_kind Preset 5 ++ (Position ∷ l)))
past-position m = past-cells (Memᴰ.append_right (of_kind Preset 5) (Memᴰ.tail m))

past-inputs : {r : Request} → Memᴰ r (Cam ∷ Fault ∷ Suspended ∷ []) → Memᴰ r requests
unfolding requests
past-inputs m = past-position (Memᴰ.append_right (of_kind Output 14) (Memᴰ.append_right (of_kind Input 11) m))

pub cell-asked : (k : ℕ) → k < 131 → Memᴰ (Cell k) requests
unfolding requests
cell-asked k h = Memᴰ.append_left _ (of-kind Cell 131 k h)

pub preset-asked : (k : ℕ) → k < 5 → Memᴰ (Preset k) requests
unfolding requests
preset-asked k h = past-cells (Memᴰ.append_left _ (of-kind Preset 5 k h))

pub position-asked : Memᴰ Position requests
unfolding requests
position-asked = past-cells (Memᴰ.append_right (of_kind Preset 5) (Memᴰ.head refl))

pub output-asked : (k : ℕ) → k < 14 → Memᴰ (Output k) requests
unfolding requests
output-asked k h = past-position (Memᴰ.append_left _ (of-kind Output 14 k h))

pub input-asked : (k : ℕ) → k < 11 → Memᴰ (Input k) requests
unfolding requests
input-asked k h = past-position (Memᴰ.append_right (of_kind Output 14) (Memᴰ.append_left _ (of-kind Input 11 k h)))

pub cam-asked : Memᴰ Cam requests
cam-asked = past-inputs (Memᴰ.head refl)

pub fault-asked : Memᴰ Fault requests
fault-asked = past-inputs (Memᴰ.tail (Memᴰ.head refl))

pub suspended-asked : Memᴰ Suspended requests
suspended-asked = past-inputs (Memᴰ.tail (Memᴰ.tail (Memᴰ.head refl)))

-- 01: "165"
length-requests : length requests ≡ 165
unfolding requests places
length-requests = refl
