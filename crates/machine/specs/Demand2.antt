-- Demand 2, as one statement: "Each string is taken, stored, read back and carried out as chapters 3 to 5 of the maker's manual say, as set out in
-- document 01. What a cell reads back is what a run of it does, and a frequency shown for codes 21 and 22 is the greatest table value not above the
-- one sent." What each string does is `told`; what follows from it for the cells stands here.
-- Assumes nothing.
use Rattle.std.specs.Prelude.{ℕ, ◌+◌, ◌≤◌, ◌<◌, ◌≡◌, true, false, ◌⊎◌, List, [], ◌∷◌, ◌++◌, length, set, Ok}
use Prim.Native.String.{String}
use Rattle.fields.specs.Kinds.{valid}
use Rattle.fields.specs.Rows.{print_fields, all_valid}
use Rattle.fields.specs.declared.kinds.Kind.TheVariants.{Name}
use Rattle.fields.specs.declared.names.Names.TheVariants.{Outputs, Presets}
use Rattle.units.specs.declared.CellAddress.{CellAddress}
use Rattle.frequency.specs.Table.{Rule, frequencies}
use Rattle.frequency.specs.Rounding.{Greatest, rounded_of}
use Rattle.format.specs.Formats.{cell, bit, hertz, fields_of, known}
use Rattle.instruction.specs.Runs.{profile_of}
use Rattle.instruction.specs.Soundness.{cell_sound}
use Rattle.instruction.specs.Texts.{code_kind, cell_text}
use Rattle.instruction.specs.declared.Cell.{Cell as Content}
use Rattle.machine.specs.Record.{cell_at, idle, input_at, in_ee}
use Rattle.machine.specs.Commands.{any_signed, code_in, is_code, preset_kind, command_of}
use Rattle.machine.specs.Answers.{answer_of, accepted}
use Rattle.machine.specs.Strings.{body_of}
use Rattle.machine.specs.Milliseconds.{present}
use Rattle.machine.specs.Orders.{multiplied, order_of}
use Rattle.machine.specs.Calls.{Call, look, next}
use Rattle.machine.specs.Calls.Call.{SendString}
use Rattle.machine.specs.Reading.{Request, ask}
use Rattle.machine.specs.Reading.Request.{Cell, Preset, Position, Output, Cam}
use Rattle.machine.specs.Invariant.{Kept}
use Rattle.machine.specs.Demand3.{Alike}
use Rattle.machine.specs.declared.Phase.TheVariants.{Run}
use Rattle.machine.specs.declared.State.{State}
use Rattle.machine.specs.declared.Machine.{Machine}
use Rattle.machine.specs.declared.commands.StringAddress.{StringAddress}
use Rattle.machine.specs.declared.commands.Command.TheVariants.{Store}
use Rattle.machine.specs.declared.answers.BoardOrder.{BoardOrder}
use Rattle.machine.specs.declared.answers.BoardOrder.TheVariants as order

-- a drive's own address, and the address of a place of its memory
abbrev pub own : Machine → ℕ
own m = m.state.presets.address.0

-- a number as the address in a string, and so the own address
abbrev pub in_string : ℕ → StringAddress
in_string aa = record { 0 = aa }

abbrev pub own_address : Machine → StringAddress
own_address m = in_string (own m)

abbrev pub address_at : ℕ → CellAddress
address_at k = record { 0 = 100 + k }

-- BBB, as a field
abbrev pub place_field : ℕ → List ℕ
place_field k = print_fields (cell ∷ []) ((100 + k) ∷ [])

-- strings at a drive's own address; they have the form of an answer. 01: "`AAWN,BBB,CC,..,DDD`"
abbrev pub storing : Machine → ℕ → List ℕ → List ℕ
storing m k fields = answer_of (own_address m) "WN" (place_field k ++ fields)

-- 01: "`AAPS,BBB`"
abbrev pub starting : Machine → ℕ → List ℕ
starting m k = answer_of (own_address m) "PS" (place_field k)

-- what QM says of a place, and what it says where a cell stands there: "QM,BBB as WN stored it"
abbrev pub read_back : ℕ → Machine → List ℕ
read_back k m = (look (ask (own m) (Cell k)) m).answer

abbrev pub showing : Machine → ℕ → List ℕ → List ℕ
showing m k fields = answer_of (own_address m) "QM" (place_field k ++ fields)

-- a WN that is answered Y
pub record Accepted (b buffer : List ℕ) (m : Machine) : Type 0 where
  pub code : is_code "WN" (code_in (body_of b)) ≡ true
  pub yes : (look (SendString b buffer) m).answer ≡ accepted (own_address m)

-- what it does
pub record Stores (b buffer : List ℕ) (m : Machine) : Type 0 where
  pub place : ℕ
  pub within : place < 131
  pub content : Content
  -- "taken": the string says this cell, at this place
  pub taken : command_of (body_of b) ≡ Store (address_at place) content
  -- "stored": it stands there, and every other cell is as it was
  pub stored : (next (SendString b buffer) m).cells ≡ set m.cells place content
  -- "read back": QM shows it in its normal form
  pub shown : read_back place (next (SendString b buffer) m) ≡ showing m place (cell_text content)
  -- which says the same cell, with WN in place of QM
  pub same : command_of (body_of (storing m place (cell_text content))) ≡ Store (address_at place) content
  -- the cell that stands there already, however it is sent, changes nothing
  pub equal : cell_at m.cells (address_at place) ≡ content → next (SendString b buffer) m ≡ m

-- a call that is such a string
pub record Writes (c : Call) (m : Machine) : Type 0 where
  pub string : List ℕ
  pub buffer : List ℕ
  pub call : c ≡ SendString string buffer
  pub accepted : Accepted string buffer m

-- a string of some code at a drive's own address, after which a request, with another code, repeats the fields that were sent
abbrev pub Repeats : Machine → String → List ℕ → Request → String → Type 0
Repeats m code fields r answer =
    (buffer : List ℕ) → 64 ≤ length buffer →
    (let n = next (SendString (answer_of (own_address m) code fields) buffer) m in (look (ask (own n) r) n).answer ≡ answer_of (own_address n) answer fields)

-- the fields of a 21 or 22: CC, FFFF, and what follows the comma after it
abbrev pub with_hertz : ℕ → ℕ → List ℕ → List ℕ
with_hertz code f rest = print_fields (code_kind ∷ hertz ∷ []) (code ∷ f ∷ []) ++ (44 ∷ rest)

-- the Hz of an order
unfoldable pub hertz_in : BoardOrder → ℕ
hertz_in (order.Stand l) = 0
hertz_in (order.Slow l) = 0
hertz_in (order.Run l d h r n) = h

-- what a drive shows and orders of the 21 or 22 at a place that was sent with FFFF f; m is the drive before, n the one after
pub record Rounds (code f k : ℕ) (m n : Machine) : Type 0 where
  pub hertz : ℕ
  pub greatest : Greatest f hertz
  pub rounded : rounded_of f ≡ Ok hertz
  pub rest : List ℕ
  pub shown : read_back k n ≡ showing m k (with_hertz code hertz rest)
  pub ordered :
      (s : State) → s.running.cell ≡ address_at k → s.running.phase ≡ Run →
      hertz_in (order_of n.cells s) ≡ multiplied hertz (profile_of (cell_at n.cells (address_at k)).instruction).x4

pub record Demand2 : Type 0 where
  -- "Each string is taken": a WN of each code, each field in its range, is answered Y
  pub takes :
      (m : Machine) → Kept m → idle m.state ≡ true → (k : ℕ) → k < 131 → (code : ℕ) → known code ≡ true → (vs : List ℕ) →
      length (fields_of code) ≡ length vs → all_valid (fields_of code) vs ≡ true → (buffer : List ℕ) → 64 ≤ length buffer →
      Accepted (storing m k (print_fields (code_kind ∷ fields_of code) (code ∷ vs))) buffer m
  -- "stored, read back": whatever WN is answered Y
  pub stores : (b buffer : List ℕ) (m : Machine) → Kept m → Accepted b buffer m → Stores b buffer m
  -- and no other call changes a cell
  pub only : (c : Call) (m : Machine) → ((next c m).cells ≡ m.cells) ⊎ Writes c m
  -- of the strings that store a value in range, WS is read back by QS, SA by QA, SO by QO and SC by QC; WS,AD at the new address
  pub presets :
      (m : Machine) → Kept m → idle m.state ≡ true → (k v : ℕ) → k < 5 → valid (preset_kind k) v ≡ true →
      Repeats m "WS" (print_fields (Name Presets ∷ preset_kind k ∷ []) (k ∷ v ∷ [])) (Preset k) "QS"
  pub position :
      (m : Machine) → Kept m → idle m.state ≡ true → (p : ℕ) → valid any_signed p ≡ true →
      Repeats m "SA" (print_fields (any_signed ∷ []) (p ∷ [])) Position "QA"
  pub outputs :
      (m : Machine) → Kept m → idle m.state ≡ true → (k v : ℕ) → k < 13 → valid bit v ≡ true →
      Repeats m "SO" (print_fields (Name Outputs ∷ bit ∷ []) (k ∷ v ∷ [])) (Output k) "QO"
  pub cam :
      (m : Machine) → Kept m → idle m.state ≡ true → (p : ℕ) → valid any_signed p ≡ true →
      Repeats m "SC" (print_fields (bit ∷ any_signed ∷ []) (1 ∷ p ∷ [])) Cam "QC"
  pub no_cam : (m : Machine) → Kept m → idle m.state ≡ true → Repeats m "SC" (print_fields (bit ∷ []) (0 ∷ [])) Cam "QC"
  -- "and carried out": the cell that a PS starts at is the one that QM shows there
  pub starts :
      (m : Machine) → Kept m → idle m.state ≡ true → input_at m.state in_ee ≡ false → (k : ℕ) → k < 131 → (c : Content) →
      cell_sound c ≡ true → read_back k m ≡ showing m k (cell_text c) → (buffer : List ℕ) → 64 ≤ length buffer →
      (let n = next (SendString (starting m k) buffer) m in present n.cells n.state ≡ c)
  -- "What a cell reads back is what a run of it does": two drives in one state that read back alike, however their cells were sent, do the same
  pub runs :
      (m n : Machine) → Kept m → Kept n → idle m.state ≡ true → m.state ≡ n.state →
      ((k : ℕ) → k < 131 → read_back k m ≡ read_back k n) → Alike m n
  -- and nothing else of how a cell was sent matters: two strings that are answered Y and read back alike leave the same drive
  pub sent :
      (b d buffer other : List ℕ) (m : Machine) → Kept m → Accepted b buffer m → Accepted d other m →
      ((k : ℕ) → k < 131 → read_back k (next (SendString b buffer) m) ≡ read_back k (next (SendString d other) m)) →
      next (SendString b buffer) m ≡ next (SendString d other) m
  -- "a frequency shown for codes 21 and 22 is the greatest table value not above the one sent", and is the one that the board is ordered to make
  pub rounds :
      (m : Machine) → Kept m → (k : ℕ) → k < 131 → (code : ℕ) → (code ≡ 21) ⊎ (code ≡ 22) → (f : ℕ) → 1 ≤ f → f ≤ 4800 →
      (rest buffer : List ℕ) → Accepted (storing m k (with_hertz code f rest)) buffer m →
      Rounds code f k m (next (SendString (storing m k (with_hertz code f rest)) buffer) m)
  -- 01: "the table is every whole part of 96,000 / d, d from 20 to 96,000, rising, 599 numbers from 1 to 4800"
  pub table : Rule frequencies
