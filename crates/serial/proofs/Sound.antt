-- What a sound drive says of the cell that a command names, and of what an answer shows.
-- Assumes nothing.
use Prim.Native.Nat.{ℕ, ◌-◌, ◌≤◌, ◌<◌}
use native.Mathlib.Omega.{arith}
use mathlib.Core.Path.{◌≡◌}
use mathlib.Core.Bool.{true}
use mathlib.Core.List.{List}
use mathlib.Core.Logic.{⊎_elim}
use lib.Dec.{eqb}
use lib.ListN.{length}
use borrow.Author.Tests.{eqb-true, leb-true}
use Rattle.laws.proofs.Tests.{both_left, both_right, either-cases}
use Rattle.instruction.specs.Soundness.{cell_sound}
use Rattle.machine.specs.Record.{cell_at}
use Rattle.machine.specs.Commands.{placed}
use Rattle.machine.specs.Soundness.{presets_sound, fault_sound, state_sound, sound}
use Rattle.machine.specs.Acting.{named, named_cell}
use Rattle.machine.specs.Strings.{to_every, addressed}
use Rattle.machine.specs.declared.Machine.{Machine}
use Rattle.machine.specs.declared.commands.Header.{Header}
use Rattle.machine.specs.declared.commands.Command.{Command}
use Rattle.machine.specs.declared.commands.Command.TheVariants.{Store, SetPreset, Start, EmergencyStop, FreeRunStop, SetPosition, SetOutput, SetCam, AskPosition, AskPreset, AskInput, AskOutput, AskCell, AskCam, AskFault, AskSuspended, Wrong}
use Rattle.machine.proofs.Cells.{cell-to}
use Rattle.machine.proofs.Places.{place-sound, suspended-next, running-to, sound-cells, sound-state, sound-suspended, sound-running}
use Rattle.replies.specs.Pieces.{Answerable}

-- ---- the parts of a sound drive

presets-sound : (m : Machine) → sound m ≡ true → presets_sound m.state.presets ≡ true
unfolding state_sound
presets-sound m h = both_left _ _ (sound-state m h)

fault-sound : (m : Machine) → sound m ≡ true → fault_sound m.state.fault ≡ true
unfolding state_sound
fault-sound m h = both_left _ _ (both_right _ _ (both_right _ _ (both_right _ _ (sound-state m h))))

present-to : (m : Machine) → sound m ≡ true → m.state.running.cell.0 ≤ 230
present-to m h = running-to _ _ (sound-running m h)

-- ---- the cell that a command names

named-to : (k : Command) (m : Machine) → placed k ≡ true → sound m ≡ true → (named k m.state).0 ≤ 230
unfolding named placed
named-to (Store a d) m p h = cell-to a (both_left _ _ p)
named-to (SetPreset v) m p h = present-to m h
named-to (Start a) m p h = present-to m h
named-to EmergencyStop m p h = present-to m h
named-to FreeRunStop m p h = present-to m h
named-to (SetPosition b) m p h = present-to m h
named-to (SetOutput o v) m p h = present-to m h
named-to (SetCam v b) m p h = present-to m h
named-to AskPosition m p h = present-to m h
named-to (AskPreset k) m p h = present-to m h
named-to (AskInput k) m p h = present-to m h
named-to (AskOutput k) m p h = present-to m h
named-to (AskCell a) m p h = cell-to a p
named-to AskCam m p h = present-to m h
named-to AskFault m p h = present-to m h
named-to AskSuspended m p h = present-to m h
named-to Wrong m p h = present-to m h

-- it has a place in the memory
pub named-place : (k : Command) (m : Machine) → placed k ≡ true → sound m ≡ true → (named k m.state).0 - 100 < 131
named-place k m p h = omega (arith, named-to k m p h)

-- it is sound
pub named-sound : (k : Command) (m : Machine) → sound m ≡ true → cell_sound (named_cell k m) ≡ true
unfolding named_cell cell_at
named-sound k m h = place-sound m.cells ((named k m.state).0 - 100) (sound-cells m h)

-- ---- what an answer shows

-- the address in a string that is heard has two digits
address-small : (m : Machine) (h : Header) → sound m ≡ true → addressed m.state.presets.address h ≡ true → h.address.0 ≤ 99
unfolding addressed to_every presets_sound
address-small m h s t =
    let own = m.state.presets.address.0 in
    let aa = h.address.0 in
    let small : own ≤ 47 = leb-true own 47 (both_left _ _ (presets-sound m s)) in
    ⊎_elim (λ (e : eqb aa own ≡ true). omega (arith, small, eqb-true aa own e))
    (λ (e : eqb aa 99 ≡ true). omega (arith, eqb-true aa 99 e)) (either-cases _ _ (both_right _ _ t))

pub answerable :
    (k : Command) (m : Machine) (front : Header) (buffer : List ℕ) → placed k ≡ true → sound m ≡ true →
    addressed m.state.presets.address front ≡ true → 64 ≤ length buffer →
    Answerable front.address k m.state (named_cell k m) buffer
answerable k m front buffer p h t room =
    record {
      address = address-small m front h t;
      names = p;
      presets = presets-sound m h;
      fault = fault-sound m h;
      suspended = suspended-next _ _ (sound-suspended m h);
      cell = named-sound k m h;
      room = room;
    }
