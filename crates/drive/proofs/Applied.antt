-- What a call comes to on a sound drive and on an unsound one.
-- Assumes nothing.
use Prim.Native.Nat.{ℕ}
use mathlib.Core.Path.{◌≡◌, refl, sym, ap, ◌∙◌}
use mathlib.Core.Bool.{Bool, true, false}
use mathlib.Core.List.{List, [], ◌∷◌, ◌++◌}
use lib.ListN.{length, take, drop}
use Rattle.std.specs.Prelude.{Result, Ok, Err}
use Rattle.laws.proofs.Tests.{choose-true, choose-false, choose-by}
use Rattle.machine.specs.Soundness.{sound}
use Rattle.machine.specs.Record.{with_state}
use Rattle.machine.specs.Milliseconds.{millisecond}
use Rattle.machine.specs.Calls.{Call, Outcome, done, act, apply}
use Rattle.machine.specs.Calls.Call.{SendString, Millisecond}
use Rattle.machine.specs.Operations.{filled, buffer_after}
use Rattle.machine.specs.declared.State.{State}
use Rattle.machine.specs.declared.Machine.{Machine}
use Rattle.operations.specs.Results.{number_of, told_length, heard_as, Answering}
use Rattle.operations.specs.declared.results.Refusal.{Refusal}
use Rattle.operations.specs.declared.results.Refusal.TheVariants.{Unsound}
use Rattle.drive.specs.declared.Drive.{Drive}
use Rattle.drive.specs.declared.results.Refused.{Refused}
use Rattle.drive.specs.declared.results.Told.{Told}
use Rattle.drive.specs.Results.{refused_with, refused_as, told_as, length_of}

-- "2, drive unsound": by the check that failed
pub unsound-applied :
    (c : Call) (d : Drive) {b : Bool} {x : Refused} → b ≡ sound d.machine → b ≡ false → x ≡ refused_with Unsound d → refused_as x ≡ apply c d.machine
unfolding apply number_of refused_with refused_as
unsound-applied c d e f q = ap refused_as q ∙ sym (choose-false _ _ _ (sym e ∙ f))

-- by the check that passed, and what the operation gives on a sound drive
pub sound-applied :
    (c : Call) (d : Drive) {b : Bool} → b ≡ sound d.machine → b ≡ true → act c d.machine ≡ apply c d.machine
unfolding apply
sound-applied c d e t = sym (choose-true _ _ _ (sym e ∙ t))

-- the answer stands at the front of the buffer
take-front : (a b : List ℕ) → take (length a) (a ++ b) ≡ a
take-front [] b = refl
take-front (x ∷ a) b = ap (λ (l : List ℕ). x ∷ l) (take-front a b)

front-is : (a buffer later : List ℕ) (n : ℕ) → n ≡ length a → later ≡ filled a buffer → take n later ≡ a
unfolding filled
front-is a buffer later n e q = rw (e, q) (take-front a (drop (length a) buffer))

-- what `Drive::string` promises of what it hands back and of the buffer
abbrev pub Telling : List ℕ → List ℕ → List ℕ → Drive → Result Told Refused → Type 0
Telling b buffer later d r =
    (told_as r later ≡ apply (SendString b buffer) d.machine) ×
    ((length_of r ≡ length (apply (SendString b buffer) d.machine).answer) × (later ≡ buffer_after b buffer d.machine))

pub string-refused :
    (b buffer : List ℕ) (d : Drive) (x : Refused) → refused_as x ≡ apply (SendString b buffer) d.machine → Telling b buffer buffer d (Err x)
unfolding told_as length_of refused_as buffer_after filled
string-refused b buffer d x e = (e, (ap (λ (o : Outcome). length o.answer) e, ap (λ (o : Outcome). filled o.answer buffer) e))

-- the drive and the length, or the refusal and the drive, after a string
abbrev pub told_with : Machine → Result ℕ Refusal → Result Told Refused
told_with m (Ok n) = Ok (record { length = n; drive = record { machine = m } })
told_with m (Err r) = Err (refused_with r (record { machine = m }))

pub string-applied :
    (b buffer later : List ℕ) (d : Drive) (m : Machine) (r : Result ℕ Refusal) → act (SendString b buffer) d.machine ≡ apply (SendString b buffer) d.machine →
    Answering r m buffer later (act (SendString b buffer) d.machine) → Telling b buffer later d (told_with m r)
unfolding told_as length_of refused_as refused_with heard_as told_length buffer_after
string-applied b buffer later d m (Ok n) e a =
    let o = act (SendString b buffer) d.machine in
    let front = front-is _ buffer later n a.count a.bytes in (
      ap (heard_as (Ok n) m) front ∙ a.outcome ∙ e,
      (a.count ∙ ap (λ (o : Outcome). length o.answer) e, a.bytes ∙ ap (λ (o : Outcome). filled o.answer buffer) e),
    )
string-applied b buffer later d m (Err r) e a =
    (a.outcome ∙ e, (a.count ∙ ap (λ (o : Outcome). length o.answer) e, a.bytes ∙ ap (λ (o : Outcome). filled o.answer buffer) e))

-- a millisecond is never refused
pub time-passed :
    (m : Machine) {s : State} → s ≡ millisecond m.cells m.state → done (with_state m s) ≡ act Millisecond m
unfolding act
time-passed m e = ap (λ (s : State). done (with_state m s)) e
