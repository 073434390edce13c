-- What a string that is answered Y leaves, and that no other call changes a cell.
-- Assumes nothing.
use Prim.Native.Nat.{ℕ, ◌<◌}
use Prim.Native.String.{String}
use native.Mathlib.Omega.{arith}
use mathlib.Core.Path.{◌≡◌, refl, ap, sym, ◌∙◌}
use mathlib.Core.Bool.{true}
use mathlib.Core.Logic.{◌⊎◌, inl, inr, ⊎_elim}
use mathlib.Core.List.{List, [], ◌∷◌, ◌++◌, append_assoc}
use lib.Dec.{ltb}
use lib.ListN.{length, get_or, set}
use lib.Seq.{get_or-set_same}
use Rattle.laws.specs.Text.{bytes}
use Rattle.laws.proofs.Tests.{choose-by, choose-true, choose-false}
use Rattle.units.specs.declared.CellAddress.{CellAddress}
use Rattle.instruction.specs.Soundness.{cell_sound}
use Rattle.instruction.specs.Texts.{cell_text}
use Rattle.instruction.specs.declared.Cell.{Cell as Content}
use Rattle.machine.specs.Record.{cell_at, stored_at, null_cell, idle}
use Rattle.machine.specs.Soundness.{sound}
use Rattle.machine.specs.Commands.{code_in, is_code, command_of}
use Rattle.machine.specs.Answers.{memory_text, answer_of}
use Rattle.machine.specs.Acting.{stored_state, acted_at, cells_after, machine_after}
use Rattle.machine.specs.Strings.{Heard, body_of, told}
use Rattle.machine.specs.Calls.{Call, Outcome, answered, act, apply, next, look}
use Rattle.machine.specs.Calls.Call.{SendString, SetInputs, Millisecond, Step, AtSpeed, Halted, Wait}
use Rattle.machine.specs.Reading.Request.{Cell}
use Rattle.machine.specs.Demand2.{own, in_string, own_address, address_at, place_field, read_back, showing, Accepted, Stores, Writes}
use Rattle.machine.specs.declared.State.{State}
use Rattle.machine.specs.declared.Machine.{Machine}
use Rattle.machine.specs.declared.commands.Command.TheVariants.{Store}
use Rattle.machine.proofs.Tests.{by-test}
use Rattle.machine.proofs.Places.{place-cell}
use Rattle.machine.proofs.Invariant.{Good, good-sound, good-next}
use Rattle.machine.proofs.Addressing.{string, addressed_to, digits-front, body-string}
use Rattle.machine.proofs.Answering.{code_for, text_for, answer_to, apply-string, look-ask}
use Rattle.machine.proofs.Requests.{cell-asked}
use Rattle.machine.proofs.WritingBack.{stored_same, store-parsed}
use Rattle.machine.proofs.Demand2Hearing.{stored, Wrote, no_answer, told-leaves, told-written}

stored-cells : (m : Machine) (k : ℕ) (c : Content) → (stored m (address_at k) c).cells ≡ set m.cells k c
unfolding machine_after cells_after stored_at
stored-cells m k c = ap (λ (i : ℕ). set m.cells i c) (omega arith)

pub set_here :
    (cells other : List Content) (k : ℕ) (c : Content) → length cells ≡ 131 → k < 131 → other ≡ set cells k c → cell_at other (address_at k) ≡ c
set_here cells other k c n h e =
    place-cell other (address_at k) (omega arith) ∙ ap (λ (l : List Content). get_or l k null_cell) e
    ∙ get_or-set_same cells k c null_cell (omega arith)

-- the state keeps its presets, and is idle as it was
stored-state :
    (m : Machine) (a : CellAddress) (c : Content) →
    (own (stored m a c) ≡ own m) × (idle (stored m a c).state ≡ idle m.state)
unfolding machine_after acted_at stored_state idle
stored-state m a c =
    choose-by (λ (s : State). (s.presets.address.0 ≡ own m) × (idle s ≡ idle m.state)) _ (λ t. (refl, refl)) (λ t. (refl, refl))

-- QM shows a cell that stands at its place
pub read_back_lem :
    (m : Machine) (k : ℕ) (c : Content) → Good m → idle m.state ≡ true → k < 131 → cell_at m.cells (address_at k) ≡ c →
    read_back k m ≡ showing m k (cell_text c)
unfolding answer_to code_for text_for memory_text
read_back_lem m k c g i h e =
    look-ask (Cell k) m (cell-asked k h) g i ∙ ap (λ (x : Content). showing m k (cell_text x)) e

-- a string at an address, with its code
pub string-code : (code : String) (aa : ℕ) (t : List ℕ) → answer_of (in_string aa) code t ≡ string (addressed_to aa (bytes code ++ t))
unfolding answer_of
string-code code aa t = digits-front aa _ ∙ ap (addressed_to aa) (sym (append_assoc (bytes code) t (13 ∷ [])))

pub string-store : (aa : ℕ) (t : List ℕ) → answer_of (in_string aa) "WN" t ≡ string (addressed_to aa (87 ∷ 78 ∷ t))
unfolding bytes
string-store = string-code "WN"

pub body-store : (aa : ℕ) (t : List ℕ) → body_of (answer_of (in_string aa) "WN" t) ≡ addressed_to aa (87 ∷ 78 ∷ t)
body-store aa t = ap body_of (string-store aa t) ∙ body-string (addressed_to aa (87 ∷ 78 ∷ t))

-- a string that is accepted was heard, and is stored
accepted-wrote :
    (b buffer : List ℕ) (m : Machine) → Good m → Accepted b buffer m →
    Wrote b m (told b m) × (apply (SendString b buffer) m ≡ answered (told b m))
unfolding look
accepted-wrote b buffer m g a =
    by-test (ltb (length buffer) 64)
    (λ t. absurd (no_answer (own_address m) (sym (short t) ∙ a.yes)))
    (λ t. let e = apply-string b buffer m g t in (
      ⊎_elim (λ n. absurd (n.1 (sym (ap (λ (o : Outcome). o.answer) e) ∙ a.yes))) (λ w. w) (told-written b m a.code),
      e,
    ))
  where
    short : ltb (length buffer) 64 ≡ true → (apply (SendString b buffer) m).answer ≡ []
    short t =
        unfold apply act in
        ap (λ (o : Outcome). o.answer) (choose-true _ _ _ (good-sound m g) ∙ choose-true _ _ _ t)

-- what a string that is answered Y leaves
pub record Left (b buffer : List ℕ) (m : Machine) : Type 0 where
  pub place : ℕ
  pub within : place < 131
  pub content : Content
  pub taken : command_of (body_of b) ≡ Store (address_at place) content
  pub sound : cell_sound content ≡ true
  pub whole : next (SendString b buffer) m ≡ stored m (address_at place) content
  pub cells : (next (SendString b buffer) m).cells ≡ set m.cells place content
  pub address : own (next (SendString b buffer) m) ≡ own m
  pub rests : idle (next (SendString b buffer) m).state ≡ true

pub string-left : (b buffer : List ℕ) (m : Machine) → Good m → Accepted b buffer m → Left b buffer m
unfolding next
string-left b buffer m g a =
    let x = accepted-wrote b buffer m g a in
    let w = x.0 in
    let e : next (SendString b buffer) m ≡ stored m (address_at w.place) w.content =
    ap (λ (o : Outcome). o.machine) x.1 ∙ ap (λ (h : Heard). h.machine) w.left in
    let kept = stored-state m (address_at w.place) w.content in
    record {
      place = w.place;
      within = w.within;
      content = w.content;
      taken = w.taken;
      sound = w.sound;
      whole = e;
      cells = ap (λ (m : Machine). m.cells) e ∙ stored-cells m w.place w.content;
      address = ap own e ∙ kept.0;
      rests = ap (λ (m : Machine). idle m.state) e ∙ kept.1 ∙ w.rests;
    }

pub string-stores : (b buffer : List ℕ) (m : Machine) → Good m → Accepted b buffer m → Stores b buffer m
string-stores b buffer m g a =
    let w = string-left b buffer m g a in
    let n = next (SendString b buffer) m in
    let here = set_here m.cells n.cells w.place w.content g.count w.within w.cells in
    record {
      place = w.place;
      within = w.within;
      content = w.content;
      taken = w.taken;
      stored = w.cells;
      shown = read_back_lem n w.place w.content (good-next (SendString b buffer) m g) w.rests w.within here
          ∙ ap (λ (aa : ℕ). answer_of (in_string aa) "QM" (place_field w.place ++ cell_text w.content)) w.address;
      same = ap command_of (body-store (own m) (place_field w.place ++ cell_text w.content))
          ∙ store-parsed _ _ w.place w.content w.within w.sound;
      equal = λ h. w.whole ∙ ap (stored m (address_at w.place)) (sym h) ∙ stored_same m (address_at w.place);
    }

-- ---- no other call changes a cell

abbrev Only : Call → Machine → Type 0
Only c m = ((next c m).cells ≡ m.cells) ⊎ Writes c m

told-only : (b buffer : List ℕ) (m : Machine) → apply (SendString b buffer) m ≡ answered (told b m) → Only (SendString b buffer) m
unfolding next look
told-only b buffer m e =
    let cells = ap (λ (o : Outcome). o.machine.cells) e in
    by-test (is_code "WN" (code_in (body_of b)))
    (λ w. ⊎_elim (λ n. inl (cells ∙ ap (λ (n : Machine). n.cells) n.0))
    (λ (r : Wrote b m (told b m)). inr (record {
      string = b;
      buffer = buffer;
      call = refl;
      accepted = record {
        code = w;
        yes = ap (λ (o : Outcome). o.answer) e ∙ ap (λ (h : Heard). h.answer) r.left;
      };
    })) (told-written b m w))
    (λ w. inl (cells ∙ told-leaves b m w))

abbrev SameCells : Machine → Outcome → Type 0
SameCells m o = o.machine.cells ≡ m.cells

pub call-only : (c : Call) (m : Machine) → Only c m
unfolding next apply act
call-only (SendString b buffer) m =
    by-test (sound m)
    (λ t. by-test (ltb (length buffer) 64)
    (λ u. inl (ap (λ (o : Outcome). o.machine.cells) (choose-true _ _ _ t ∙ choose-true _ _ _ u)))
    (λ u. told-only b buffer m (choose-true _ _ _ t ∙ choose-false _ _ _ u)))
    (λ t. inl (ap (λ (o : Outcome). o.machine.cells) (choose-false _ _ _ t)))
call-only (SetInputs w) m = inl (choose-by (SameCells m) _ (λ t. choose-by (SameCells m) _ (λ u. refl) (λ u. refl)) (λ t. refl))
call-only Millisecond m = inl (choose-by (SameCells m) _ (λ t. refl) (λ t. refl))
call-only Step m = inl (choose-by (SameCells m) _ (λ t. choose-by (SameCells m) _ (λ u. refl) (λ u. refl)) (λ t. refl))
call-only AtSpeed m = inl (choose-by (SameCells m) _ (λ t. choose-by (SameCells m) _ (λ u. refl) (λ u. refl)) (λ t. refl))
call-only Halted m = inl (choose-by (SameCells m) _ (λ t. choose-by (SameCells m) _ (λ u. refl) (λ u. refl)) (λ t. refl))
call-only (Wait k) m = inl (choose-by (SameCells m) _ (λ t. choose-by (SameCells m) _ (λ u. refl) (λ u. refl)) (λ t. refl))
