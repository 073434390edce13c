-- A cell's answer sent back, with WN in place of QM, stores the cell that is there.
-- Assumes nothing.
use Prim.Native.Nat.{ℕ, ◌+◌, ◌-◌, ◌≤◌, ◌<◌}
use native.Mathlib.Omega.{arith}
use mathlib.Core.Path.{◌≡◌, refl, ap, sym, ◌∙◌}
use mathlib.Core.Bool.{true}
use mathlib.Core.List.{List, [], ◌∷◌, ◌++◌, map}
use lib.ListN.{length, set, length-append}
use lib.Seq.{set-get_or}
use lib.Dec.{ltb}
use borrow.Author.Tests.{eq-eqb}
use Rattle.laws.specs.Tests.{choose, both}
use Rattle.laws.specs.Tables.{every}
use Rattle.laws.specs.Text.{bytes}
use Rattle.laws.proofs.Tests.{both_true, choose-by, choose-true, either-true-right}
use Rattle.fields.specs.Names.{pair_of}
use Rattle.fields.specs.Kinds.{good, valid, most}
use Rattle.fields.specs.Reader.{Ends}
use Rattle.fields.specs.Rows.{parse_fields, print_fields, all_good, all_valid, most_all}
use Rattle.fields.proofs.RoundTrip.{fields_back}
use Rattle.fields.proofs.Lengths.{fields-most}
use Rattle.units.specs.declared.CellAddress.{CellAddress}
use Rattle.instruction.specs.Codes.{code_of}
use Rattle.format.specs.Formats.{cell}
use Rattle.instruction.specs.Numbers.{numbers_of}
use Rattle.instruction.specs.Soundness.{cell_sound}
use Rattle.instruction.specs.Texts.{cell_text, sent_cell}
use Rattle.instruction.specs.declared.Cell.{Cell as Content}
use Rattle.machine.specs.Record.{cell_at, stored_at, null_cell, idle}
use Rattle.machine.specs.Soundness.{is_cell}
use Rattle.machine.specs.Commands.{code_in, is_code, on_parsed, on_fields, fields_at, on_sent, store_in, command_by, command_of}
use Rattle.machine.specs.Answers.{memory_text, answer_of, accepted, answer_at}
use Rattle.machine.specs.Acting.{same_content, keeps_suspended, stored_state, named, acted_at, cells_after, named_cell, machine_after}
use Rattle.machine.specs.Strings.{Heard, heard, is_start, allowed, carried_out, told}
use Rattle.machine.specs.Calls.{Call, Outcome, act, apply, next, after}
use Rattle.machine.specs.Calls.Call.{SendString}
use Rattle.machine.specs.Reading.{sent_back}
use Rattle.machine.specs.Reading.Request.{Cell}
use Rattle.machine.specs.Demand3.{Places}
use Rattle.machine.specs.Demand3.Places.{none, more}
use Rattle.machine.specs.declared.State.{State}
use Rattle.machine.specs.declared.Machine.{Machine}
use Rattle.machine.specs.declared.commands.Command.{Command}
use Rattle.machine.specs.declared.commands.Command.TheVariants.{Store}
use Rattle.machine.proofs.Invariant.{Good, good-sound}
use Rattle.instruction.proofs.Values.{keeps-byte}
use Rattle.instruction.proofs.Numbering.{same-numbers}
use Rattle.instruction.proofs.Sending.{sent-text, length-text, text-ends}
use Rattle.machine.proofs.Addressing.{own, own_address, string, addressed_to, digits-front, told-own}
use Rattle.machine.proofs.Answering.{code_for, text_for, answer_to, own-small, look-ask}
use Rattle.machine.proofs.Requests.{cell-asked}
use Rattle.machine.proofs.Readings.{placed, place-cell, place-sound}

-- ---- a cell stored again as it is

same-content : (c : Content) → same_content c c ≡ true
unfolding same_content
same-content c = both_true (eq-eqb (code_of c.instruction) _ refl) (same-numbers (numbers_of c))

keeps_same : (s : State) (a : CellAddress) (c : Content) → keeps_suspended s a c c ≡ true
unfolding keeps_suspended
keeps_same s a c = either-true-right _ _ (same-content c)

pub stored_same : (m : Machine) (a : CellAddress) → machine_after (Store a (cell_at m.cells a)) m ≡ m
unfolding machine_after named_cell named acted_at cells_after stored_state stored_at cell_at
stored_same m a =
    let s = choose-true _ m.state _ (keeps_same m.state a (cell_at m.cells a)) in
    λ j. record { state = s j; cells = set-get_or m.cells (a.0 - 100) null_cell j }

-- ---- the string

pub cell-good : all_good (cell ∷ []) ≡ true
unfolding all_good every good both
cell-good = refl

pub cell-valid : (k : ℕ) → k < 131 → all_valid (cell ∷ []) ((100 + k) ∷ []) ≡ true
unfolding all_valid valid is_cell
cell-valid k h = both_true (place-cell k h) refl

pub store-read : (s : List ℕ) → is_code "WN" (code_in s) ≡ true → command_of s ≡ store_in s (parse_fields (cell ∷ []) s fields_at)
unfolding command_of command_by
store-read s h = choose-true _ _ _ h

-- what a WN of a cell at a place says is what the text after BBB says
pub store-sent :
    (x y k : ℕ) (t : List ℕ) → k < 131 → Ends t →
    (let pre = x ∷ y ∷ 87 ∷ 78 ∷ print_fields (cell ∷ []) ((100 + k) ∷ []) in
    command_of (pre ++ t) ≡ on_sent (placed k) (sent_cell (pre ++ t) (length pre)))
unfolding is_code code_in pair_of bytes store_in on_parsed on_fields
store-sent x y k t h e =
    let front = x ∷ y ∷ 87 ∷ 78 ∷ [] in
    let p = print_fields (cell ∷ []) ((100 + k) ∷ []) in
    let parsed = fields_back (cell ∷ []) ((100 + k) ∷ []) front t cell-good (cell-valid k h) refl e in
    store-read (front ++ (p ++ t)) refl ∙ ap (store_in (front ++ (p ++ t))) parsed
    ∙ ap (λ (a : ℕ). on_sent (record { 0 = a }) (sent_cell (front ++ (p ++ t)) (length front + length p))) (keeps-byte (100 + k) (omega arith))
    ∙ ap (λ (i : ℕ). on_sent (placed k) (sent_cell (front ++ (p ++ t)) i)) (sym (length-append front p))

-- the command that the text of a cell after WN is
pub store-parsed :
    (x y k : ℕ) (c : Content) → k < 131 → cell_sound c ≡ true →
    command_of (x ∷ y ∷ 87 ∷ 78 ∷ (print_fields (cell ∷ []) ((100 + k) ∷ []) ++ cell_text c)) ≡ Store (placed k) c
unfolding on_sent
store-parsed x y k c h s =
    store-sent x y k (cell_text c) h (text-ends c)
    ∙ ap (on_sent (placed k)) (sent-text c (x ∷ y ∷ 87 ∷ 78 ∷ print_fields (cell ∷ []) ((100 + k) ∷ [])) s)

-- ---- sent back

-- the fields that show a cell
abbrev shown_cell : ℕ → Machine → List ℕ
shown_cell k m = memory_text (placed k) (cell_at m.cells (placed k))

sent-back-is :
    (m : Machine) (k : ℕ) (b : List ℕ) → Good m → idle m.state ≡ true → k < 131 →
    sent_back m (k, b) ≡ SendString (string (addressed_to (own m) (87 ∷ 78 ∷ shown_cell k m))) b
unfolding sent_back answer_to code_for text_for answer_of bytes
sent-back-is m k b g i h =
    ap (λ (l : List ℕ). SendString (set (set l 2 87) 3 78) b) (look-ask (Cell k) m (cell-asked k h) g i ∙ digits-front (own m) _)

length-memory : (a : CellAddress) (c : Content) → length (memory_text a c) ≤ 59
unfolding memory_text most_all most
length-memory a c =
    let p = print_fields (cell ∷ []) (a.0 ∷ []) in
    omega (arith, length-append p (cell_text c), fields-most (cell ∷ []) (a.0 ∷ []), length-text c)

told_back :
    (m : Machine) (k : ℕ) → Good m → idle m.state ≡ true → k < 131 →
    told (string (addressed_to (own m) (87 ∷ 78 ∷ shown_cell k m))) m ≡ heard (accepted (own_address m)) m
unfolding memory_text carried_out answer_at allowed is_start both choose
told_back m k g i h =
    let a = placed k in
    let c = cell_at m.cells a in
    told-own (87 ∷ 78 ∷ shown_cell k m) m (own-small m g) i (omega (arith, length-memory a c))
    ∙ ap (λ (o : Command). carried_out (allowed o m.state) (own_address m) m) (store-parsed _ _ k c h (place-sound m k g h))
    ∙ ap (heard (accepted (own_address m))) (stored_same m a)

-- with any buffer, a short one too
pub back-same : (m : Machine) (k : ℕ) (b : List ℕ) → Good m → idle m.state ≡ true → k < 131 → next (sent_back m (k, b)) m ≡ m
unfolding next apply act
back-same m k b g i h =
    ap (λ (c : Call). (apply c m).machine) (sent-back-is m k b g i h)
    ∙ ap (λ (o : Outcome). o.machine) (choose-true _ _ _ (good-sound m g))
    ∙ choose-by (λ (o : Outcome). o.machine ≡ m) (ltb (length b) 64) (λ t. refl) (λ f. ap (λ (o : Heard). o.machine) (told_back m k g i h))

pub all_back :
    (m : Machine) → Good m → idle m.state ≡ true → (ws : List (ℕ × List ℕ)) → Places ws → after (map (sent_back m) ws) m ≡ m
unfolding after
all_back m g i [] none = refl
all_back m g i (w ∷ ws) (more {k = k} {b = b} h t) = ap (after (map (sent_back m) ws)) (back-same m k b g i h) ∙ all_back m g i ws t
