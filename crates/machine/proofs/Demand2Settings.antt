-- The strings that store a value, each read back by its request: WS and QS, SA and QA, SO and QO, SC and QC.
-- Assumes nothing.
use Prim.Native.Nat.{ℕ, zero, suc, ◌^◌, ◌-◌, ◌≤◌, ◌<◌}
use Prim.Native.String.{String}
use native.Mathlib.Omega.{arith}
use mathlib.Core.Path.{◌≡◌, refl, ap, sym, ◌∙◌}
use mathlib.Core.Bool.{true, false}
use mathlib.Core.List.{List, [], ◌∷◌, ◌++◌, append_assoc, Memᴰ}
use lib.Dec.{lit≤}
use lib.ListN.{length, get_or, set, replicate, length-append}
use lib.Seq.{get_or-set_same}
use borrow.Author.Tests.{leb-true, ltb-true, lt-ltb, le-ltb}
use Rattle.std.specs.Prelude.{is_some}
use Rattle.std.specs.declared.option.Option.{Option}
use Rattle.laws.specs.Tests.{choose, both}
use Rattle.laws.specs.Tables.{every}
use Rattle.laws.specs.Text.{bytes}
use Rattle.laws.proofs.Tests.{both_right, both_true, choose-by, choose-true, choose-false}
use Rattle.decimal.specs.Printing.{digits}
use Rattle.decimal.specs.Parsing.{value_from, number_of, fixed_of, within}
use Rattle.fields.specs.Names.{pair_of, listed, list_of}
use Rattle.fields.specs.Kinds.{parse_field, letters_of, print_field, good_signed, good, valid, most}
use Rattle.fields.specs.Rows.{on_field, on_value, part, fields_from, parse_fields, ended, parse_all, print_fields, all_good, all_valid, most_all}
use Rattle.fields.specs.declared.kinds.Kind.{Kind}
use Rattle.fields.specs.declared.kinds.Kind.TheVariants.{Fixed, Optional, Name}
use Rattle.fields.specs.declared.names.Names.TheVariants.{Settable, Outputs, Presets}
use Rattle.fields.specs.declared.rows.Parsed.{Parsed}
use Rattle.fields.specs.declared.reader.Extent.{Extent}
use Rattle.fields.proofs.Reading.{field_at-plain}
use Rattle.fields.proofs.Plain.{plain-field}
use Rattle.fields.proofs.RoundTrip.{fields_back, all_back}
use Rattle.fields.proofs.Lengths.{fields-most}
use Rattle.format.specs.Formats.{bit}
use Rattle.instruction.specs.Numbers.{is_one, bit_of}
use Rattle.instruction.proofs.Values.{keeps-byte, keeps-bit}
use Rattle.machine.specs.Record.{no_cam, with_state, with_presets, with_position, with_cam, with_output, idle}
use Rattle.machine.specs.Commands.{any_signed, fields_at, code_in, is_code, on_parsed, on_fields, on_all, preset_kind, resolution_at, preset_with, preset_in, cam_with, cam_in, command_by, command_of}
use Rattle.machine.specs.Answers.{resolution_place, preset_value, preset_text, position_text, output_value, output_text, cam_text, answer_of, accepted, answer_at}
use Rattle.machine.specs.Acting.{preset_set, acted_at, cells_after, machine_after}
use Rattle.machine.specs.Strings.{Heard, heard, is_start, allowed, carried_out, told}
use Rattle.machine.specs.Calls.{Outcome, next}
use Rattle.machine.specs.Calls.Call.{SendString}
use Rattle.machine.specs.Reading.{Request, places, requests}
use Rattle.machine.specs.Reading.Request.{Preset, Position, Output, Cam}
use Rattle.machine.specs.Demand2.{own, own_address, Repeats}
use Rattle.machine.specs.declared.Presets.{Presets as PresetValues}
use Rattle.machine.specs.declared.State.{State}
use Rattle.machine.specs.declared.Machine.{Machine}
use Rattle.machine.specs.declared.commands.Command.{Command}
use Rattle.machine.specs.declared.commands.Command.TheVariants.{SetPreset, SetPosition, SetOutput, SetCam}
use Rattle.machine.proofs.Invariant.{Good, good-next}
use Rattle.machine.proofs.Members.{map_at, member-places}
use Rattle.machine.proofs.Ranges.{preset-kinds, preset-good}
use Rattle.machine.proofs.Addressing.{told-own}
use Rattle.machine.proofs.Answering.{code_for, text_for, answer_to, own-small, apply-string, look-ask}
use Rattle.machine.proofs.Requests.{preset-asked, position-asked, output-asked, cam-asked}
use Rattle.machine.proofs.Demand2Strings.{string-code}
use Rattle.machine.proofs.Demand2Rows.{print-first, ends-print}

-- a string that is carried out as a new state, and the request that repeats its fields
record Setting (m : Machine) (code : String) (fields : List ℕ) (r : Request) : Type 0 where
  short : length (bytes code ++ fields) ≤ 61
  command : Command
  parsed : (p q : ℕ) → command_of (p ∷ q ∷ (bytes code ++ fields)) ≡ command
  state : State
  done : carried_out (allowed command m.state) (own_address m) m ≡ heard (accepted (own_address m)) (with_state m state)
  rests : idle state ≡ true
  text : text_for r (with_state m state) ≡ fields

repeats :
    (m : Machine) → Good m → idle m.state ≡ true → {code : String} {fields : List ℕ} {r : Request} → Memᴰ r requests →
    Setting m code fields r → Repeats m code fields r (code_for r)
unfolding next answer_to
repeats m g i {code} {fields} {r} q s buffer l =
    let n = next (SendString (answer_of (own_address m) code fields) buffer) m in
    let e : n ≡ with_state m s.state =
    ap (λ (o : Outcome). o.machine) (apply-string (answer_of (own_address m) code fields) buffer m g (le-ltb (length buffer) 64 l))
    ∙ ap (λ (h : Heard). h.machine)
    (ap (λ (b : List ℕ). told b m) (string-code code (own m) fields) ∙ told-own (bytes code ++ fields) m (own-small m g) i s.short
    ∙ ap (λ (c : Command). carried_out (allowed c m.state) (own_address m) m) (s.parsed _ _) ∙ s.done) in
    look-ask r n q (good-next _ m g) (ap (λ (m : Machine). idle m.state) e ∙ s.rests)
    ∙ ap (answer_of (own_address n) (code_for r)) (ap (text_for r) e ∙ s.text)

-- what carrying out a setting computes
setting : Unit {0}
unfolding bytes most_all most allowed is_start both choose carried_out answer_at machine_after acted_at cells_after idle code_for text_for
setting = tt

-- ---- SA

position-parsed : (a b p : ℕ) → valid any_signed p ≡ true → command_of (a ∷ b ∷ 83 ∷ 65 ∷ print_fields (any_signed ∷ []) (p ∷ [])) ≡ SetPosition p
unfolding command_of command_by is_code code_in pair_of bytes choose on_all on_parsed on_fields all_good every good good_signed both all_valid valid
    print_fields print_field
position-parsed a b p v =
    rw (all_back (Optional (2 ^ 31) (2 ^ 31 - 1) ∷ []) (p ∷ []) (a ∷ b ∷ 83 ∷ 65 ∷ []) refl (both_true v refl) refl) refl

pub position-repeat :
    (m : Machine) → Good m → idle m.state ≡ true → (p : ℕ) → valid any_signed p ≡ true →
    Repeats m "SA" (print_fields (any_signed ∷ []) (p ∷ [])) Position "QA"
unfolding setting position_text
position-repeat m g i p v =
    repeats m g i position-asked
    (record {
      short = omega (arith, fields-most (any_signed ∷ []) (p ∷ []));
      command = SetPosition p;
      parsed = λ a b. position-parsed a b p v;
      state = with_position m.state (record { 0 = p });
      done = refl;
      rests = i;
      text = refl;
    })

-- ---- SO

settable-name : (k : ℕ) → k < 13 → get_or (list_of Outputs) k 0 ≡ get_or (list_of Settable) k 0
unfolding list_of listed pair_of bytes places
settable-name k h =
    map_at (λ (k : ℕ). get_or (list_of Outputs) k 0) (λ (k : ℕ). get_or (list_of Settable) k 0)
    (member-places 13 0 k (omega arith) (omega arith)) refl

output-fields :
    (k v : ℕ) → k < 13 →
    print_fields (Name Outputs ∷ bit ∷ []) (k ∷ v ∷ []) ≡ print_fields (Name Settable ∷ bit ∷ []) (k ∷ v ∷ [])
unfolding print_fields print_field
output-fields k v h = ap (λ (n : ℕ). 44 ∷ (letters_of n ++ (44 ∷ (digits 1 v ++ [])))) (settable-name k h)

output-parsed :
    (a b k v : ℕ) → k < 13 → valid bit v ≡ true →
    command_of (a ∷ b ∷ 83 ∷ 79 ∷ print_fields (Name Settable ∷ bit ∷ []) (k ∷ v ∷ [])) ≡ SetOutput k (is_one v)
unfolding command_of command_by is_code code_in pair_of bytes choose on_all on_parsed on_fields all_good every good both all_valid valid list_of listed
output-parsed a b k v h t =
    rw (all_back (Name Settable ∷ bit ∷ []) (k ∷ v ∷ []) (a ∷ b ∷ 83 ∷ 79 ∷ []) refl (both_true (lt-ltb k 13 h) (both_true t refl)) refl)
    (ap (λ (o : ℕ). SetOutput o (is_one v)) (keeps-byte k (omega arith)))

bit-small : (v : ℕ) → valid bit v ≡ true → v < 2
unfolding valid
bit-small v t = omega (arith, leb-true v 1 (both_right _ _ t))

output-set : (s : State) (k v : ℕ) → length s.outputs ≡ 14 → k < 13 → valid bit v ≡ true → output_value k (with_output s k (is_one v)) ≡ v
unfolding output_value
output-set s k v n h t =
    choose-true _ _ _ (lt-ltb k 14 (omega arith)) ∙ ap bit_of (get_or-set_same s.outputs k (is_one v) false (omega arith))
    ∙ keeps-bit v (bit-small v t)

pub outputs-repeat :
    (m : Machine) → Good m → idle m.state ≡ true → (k v : ℕ) → k < 13 → valid bit v ≡ true →
    Repeats m "SO" (print_fields (Name Outputs ∷ bit ∷ []) (k ∷ v ∷ [])) (Output k) "QO"
unfolding setting output_text
outputs-repeat m g i k v h t =
    repeats m g i (output-asked k (omega arith))
    (record {
      short = omega (arith, fields-most (Name Outputs ∷ bit ∷ []) (k ∷ v ∷ []));
      command = SetOutput k (is_one v);
      parsed = λ a b. ap (λ (l : List ℕ). command_of (a ∷ b ∷ 83 ∷ 79 ∷ l)) (output-fields k v h) ∙ output-parsed a b k v h t;
      state = with_output m.state k (is_one v);
      done = refl;
      rests = i;
      text = ap (λ (w : ℕ). print_fields (Name Outputs ∷ bit ∷ []) (k ∷ w ∷ [])) (output-set m.state k v g.outputs h t);
    })

-- ---- SC

-- a 1 is no 0 that ends the string
no_zero :
    (a b p : ℕ) → is_some (parse_all (Fixed 1 0 0 ∷ []) (a ∷ b ∷ 83 ∷ 67 ∷ print_fields (bit ∷ any_signed ∷ []) (1 ∷ p ∷ [])) fields_at) ≡ false
unfolding ended parse_all parse_fields fields_from parse_field fixed_of number_of value_from within choose both print_fields print_field digits valid
no_zero a b p =
    let rest = print_fields (any_signed ∷ []) (p ∷ []) in
    let s = a ∷ b ∷ 83 ∷ 67 ∷ print_fields (bit ∷ any_signed ∷ []) (1 ∷ p ∷ []) in
    ap
    (λ (x : Option Extent).
    is_some (ended s
    (on_field x (λ start end. on_value (parse_field (Fixed 1 0 0) (part s start end)) (λ v. fields_from [] s end 1 (set (replicate 6 0) 0 v))))))
    (field_at-plain (a ∷ b ∷ 83 ∷ 67 ∷ []) (print_field bit 1) rest (plain-field bit 1 refl) (ends-print (any_signed ∷ []) (p ∷ [])))

cam-parsed :
    (a b p : ℕ) → valid any_signed p ≡ true → command_of (a ∷ b ∷ 83 ∷ 67 ∷ print_fields (bit ∷ any_signed ∷ []) (1 ∷ p ∷ [])) ≡ SetCam true p
unfolding command_of command_by is_code code_in pair_of bytes choose cam_in on_all on_parsed on_fields cam_with all_good every good good_signed both all_valid valid
cam-parsed a b p v =
    choose-false _ _ _ (no_zero a b p)
    ∙ rw (all_back (bit ∷ any_signed ∷ []) (1 ∷ p ∷ []) (a ∷ b ∷ 83 ∷ 67 ∷ []) refl (both_true refl (both_true v refl)) refl) refl

no-cam-parsed : (a b : ℕ) → command_of (a ∷ b ∷ 83 ∷ 67 ∷ print_fields (bit ∷ []) (0 ∷ [])) ≡ SetCam false 0
unfolding command_of command_by is_code code_in pair_of bytes choose cam_in all_good every good both all_valid valid print_fields print_field
no-cam-parsed a b =
    choose-true _ _ _ (ap is_some (all_back (Fixed 1 0 0 ∷ []) (0 ∷ []) (a ∷ b ∷ 83 ∷ 67 ∷ []) refl refl refl))

pub cam-repeat :
    (m : Machine) → Good m → idle m.state ≡ true → (p : ℕ) → valid any_signed p ≡ true →
    Repeats m "SC" (print_fields (bit ∷ any_signed ∷ []) (1 ∷ p ∷ [])) Cam "QC"
unfolding setting cam_text
cam-repeat m g i p v =
    repeats m g i cam-asked
    (record {
      short = omega (arith, fields-most (bit ∷ any_signed ∷ []) (1 ∷ p ∷ []));
      command = SetCam true p;
      parsed = λ a b. cam-parsed a b p v;
      state = with_cam m.state (record { set = true; position = record { 0 = p } });
      done = refl;
      rests = i;
      text = refl;
    })

pub no-cam-repeat : (m : Machine) → Good m → idle m.state ≡ true → Repeats m "SC" (print_fields (bit ∷ []) (0 ∷ [])) Cam "QC"
unfolding setting cam_text
no-cam-repeat m g i =
    repeats m g i cam-asked
    (record {
      short = omega (arith, fields-most (bit ∷ []) (0 ∷ []));
      command = SetCam false 0;
      parsed = no-cam-parsed;
      state = with_cam m.state no_cam;
      done = refl;
      rests = i;
      text = refl;
    })

-- ---- WS

preset-parsed :
    (a b k v : ℕ) → k < 5 → valid (preset_kind k) v ≡ true →
    command_of (a ∷ b ∷ 87 ∷ 83 ∷ print_fields (Name Presets ∷ preset_kind k ∷ []) (k ∷ v ∷ [])) ≡ SetPreset (preset_with k v)
unfolding command_of command_by is_code code_in pair_of bytes choose preset_in on_parsed on_fields all_good every good both all_valid valid list_of listed
preset-parsed a b k v h t =
    let front = a ∷ b ∷ 87 ∷ 83 ∷ [] in
    let name = print_fields (Name Presets ∷ []) (k ∷ []) in
    let value = print_fields (preset_kind k ∷ []) (v ∷ []) in
    let s = front ++ (name ++ value) in
    let row =
    ap (parse_all (preset_kind k ∷ []) s) (sym (length-append front name))
    ∙ ap (λ (l : List ℕ). parse_all (preset_kind k ∷ []) l (length (front ++ name))) (sym (append_assoc front name value))
    ∙ all_back (preset_kind k ∷ []) (v ∷ []) (front ++ name) (preset-good k) (both_true t refl) refl in
    ap (λ (l : List ℕ). command_of (a ∷ b ∷ 87 ∷ 83 ∷ l)) (print-first (Name Presets) k (preset_kind k ∷ []) (v ∷ []))
    ∙ ap (preset_in s)
    (fields_back (Name Presets ∷ []) (k ∷ []) front value refl (both_true (lt-ltb k 5 h) refl) refl (ends-print (preset_kind k ∷ []) (v ∷ [])))
    ∙ ap (λ (x : Option Parsed). on_fields x (λ vs. SetPreset (preset_with k (get_or vs 0 0)))) row

-- each of the eight values of RS stands at its place
resolution-at : (v : ℕ) → v < 8 → resolution_place (resolution_at v) ≡ v
unfolding resolution_at choose places
resolution-at v h =
    map_at (λ (v : ℕ). resolution_place (resolution_at v)) (λ (v : ℕ). v) (member-places 8 0 v (omega arith) (omega arith)) refl

preset-set : (p : PresetValues) (k v : ℕ) → k < 5 → valid (preset_kind k) v ≡ true → preset_value k (preset_set p (preset_with k v)) ≡ v
unfolding preset_value preset_set preset_with preset_kind choose valid list_of listed
preset-set p zero v h t = keeps-byte v (omega (arith, leb-true v 47 (both_right _ _ t)))
preset-set p (suc zero) v h t = keeps-byte v (omega (arith, leb-true v 3 (both_right _ _ t)))
preset-set p (suc (suc zero)) v h t = resolution-at v (ltb-true v 8 t)
preset-set p (suc (suc (suc zero))) v h t = keeps-bit v (omega (arith, leb-true v 1 (both_right _ _ t)))
preset-set p (suc (suc (suc (suc zero)))) v h t = keeps-bit v (omega (arith, leb-true v 1 (both_right _ _ t)))
preset-set p (suc (suc (suc (suc (suc k))))) v h t = absurd (omega arith)

pub presets-repeat :
    (m : Machine) → Good m → idle m.state ≡ true → (k v : ℕ) → k < 5 → valid (preset_kind k) v ≡ true →
    Repeats m "WS" (print_fields (Name Presets ∷ preset_kind k ∷ []) (k ∷ v ∷ [])) (Preset k) "QS"
unfolding setting preset_text
presets-repeat m g i k v h t =
    let few = preset-kinds (λ (j : Kind). most j ≤ 10) (lit≤ tt) (lit≤ tt) (lit≤ tt) (lit≤ tt) k in
    repeats m g i (preset-asked k h)
    (record {
      short = omega (arith, fields-most (Name Presets ∷ preset_kind k ∷ []) (k ∷ v ∷ []));
      command = SetPreset (preset_with k v);
      parsed = λ a b. preset-parsed a b k v h t;
      state = with_presets m.state (preset_set m.state.presets (preset_with k v));
      done = refl;
      rests = i;
      text = ap (λ (w : ℕ). print_fields (Name Presets ∷ preset_kind k ∷ []) (k ∷ w ∷ [])) (preset-set m.state.presets k v h t);
    })
