-- What a string asks for lies in 01's ranges.
-- Assumes nothing.
use Prim.Native.Nat.{ℕ, ◌-◌, ◌≤◌, ◌^◌, ◌%◌}
use native.Mathlib.Nat.{mod-eq_of_lt, mod-le}
use native.Mathlib.Omega.{arith}
use mathlib.Core.Path.{◌≡◌, refl, sym, ap, ◌∙◌}
use mathlib.Core.Bool.{Bool, true, false}
use mathlib.Core.List.{List, [], ◌∷◌}
use lib.ListN.{length, get_or}
use lib.Dec.{eqb, ltb, lit≤}
use borrow.Author.Tests.{eqb-true, leb-true}
use Rattle.std.specs.declared.option.Option.{Option}
use Rattle.std.specs.declared.option.Option.TheVariants.{Some, None}
use Rattle.laws.specs.Tests.{choose, both, either}
use Rattle.laws.specs.Tables.{every}
use Rattle.laws.specs.Text.{bytes}
use Rattle.laws.proofs.Tests.{both_left, both_right, both_true, choose-by}
use Rattle.fields.specs.Names.{pair_of}
use Rattle.fields.specs.Kinds.{good_signed, good, valid_signed, valid}
use Rattle.fields.specs.Rows.{parse_fields, parse_all, all_good, all_valid}
use Rattle.fields.specs.declared.kinds.Kind.{Kind}
use Rattle.fields.specs.declared.kinds.Kind.TheVariants.{Optional, Count, Name}
use Rattle.fields.specs.declared.names.Names.TheVariants.{Settable, Outputs, Inputs, Presets, Resolutions}
use Rattle.fields.specs.declared.rows.Parsed.{Parsed}
use Rattle.fields.proofs.Validity.{fields-valid, all_valid_lem}
use Rattle.format.specs.Formats.{cell, bit}
use Rattle.instruction.specs.Soundness.{cell_sound}
use Rattle.instruction.specs.Texts.{sent_cell}
use Rattle.instruction.specs.declared.Cell.{Cell}
use Rattle.instruction.proofs.Sending.{sent-sound}
use Rattle.units.specs.declared.CellAddress.{CellAddress}
use Rattle.machine.specs.Soundness.{is_cell, position_sound, cam_sound}
use Rattle.machine.specs.Commands.{any_signed, fields_at, is_code, on_parsed, on_fields, on_all, address_of, on_sent, store_in, preset_kind, preset_with, preset_in, cam_with, cam_in, command_by}
use Rattle.machine.specs.Strings.{is_stop}
use Rattle.machine.specs.declared.commands.PresetValue.{PresetValue}
use Rattle.machine.specs.declared.commands.PresetValue.TheVariants as preset
use Rattle.machine.specs.declared.commands.Command.{Command}
use Rattle.machine.specs.declared.commands.Command.TheVariants.{Store, SetPreset, Start, EmergencyStop, FreeRunStop, SetPosition, SetOutput, SetCam, AskPosition, AskPreset, AskInput, AskOutput, AskCell, AskCam, AskFault, AskSuspended, Wrong}
use Rattle.machine.proofs.Tests.{clash}

-- ---- values

pub first-valid : (k : Kind) (ks : List Kind) (vs : List ℕ) → all_valid (k ∷ ks) vs ≡ true → valid k (get_or vs 0 0) ≡ true
unfolding all_valid
first-valid k ks [] t = clash t
first-valid k ks (v ∷ vs) t = both_left _ _ t

second-valid : (k j : Kind) (ks : List Kind) (vs : List ℕ) → all_valid (k ∷ j ∷ ks) vs ≡ true → valid j (get_or vs 1 0) ≡ true
unfolding all_valid
second-valid k j ks [] t = clash t
second-valid k j ks (v ∷ vs) t = first-valid j ks vs (both_right _ _ t)

-- a number of 32 bits
signed-fits : (below above v : ℕ) → valid_signed below above v ≡ true → ltb v (2 ^ 32) ≡ true
unfolding valid_signed
signed-fits below above v t = both_left _ _ t

-- a cell address, held in a byte
pub address-cell : (vs : List ℕ) → all_valid (cell ∷ []) vs ≡ true → is_cell (address_of vs) ≡ true
unfolding is_cell valid
address-cell vs t =
    let u = first-valid cell [] vs t in
    let h = leb-true (get_or vs 0 0) 230 (both_right _ _ u) in
    let e : get_or vs 0 0 % 256 ≡ get_or vs 0 0 = mod-eq_of_lt (omega arith) in
    rw e u

-- 01: "`AASA,nnn`, sign optional"
abbrev any_position : Kind
any_position = Optional (2 ^ 31) (2 ^ 31 - 1)

position-fits : (vs : List ℕ) → all_valid (any_position ∷ []) vs ≡ true → position_sound (record { 0 = get_or vs 0 0 }) ≡ true
unfolding position_sound valid
position-fits vs t = signed-fits _ _ _ (first-valid any_position [] vs t)

-- 01: "`AASC,V,±nnn`"
cam-fits : (vs : List ℕ) → all_valid (bit ∷ any_signed ∷ []) vs ≡ true → ltb (get_or vs 1 0) (2 ^ 32) ≡ true
unfolding valid
cam-fits vs t = signed-fits _ _ _ (second-valid bit any_signed [] vs t)

-- ---- what a command holds

-- 01: "AD address" (0 to 47); "IN 0 to 3"
unfoldable pub Within : PresetValue → Type 0
Within (preset.Address a) = a.0 ≤ 47
Within (preset.Current v) = v ≤ 3
Within (preset.Resolution r) = Unit {0}
Within (preset.Interlock on) = Unit {0}
Within (preset.Absolute on) = Unit {0}

-- a stored cell is sound, and no stop code stores; the other numbers lie in their ranges
unfoldable pub Fine : ℕ → Command → Type 0
Fine code (Store a c) = (is_cell a ≡ true) × ((cell_sound c ≡ true) × (is_stop code ≡ false))
Fine code (SetPreset v) = Within v
Fine code (Start a) = is_cell a ≡ true
Fine code EmergencyStop = Unit {0}
Fine code FreeRunStop = Unit {0}
Fine code (SetPosition b) = position_sound (record { 0 = b }) ≡ true
Fine code (SetOutput o v) = Unit {0}
Fine code (SetCam v b) = cam_sound (record { set = v; position = record { 0 = b } }) ≡ true
Fine code AskPosition = Unit {0}
Fine code (AskPreset k) = Unit {0}
Fine code (AskInput k) = Unit {0}
Fine code (AskOutput k) = Unit {0}
Fine code (AskCell a) = Unit {0}
Fine code AskCam = Unit {0}
Fine code AskFault = Unit {0}
Fine code AskSuspended = Unit {0}
Fine code Wrong = Unit {0}

pub on-parsed : (P : Command → Type 0) (x : Option Parsed) (f : Parsed → Command) → ((p : Parsed) → x ≡ Some p → P (f p)) → P Wrong → P (on_parsed x f)
unfolding on_parsed
on-parsed P (Some p) f h w = h p refl
on-parsed P None f h w = w

pub on-fields :
    (P : Command → Type 0) (x : Option Parsed) (f : List ℕ → Command) → ((p : Parsed) → x ≡ Some p → P (f p.values)) → P Wrong → P (on_fields x f)
unfolding on_fields
on-fields P x f h w = on-parsed P x (λ p. f p.values) h w

-- the code that stores is no stop
store-stop : (code : ℕ) → is_code "WN" code ≡ true → is_stop code ≡ false
unfolding is_code is_stop either pair_of bytes
store-stop code t = rw (eqb-true code _ t)

-- what holds of the kind of each preset
pub preset-kinds :
    (P : Kind → Type 0) → P (Count 0 47) → P (Count 0 3) → P (Name Resolutions) → P (Count 0 1) → (k : ℕ) → P (preset_kind k)
unfolding preset_kind
preset-kinds P address current resolution other k =
    choose-by P (eqb k 0) (λ t. address) (λ t. choose-by P (eqb k 1) (λ t. current) (λ t. choose-by P (eqb k 2) (λ t. resolution) (λ t. other)))

pub preset-good : (k : ℕ) → all_good (preset_kind k ∷ []) ≡ true
unfolding all_good every good
preset-good k = both_true (preset-kinds (λ (j : Kind). good j ≡ true) refl refl refl refl k) refl

-- a value of a preset's kind, held in a byte
preset-range : (k v : ℕ) → valid (preset_kind k) v ≡ true → Within (preset_with k v)
unfolding preset_kind preset_with Within choose valid
preset-range k v t =
    let l = mod-le v 256 in
    choose-by Within (eqb k 0) (λ e.
    let u = leb-true v 47 (both_right _ _ (of 0 (eqb-true k 0 e))) in omega arith) (λ n.
    choose-by Within (eqb k 1) (λ e.
    let u = leb-true v 3 (both_right _ _ (of 1 (eqb-true k 1 e))) in omega arith) (λ n.
    choose-by Within (eqb k 2) (λ e. tt) (λ n.
    choose-by Within (eqb k 3) (λ e. tt) (λ n. tt))))
  where
    of : (j : ℕ) → k ≡ j → valid (preset_kind j) v ≡ true
    of j e = ap (λ (i : ℕ). valid (preset_kind i) v) (sym e) ∙ t

-- 01: "an unset cam has position 0"
cam-with : (code : ℕ) (v : Bool) (b : ℕ) → ltb b (2 ^ 32) ≡ true → Fine code (cam_with v b)
unfolding Fine cam_with cam_sound position_sound choose both either
cam-with code true b t = both_true t refl
cam-with code false b t = refl

module _ (code : ℕ) (s : List ℕ) where
  on-all :
      (ks : List Kind) (f : List ℕ → Command) → all_good ks ≡ true → length ks ≤ 6 →
      ((vs : List ℕ) → all_valid ks vs ≡ true → Fine code (f vs)) → Fine code (on_all ks s f)
  unfolding on_all Fine
  on-all ks f g h p = on-fields (Fine code) (parse_all ks s fields_at) f (λ q t. p _ (all_valid_lem ks s fields_at q g h t)) tt

  on-sent : (a : CellAddress) (from : ℕ) → is_cell a ≡ true → is_stop code ≡ false → (x : Option Cell) → sent_cell s from ≡ x → Fine code (on_sent a x)
  unfolding on_sent Fine
  on-sent a from c n (Some d) e = (c, (sent-sound s from d e, n))
  on-sent a from c n None e = tt

  store-fine : is_stop code ≡ false → Fine code (store_in s (parse_fields (cell ∷ []) s fields_at))
  unfolding store_in Fine all_good every good both
  store-fine n =
      on-parsed (Fine code) _ _
      (λ p t. on-sent _ _ (address-cell _ (fields-valid (cell ∷ []) s fields_at p refl (lit≤ tt) t)) n _ refl) tt

  preset-fine : Fine code (preset_in s (parse_fields (Name Presets ∷ []) s fields_at))
  unfolding preset_in Fine
  preset-fine =
      on-parsed (Fine code) _ _
      (λ p t. on-fields (Fine code) _ _
      (λ q u. preset-range _ _ (first-valid _ [] _ (all_valid_lem _ s _ q (preset-good _) (lit≤ tt) u))) tt) tt

  cam-fine : Fine code (cam_in s)
  unfolding cam_in Fine all_good every good good_signed cam_sound position_sound either both
  cam-fine =
      choose-by (Fine code) _ (λ t. refl)
      (λ t. on-all (bit ∷ any_signed ∷ []) _ refl (lit≤ tt)
      (λ vs v. cam-with code _ _ (cam-fits vs v)))

  -- 01: "Commands .." and "Requests .."
  pub command-fine : Fine code (command_by code s)
  unfolding command_by Fine all_good every good good_signed both
  command-fine =
      choose-by (Fine code) _ (λ t. store-fine (store-stop code t)) (λ t.
      choose-by (Fine code) _ (λ t. preset-fine) (λ t.
      choose-by (Fine code) _ (λ t. on-all (cell ∷ []) _ refl (lit≤ tt) (λ vs v. address-cell vs v)) (λ t.
      choose-by (Fine code) _ (λ t. on-all [] _ refl (lit≤ tt) (λ vs v. tt)) (λ t.
      choose-by (Fine code) _ (λ t. on-all [] _ refl (lit≤ tt) (λ vs v. tt)) (λ t.
      choose-by (Fine code) _ (λ t. on-all (any_position ∷ []) _ refl (lit≤ tt) (λ vs v. position-fits vs v)) (λ t.
      choose-by (Fine code) _ (λ t. on-all (Name Settable ∷ bit ∷ []) _ refl (lit≤ tt) (λ vs v. tt)) (λ t.
      choose-by (Fine code) _ (λ t. cam-fine) (λ t.
      choose-by (Fine code) _ (λ t. on-all [] _ refl (lit≤ tt) (λ vs v. tt)) (λ t.
      choose-by (Fine code) _ (λ t. on-all (Name Presets ∷ []) _ refl (lit≤ tt) (λ vs v. tt)) (λ t.
      choose-by (Fine code) _ (λ t. on-all (Name Inputs ∷ []) _ refl (lit≤ tt) (λ vs v. tt)) (λ t.
      choose-by (Fine code) _ (λ t. on-all (Name Outputs ∷ []) _ refl (lit≤ tt) (λ vs v. tt)) (λ t.
      choose-by (Fine code) _ (λ t. on-all (cell ∷ []) _ refl (lit≤ tt) (λ vs v. tt)) (λ t.
      choose-by (Fine code) _ (λ t. on-all [] _ refl (lit≤ tt) (λ vs v. tt)) (λ t.
      choose-by (Fine code) _ (λ t. on-all [] _ refl (lit≤ tt) (λ vs v. tt)) (λ t.
      choose-by (Fine code) _ (λ t. on-all [] _ refl (lit≤ tt) (λ vs v. tt)) (λ t. tt))))))))))))))))
