-- The names and cells that a string asks for have a place in their lists, and a cell that it stores is sound.
-- Assumes nothing.
use Prim.Native.Nat.{ℕ, ◌≤◌, ◌%◌}
use native.Mathlib.Nat.{mod-eq_of_lt}
use native.Mathlib.Omega.{arith}
use mathlib.Core.Path.{◌≡◌, refl}
use mathlib.Core.Bool.{true}
use mathlib.Core.List.{List, [], ◌∷◌}
use lib.ListN.{length, get_or}
use lib.Dec.{ltb, lit≤}
use borrow.Author.Tests.{ltb-true}
use Rattle.laws.specs.Tests.{both}
use Rattle.laws.specs.Tables.{every}
use Rattle.laws.proofs.Tests.{both_true, choose-by}
use Rattle.fields.specs.Names.{listed, list_of}
use Rattle.fields.specs.Kinds.{good_signed, good, valid}
use Rattle.fields.specs.Rows.{parse_fields, parse_all, all_good, all_valid}
use Rattle.fields.specs.declared.kinds.Kind.{Kind}
use Rattle.fields.specs.declared.kinds.Kind.TheVariants.{Name}
use Rattle.fields.specs.declared.names.Names.{Names}
use Rattle.fields.specs.declared.names.Names.TheVariants.{Presets}
use Rattle.fields.proofs.Validity.{fields-valid, all_valid_lem}
use Rattle.format.specs.Formats.{cell}
use Rattle.instruction.specs.Numbers.{byte_of}
use Rattle.instruction.specs.Texts.{sent_cell}
use Rattle.instruction.specs.declared.Cell.{Cell}
use Rattle.std.specs.declared.option.Option.{Option}
use Rattle.std.specs.declared.option.Option.TheVariants.{Some, None}
use Rattle.instruction.proofs.Sending.{sent-sound}
use Rattle.units.specs.declared.CellAddress.{CellAddress}
use Rattle.machine.specs.Soundness.{is_cell}
use Rattle.machine.specs.Commands.{fields_at, on_all, on_sent, store_in, preset_in, cam_with, cam_in, command_by, placed}
use Rattle.machine.specs.declared.commands.Command.{Command}
use Rattle.machine.proofs.Ranges.{first-valid, address-cell, on-parsed, on-fields}

abbrev Placed : Command → Type 0
Placed c = placed c ≡ true

-- a name's place is held whole in a byte
name-placed :
    (n : Names) (ks : List Kind) (vs : List ℕ) → length (list_of n) ≤ 256 → all_valid (Name n ∷ ks) vs ≡ true →
    ltb (byte_of (get_or vs 0 0)) (length (list_of n)) ≡ true
unfolding valid
name-placed n ks vs h t =
    let u = first-valid (Name n) ks vs t in
    let l = ltb-true (get_or vs 0 0) (length (list_of n)) u in
    let e : get_or vs 0 0 % 256 ≡ get_or vs 0 0 = mod-eq_of_lt (omega arith) in
    rw e u

module _ (s : List ℕ) where
  on-all :
      (ks : List Kind) (f : List ℕ → Command) → all_good ks ≡ true → length ks ≤ 6 →
      ((vs : List ℕ) → all_valid ks vs ≡ true → Placed (f vs)) → Placed (on_all ks s f)
  unfolding on_all placed
  on-all ks f g h p = on-fields Placed (parse_all ks s fields_at) f (λ q t. p _ (all_valid_lem ks s fields_at q g h t)) refl

  on-sent : (a : CellAddress) (from : ℕ) → is_cell a ≡ true → (x : Option Cell) → sent_cell s from ≡ x → Placed (on_sent a x)
  unfolding on_sent placed
  on-sent a from h (Some d) e = both_true h (sent-sound s from d e)
  on-sent a from h None e = refl

  store-placed : Placed (store_in s (parse_fields (cell ∷ []) s fields_at))
  unfolding store_in placed all_good every good both
  store-placed =
      on-parsed Placed _ _ (λ p t. on-sent _ _ (address-cell _ (fields-valid (cell ∷ []) s fields_at p refl (lit≤ tt) t)) _ refl) refl

  preset-placed : Placed (preset_in s (parse_fields (Name Presets ∷ []) s fields_at))
  unfolding preset_in placed
  preset-placed = on-parsed Placed _ _ (λ p t. on-fields Placed _ _ (λ q u. refl) refl) refl

  cam-placed : Placed (cam_in s)
  unfolding cam_in cam_with placed all_good every good good_signed both
  cam-placed = choose-by Placed _ (λ t. refl) (λ t. on-all _ _ refl (lit≤ tt) (λ vs v. refl))

  pub command-placed : (code : ℕ) → Placed (command_by code s)
  unfolding command_by placed all_good every good good_signed both list_of listed
  command-placed code =
      choose-by Placed _ (λ t. store-placed) (λ t.
      choose-by Placed _ (λ t. preset-placed) (λ t.
      choose-by Placed _ (λ t. on-all _ _ refl (lit≤ tt) address-cell) (λ t.
      choose-by Placed _ (λ t. on-all _ _ refl (lit≤ tt) (λ vs v. refl)) (λ t.
      choose-by Placed _ (λ t. on-all _ _ refl (lit≤ tt) (λ vs v. refl)) (λ t.
      choose-by Placed _ (λ t. on-all _ _ refl (lit≤ tt) (λ vs v. refl)) (λ t.
      choose-by Placed _ (λ t. on-all _ _ refl (lit≤ tt) (λ vs v. name-placed _ _ vs (lit≤ tt) v)) (λ t.
      choose-by Placed _ (λ t. cam-placed) (λ t.
      choose-by Placed _ (λ t. on-all _ _ refl (lit≤ tt) (λ vs v. refl)) (λ t.
      choose-by Placed _ (λ t. on-all _ _ refl (lit≤ tt) (λ vs v. name-placed _ _ vs (lit≤ tt) v)) (λ t.
      choose-by Placed _ (λ t. on-all _ _ refl (lit≤ tt) (λ vs v. name-placed _ _ vs (lit≤ tt) v)) (λ t.
      choose-by Placed _ (λ t. on-all _ _ refl (lit≤ tt) (λ vs v. name-placed _ _ vs (lit≤ tt) v)) (λ t.
      choose-by Placed _ (λ t. on-all _ _ refl (lit≤ tt) address-cell) (λ t.
      choose-by Placed _ (λ t. on-all _ _ refl (lit≤ tt) (λ vs v. refl)) (λ t.
      choose-by Placed _ (λ t. on-all _ _ refl (lit≤ tt) (λ vs v. refl)) (λ t.
      choose-by Placed _ (λ t. on-all _ _ refl (lit≤ tt) (λ vs v. refl)) (λ t. refl))))))))))))))))
