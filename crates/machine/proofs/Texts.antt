-- From equal texts to equal values: the parts of an answer, and the fields of a text.
-- Assumes nothing.
use Prim.Native.Nat.{ℕ}
use Prim.Native.String.{String}
use mathlib.Core.Path.{◌≡◌, refl, ap, sym, ◌∙◌}
use mathlib.Core.Bool.{true}
use mathlib.Core.List.{List, [], ◌∷◌, ◌++◌, append_cancel_left, append_cancel_right, head-eq_of_cons-eq, tail-eq_of_cons-eq}
use lib.ListN.{drop}
use native.Mathlib.Omega.{arith}
use Rattle.laws.specs.Tests.{both}
use Rattle.laws.specs.Tables.{every}
use Rattle.laws.specs.Text.{bytes}
use Rattle.laws.proofs.Tests.{both_true}
use Rattle.fields.specs.Kinds.{print_field, good, valid}
use Rattle.fields.specs.Rows.{print_fields, all_good, all_valid}
use Rattle.fields.proofs.RoundTrip.{print-injective}
use Rattle.fields.specs.declared.kinds.Kind.{Kind}
use Rattle.machine.specs.Answers.{answer_of}
use Rattle.machine.specs.declared.commands.StringAddress.{StringAddress}
use Rattle.machine.proofs.Addressing.{string, digits-front}

-- the fields of an answer, whatever its address
pub answer-fields : (aa bb : StringAddress) (code : String) (v w : List ℕ) → answer_of aa code v ≡ answer_of bb code w → v ≡ w
unfolding answer_of
answer-fields aa bb code v w e =
    let x = bytes code ++ string v in
    let y = bytes code ++ string w in
    let p : x ≡ y = ap (drop 2) (sym (digits-front aa.0 x) ∙ e ∙ digits-front bb.0 y) in
    append_cancel_right v w (13 ∷ []) (append_cancel_left (bytes code) _ _ p)

-- fields after the same first field
pub later_same :
    (k : Kind) (ks : List Kind) (v : ℕ) (vs ws : List ℕ) →
    print_fields (k ∷ ks) (v ∷ vs) ≡ print_fields (k ∷ ks) (v ∷ ws) → print_fields ks vs ≡ print_fields ks ws
unfolding print_fields
later_same k ks v vs ws e = append_cancel_left (print_field k v) _ _ (tail-eq_of_cons-eq e)

-- one field
pub value_same :
    (k : Kind) (v w : ℕ) → good k ≡ true → valid k v ≡ true → valid k w ≡ true →
    print_fields (k ∷ []) (v ∷ []) ≡ print_fields (k ∷ []) (w ∷ []) → v ≡ w
unfolding all_good every all_valid both
value_same k v w g p q e =
    head-eq_of_cons-eq (print-injective (k ∷ []) (v ∷ []) (w ∷ []) (both_true g refl) (both_true p refl) (both_true q refl) refl refl (omega arith) e)
