-- A printed field has no comma, no space and no control byte.
-- Assumes nothing.
use Prim.Native.Nat.{ℕ, ◌/◌, ◌%◌}
use mathlib.Core.Path.{◌≡◌, refl}
use mathlib.Core.Bool.{Bool, true, not}
use mathlib.Core.List.{[], ◌∷◌}
use lib.Dec.{ltb, eqb}
use borrow.Author.Tests.{ltb-true, not-true, eqb-false}
use Rattle.laws.specs.Tests.{choose, both}
use Rattle.laws.specs.Tables.{every}
use Rattle.laws.specs.Text.{bytes}
use Rattle.laws.proofs.Tests.{both_left, both_right, choose-by}
use Rattle.laws.proofs.Tables.{every-at}
use Rattle.decimal.proofs.Plain.{PlainByte, Plain, plain-digits, plain-decimal, plain-signed}
use Rattle.fields.specs.Names.{pair_of, listed, list_of}
use Rattle.fields.specs.Kinds.{letters_of, print_field, valid}
use Rattle.fields.specs.declared.names.Names.{Names}
use Rattle.fields.specs.declared.names.Names.TheVariants.{Settable, Outputs, Conditions, Inputs, Presets, Resolutions}
use Rattle.fields.specs.declared.kinds.Kind.{Kind}
use Rattle.fields.specs.declared.kinds.Kind.TheVariants.{Fixed, Next, Count, Signed, Optional, Sign, Multiplier, Name}
use Rattle.fields.proofs.Bounds.{valid-name}

is_plain : ℕ → Bool
is_plain b = both (ltb 42 b) (not (eqb b 44))

is_plain-true : (b : ℕ) → is_plain b ≡ true → PlainByte b
unfolding is_plain
is_plain-true b t = record { above = ltb-true 42 b (both_left _ _ t); no_comma = eqb-false b 44 (not-true _ (both_right _ _ t)) }

-- the test, computed for each name of each list
letters_plain : ℕ → Bool
letters_plain x = both (is_plain (x / 256)) (is_plain (x % 256))

letters_plain-list_of : (names : Names) → every letters_plain (list_of names) ≡ true
unfolding every letters_plain is_plain list_of listed bytes pair_of both
letters_plain-list_of Settable = refl
letters_plain-list_of Outputs = refl
letters_plain-list_of Conditions = refl
letters_plain-list_of Inputs = refl
letters_plain-list_of Presets = refl
letters_plain-list_of Resolutions = refl

plain-letters : (x : ℕ) → letters_plain x ≡ true → Plain (letters_of x)
unfolding letters_plain letters_of Plain
plain-letters x t = (is_plain-true _ (both_left _ _ t), (is_plain-true _ (both_right _ _ t), tt))

-- one byte of two, each plain
plain-choice : (b : Bool) (x y : ℕ) → is_plain x ≡ true → is_plain y ≡ true → Plain (choose b x y ∷ [])
unfolding Plain
plain-choice b x y s t = (choose-by PlainByte b (λ u. is_plain-true x s) (λ u. is_plain-true y t), tt)

pub plain-field : (k : Kind) (v : ℕ) → valid k v ≡ true → Plain (print_field k v)
unfolding print_field Plain is_plain both
plain-field (Fixed w low high) v t = plain-digits w v
plain-field Next v t = plain-digits 3 v
plain-field (Count low high) v t = plain-decimal v
plain-field (Signed below above) v t = plain-signed v
plain-field (Optional below above) v t = plain-signed v
plain-field Sign v t = plain-choice (eqb v 0) 43 45 refl refl
plain-field Multiplier v t = (is_plain-true 120 refl, plain-choice (eqb v 0) 49 52 refl refl)
plain-field (Name names) v t = plain-letters _ (every-at letters_plain 0 (list_of names) (letters_plain-list_of names) v (valid-name names v t))
