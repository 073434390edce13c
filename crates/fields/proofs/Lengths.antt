-- The most bytes that printed fields take.
-- Assumes nothing.
use Prim.Native.Nat.{ℕ, ◌≤◌}
use native.Mathlib.Omega.{arith}
use mathlib.Core.List.{List, [], ◌∷◌}
use lib.ListN.{length, length-append}
use Rattle.decimal.proofs.Printing.{length_digits, length-decimal, width_small, length-signed}
use Rattle.fields.specs.Kinds.{letters_of, print_field, most}
use Rattle.fields.specs.Rows.{print_fields, most_all}
use Rattle.fields.specs.declared.kinds.Kind.{Kind}
use Rattle.fields.specs.declared.kinds.Kind.TheVariants.{Fixed, Next, Count, Signed, Optional, Sign, Multiplier, Name}

pub field-most : (k : Kind) (v : ℕ) → length (print_field k v) ≤ most k
unfolding most print_field letters_of
field-most (Fixed w low high) v = omega (arith, length_digits w v)
field-most Next v = omega (arith, length_digits 3 v)
field-most (Count low high) v = omega (arith, length-decimal v, width_small v)
field-most (Signed below above) v = (length-signed v).1
field-most (Optional below above) v = (length-signed v).1
field-most Sign v = omega arith
field-most Multiplier v = omega arith
field-most (Name names) v = omega arith

pub fields-most : (ks : List Kind) (vs : List ℕ) → length (print_fields ks vs) ≤ most_all ks
unfolding most_all print_fields
fields-most [] vs = omega arith
fields-most (k ∷ ks) [] = omega arith
fields-most (k ∷ ks) (v ∷ vs) = omega (arith, length-append (print_field k v) (print_fields ks vs), field-most k v, fields-most ks vs)
