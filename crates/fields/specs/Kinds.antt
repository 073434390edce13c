-- One field of each kind: what its bytes say, how it is printed, which values it admits.
-- Assumes nothing.
use Rattle.std.specs.Prelude.{ℕ, ◌+◌, ◌-◌, ◌/◌, ◌%◌, ◌^◌, ◌≤◌, ◌≡◌, List, [], ◌∷◌, Bool, true, false, length, get_or, ltb, leb, eqb, Option, Some, None}
use Rattle.laws.specs.Tests.{choose, both, either}
use Rattle.decimal.specs.Printing.{digits, decimal, signed}
use Rattle.decimal.specs.Parsing.{number_of, fixed_of, within, signed_of, optional_of}
use Rattle.fields.specs.Names.{pair_of, list_of, place_from}
use Rattle.fields.specs.declared.names.Names.{Names}
use Rattle.fields.specs.declared.kinds.Kind.{Kind}
use Rattle.fields.specs.declared.kinds.Kind.TheVariants.{Fixed, Next, Count, Signed, Optional, Sign, Multiplier, Name}

-- 01: "DDD 000 (end) or 100 to 230"
unfoldable pub next_of : Option ℕ → Option ℕ
next_of (Some v) = choose (eqb v 0) (Some 0) (within 100 230 (Some v))
next_of None = None

-- 01: "s is + or -"
unfoldable pub sign_of : List ℕ → Option ℕ
sign_of s =
    choose (eqb (length s) 1)
    (choose (eqb (get_or s 0 0) 43) (Some 0) (choose (eqb (get_or s 0 0) 45) (Some 1) None)) None

-- 01: "XX is x1 or x4, also with X, printed x"
unfoldable pub multiplier_digit : ℕ → Option ℕ
multiplier_digit b = choose (eqb b 49) (Some 0) (choose (eqb b 52) (Some 1) None)

unfoldable pub multiplier_of : List ℕ → Option ℕ
multiplier_of s =
    choose (eqb (length s) 2)
    (choose (eqb (get_or s 0 0) 120) (multiplier_digit (get_or s 1 0))
    (choose (eqb (get_or s 0 0) 88) (multiplier_digit (get_or s 1 0)) None)) None

unfoldable pub name_of : Names → List ℕ → Option ℕ
name_of names s = choose (eqb (length s) 2) (place_from (list_of names) 0 (pair_of s)) None

unfoldable pub parse_field : Kind → List ℕ → Option ℕ
parse_field (Fixed w low high) s = within low high (fixed_of w s)
parse_field Next s = next_of (fixed_of 3 s)
parse_field (Count low high) s = within low high (number_of s)
parse_field (Signed below above) s = signed_of below above s
parse_field (Optional below above) s = optional_of below above s
parse_field Sign s = sign_of s
parse_field Multiplier s = multiplier_of s
parse_field (Name names) s = name_of names s

-- a name's two letters
unfoldable pub letters_of : ℕ → List ℕ
letters_of x = x / 256 ∷ x % 256 ∷ []

unfoldable pub print_field : Kind → ℕ → List ℕ
print_field (Fixed w low high) v = digits w v
print_field Next v = digits 3 v
print_field (Count low high) v = decimal v
print_field (Signed below above) v = signed v
print_field (Optional below above) v = signed v
print_field Sign v = choose (eqb v 0) 43 45 ∷ []
print_field Multiplier v = 120 ∷ choose (eqb v 0) 49 52 ∷ []
print_field (Name names) v = letters_of (get_or (list_of names) v 0)

unfoldable pub good_signed : ℕ → ℕ → Bool
good_signed below above = both (leb below (2 ^ 31)) (ltb above (2 ^ 31))

-- a kind whose values have a printed form: its greatest number fits its width and 32 bits, with a sign 32 bits signed
unfoldable pub good : Kind → Bool
good (Fixed w low high) = both (leb 1 w) (both (leb w 10) (both (ltb high (10 ^ w)) (ltb high (2 ^ 32))))
good (Count low high) = ltb high (2 ^ 32)
good Next = true
good (Signed below above) = good_signed below above
good (Optional below above) = good_signed below above
good Sign = true
good Multiplier = true
good (Name names) = true

-- 32 bits in two's complement, at most `below` under zero and `above` over it
unfoldable pub valid_signed : ℕ → ℕ → ℕ → Bool
valid_signed below above v = both (ltb v (2 ^ 32)) (choose (ltb v (2 ^ 31)) (leb v above) (leb (2 ^ 32 - v) below))

-- the values that a kind admits
unfoldable pub valid : Kind → ℕ → Bool
valid (Fixed w low high) v = both (leb low v) (leb v high)
valid Next v = either (eqb v 0) (both (leb 100 v) (leb v 230))
valid (Count low high) v = both (leb low v) (leb v high)
valid (Signed below above) v = valid_signed below above v
valid (Optional below above) v = valid_signed below above v
valid Sign v = ltb v 2
valid Multiplier v = ltb v 2
valid (Name names) v = ltb v (length (list_of names))

-- the most bytes that a field of a kind takes
unfoldable pub most : Kind → ℕ
most (Fixed w low high) = w
most Next = 3
most (Count low high) = 10
most (Signed below above) = 11
most (Optional below above) = 11
most Sign = 1
most Multiplier = 2
most (Name names) = 2

-- the kinds whose values have a sign
unfoldable pub is_signed : Kind → Bool
is_signed (Fixed w low high) = false
is_signed Next = false
is_signed (Count low high) = false
is_signed (Signed below above) = true
is_signed (Optional below above) = true
is_signed Sign = false
is_signed Multiplier = false
is_signed (Name names) = false

-- what printing a field into a buffer asks: a good kind, a value that it admits, and room from the place on
pub record Printable (k : Kind) (v at : ℕ) (buf : List ℕ) : Type 0 where
  pub kind_good : good k ≡ true
  pub value_valid : valid k v ≡ true
  pub room : at + length (print_field k v) ≤ length buf
