-- The table as it was before 02's longer waits beside the present one: the same codes, with the same fields but for the nnn of a 65.
-- Assumes nothing.
use Prim.Native.Nat.{ℕ}
use mathlib.Core.Path.{◌≡◌, refl, ap}
use mathlib.Core.Bool.{Bool, true, false}
use mathlib.Core.List.{[], ◌∷◌, map}
use lib.Dec.{eqb}
use borrow.Author.Tests.{eqb-true}
use Rattle.laws.specs.Tests.{choose}
use Rattle.fields.specs.Kinds.{is_signed}
use Rattle.fields.specs.declared.kinds.Kind.TheVariants.{Next}
use Rattle.format.specs.Formats.{delay, delay_before, formats_before, fields_in, fields_of, known_in, known}

pub known-before : (code : ℕ) → known_in formats_before code ≡ known code
unfolding known_in known
known-before code = refl

pub others-before : (code : ℕ) → eqb code 65 ≡ false → fields_in formats_before code ≡ fields_of code
unfolding fields_in fields_of choose
others-before code e = rw e

pub wait-before : fields_in formats_before 65 ≡ delay_before ∷ Next ∷ []
unfolding fields_in choose
wait-before = refl

pub wait-now : fields_of 65 ≡ delay ∷ Next ∷ []
unfolding fields_in fields_of choose
wait-now = refl

-- no field has a sign in the one and none in the other
pub signs-before : (code : ℕ) → map is_signed (fields_in formats_before code) ≡ map is_signed (fields_of code)
unfolding is_signed
signs-before code = by (eqb code 65) refl
  where
    by : (b : Bool) → eqb code 65 ≡ b → map is_signed (fields_in formats_before code) ≡ map is_signed (fields_of code)
    by false e = ap (map is_signed) (others-before code e)
    by true e = rw (eqb-true code 65 e, wait-before, wait-now)
