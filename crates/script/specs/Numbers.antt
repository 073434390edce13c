-- A word as a number: "Numbers are decimal, unsigned unless said, at most 4294967295."
-- Assumes nothing.
use Rattle.std.specs.Prelude.{ℕ, ◌-◌, ◌%◌, ◌^◌, List, [], ◌∷◌, ◌==◌, Option, Some, None}
use Rattle.laws.specs.Tests.{choose}
use Rattle.decimal.specs.Parsing.{value_from}

-- one digit or more, also with zeros in front
unfoldable pub unsigned_of : List ℕ → Option ℕ
unsigned_of [] = None
unsigned_of (b ∷ bs) = value_from 0 (b ∷ bs)

-- a number, as 64 bits
unfoldable pub positive : Option ℕ → Option ℕ
positive (Some v) = Some v
positive None = None

-- minus a number, as 64 bits in two's complement
unfoldable pub negative : Option ℕ → Option ℕ
negative (Some v) = Some ((2 ^ 64 - v) % 2 ^ 64)
negative None = None

-- "may carry a sign, and lie within 4,294,967,295 either way"
unfoldable pub integer_of : List ℕ → Option ℕ
integer_of [] = None
integer_of (b ∷ bs) =
    choose (b == 45) (negative (unsigned_of bs))
    (choose (b == 43) (positive (unsigned_of bs)) (positive (unsigned_of (b ∷ bs))))
