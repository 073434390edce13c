-- A choice and the joins of tests. They are shut: a proof opens them by name, so a goal keeps its shape.
-- Assumes nothing.
use Rattle.std.specs.Prelude.{Bool, true, false}

unfoldable pub choose {ℓ} : {A : Type ℓ} → Bool → A → A → A
choose true a b = a
choose false a b = b

unfoldable pub both : Bool → Bool → Bool
both true b = b
both false b = false

unfoldable pub either : Bool → Bool → Bool
either true b = true
either false b = b

-- two tests that agree
unfoldable pub same : Bool → Bool → Bool
same true b = b
same false true = false
same false false = true
