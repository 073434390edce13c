-- Each name is found at its own place of its list, so the names of a list differ.
-- Assumes nothing.
use Prim.Native.Nat.{ℕ, ◌<◌}
use mathlib.Core.Path.{◌≡◌, refl, ap}
use mathlib.Core.Bool.{Bool, true, false}
use mathlib.Core.List.{List}
use lib.ListN.{length, get_or}
use lib.Dec.{eqb}
use borrow.Author.Tests.{eqb-true}
use Rattle.laws.specs.Tests.{choose, both}
use Rattle.laws.specs.Tables.{every_from}
use Rattle.laws.specs.Text.{bytes}
use Rattle.laws.proofs.Tables.{every_from-at}
use Rattle.std.specs.declared.option.Option.{Option}
use Rattle.std.specs.declared.option.Option.TheVariants.{Some, None}
use Rattle.fields.specs.Names.{pair_of, listed, list_of, place_from}
use Rattle.fields.specs.declared.names.Names.{Names}
use Rattle.fields.specs.declared.names.Names.TheVariants.{Settable, Outputs, Conditions, Inputs, Presets, Resolutions}

is_at : ℕ → Option ℕ → Bool
is_at v (Some x) = eqb x v
is_at v None = false

is_at-true : (v : ℕ) (x : Option ℕ) → is_at v x ≡ true → x ≡ Some v
unfolding is_at
is_at-true v (Some x) t = ap Some (eqb-true x v t)
is_at-true v None t = cc

-- the test, computed for each list
all_at : List ℕ → Bool
all_at l = every_from (λ v x. is_at v (place_from l 0 x)) 0 l

all_at-list_of : (names : Names) → all_at (list_of names) ≡ true
unfolding all_at every_from is_at list_of listed bytes pair_of place_from choose both
all_at-list_of Settable = refl
all_at-list_of Outputs = refl
all_at-list_of Conditions = refl
all_at-list_of Inputs = refl
all_at-list_of Presets = refl
all_at-list_of Resolutions = refl

pub place-name : (names : Names) (v : ℕ) → v < length (list_of names) → place_from (list_of names) 0 (get_or (list_of names) v 0) ≡ Some v
unfolding all_at
place-name names v h =
    let l = list_of names in
    is_at-true v _ (every_from-at (λ v x. is_at v (place_from l 0 x)) 0 l (all_at-list_of names) v h)
