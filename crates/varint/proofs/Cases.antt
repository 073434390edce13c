-- Computed examples, refusals included.
-- Assumes nothing.
use Prim.Native.Nat.{ℕ}
use mathlib.Core.Path.{◌≡◌, refl}
use mathlib.Core.List.{List, [], ◌∷◌, map}
use Rattle.laws.specs.Tests.{choose}
use Rattle.varint.specs.Groups.{groups_from, groups, behind, read_from, bounded, number_at, found}
use Rattle.varint.specs.Signs.{folded, unfolded}
use Rattle.std.specs.Prelude.{None}

written-cases :
    map groups (0 ∷ 127 ∷ 128 ∷ 228 ∷ 2181 ∷ 4294967295 ∷ [])
    ≡ (0 ∷ []) ∷ (127 ∷ []) ∷ (128 ∷ 1 ∷ []) ∷ (228 ∷ 1 ∷ []) ∷ (133 ∷ 17 ∷ []) ∷ (255 ∷ 255 ∷ 255 ∷ 255 ∷ 15 ∷ []) ∷ []
unfolding groups groups_from choose
written-cases = refl

-- from the front: 0, a number and bytes after it, the greatest, two that are cut off, two longer forms, 2 ^ 32 and above, six groups
read-cases :
    map (λ (s : List ℕ). number_at s 0)
    ((0 ∷ []) ∷ (228 ∷ 1 ∷ 9 ∷ []) ∷ (255 ∷ 255 ∷ 255 ∷ 255 ∷ 15 ∷ []) ∷ [] ∷ (228 ∷ []) ∷ (128 ∷ 0 ∷ []) ∷ (129 ∷ 128 ∷ 0 ∷ [])
    ∷ (128 ∷ 128 ∷ 128 ∷ 128 ∷ 16 ∷ []) ∷ (255 ∷ 255 ∷ 255 ∷ 255 ∷ 16 ∷ []) ∷ (128 ∷ 128 ∷ 128 ∷ 128 ∷ 128 ∷ 1 ∷ []) ∷ [])
    ≡ found 0 1 ∷ found 228 2 ∷ found 4294967295 5 ∷ None ∷ None ∷ None ∷ None ∷ None ∷ None ∷ None ∷ []
unfolding number_at bounded read_from behind choose
read-cases = refl

-- 0, 1, -1, the greatest and the least number
folded-cases : map folded (0 ∷ 1 ∷ 4294967295 ∷ 2147483647 ∷ 2147483648 ∷ []) ≡ 0 ∷ 2 ∷ 1 ∷ 4294967294 ∷ 4294967295 ∷ []
unfolding folded choose
folded-cases = refl

unfolded-cases : map unfolded (0 ∷ 2 ∷ 1 ∷ 4294967294 ∷ 4294967295 ∷ []) ≡ 0 ∷ 1 ∷ 4294967295 ∷ 2147483647 ∷ 2147483648 ∷ []
unfolding unfolded choose
unfolded-cases = refl
