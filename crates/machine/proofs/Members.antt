-- Members of lists, and what a map or a test says of each.
-- Assumes nothing.
use Prim.Native.Nat.{ℕ, zero, suc, ◌+◌, ◌≤◌, ◌<◌}
use native.Mathlib.Decide.{ℕ_discrete}
use native.Mathlib.Omega.{arith}
use mathlib.Core.Path.{◌≡◌, refl, ap, sym, ◌∙◌}
use mathlib.Core.Bool.{Bool, true}
use mathlib.Core.List.{List, [], ◌∷◌, ◌++◌, map, Memᴰ, head-eq_of_cons-eq, tail-eq_of_cons-eq}
use lib.ListN.{take}
use Rattle.laws.specs.Tables.{every}
use Rattle.laws.proofs.Tests.{both_left, both_right, both_true}
use Rattle.machine.specs.Reading.{places}

-- two maps that agree on a list agree on each member
pub map_at {ℓ κ} : {A : Type ℓ} {B : Type κ} (f g : A → B) {r : A} {l : List A} → Memᴰ r l → map f l ≡ map g l → f r ≡ g r
map_at f g (Memᴰ.head e) p = ap f e ∙ head-eq_of_cons-eq p ∙ ap g (sym e)
map_at f g (Memᴰ.tail m) p = map_at f g m (tail-eq_of_cons-eq p)

-- two maps that agree on two lists agree on both joined
pub map-append-same {ℓ κ} :
    {A : Type ℓ} {B : Type κ} (f g : A → B) (a b : List A) → map f a ≡ map g a → map f b ≡ map g b → map f (a ++ b) ≡ map g (a ++ b)
map-append-same f g [] b p q = q
map-append-same f g (x ∷ a) b p q = cc (map-append-same f g a b (tail-eq_of_cons-eq p) q)

-- two maps that agree on each of n things from the k-th on
pub map-places {ℓ κ} :
    {A : Type ℓ} {B : Type κ} (f g : A → B) (kind : ℕ → A) (n k : ℕ) → ((i : ℕ) → i < k + n → f (kind i) ≡ g (kind i)) →
    map f (map kind (places n k)) ≡ map g (map kind (places n k))
unfolding places
map-places f g kind zero k h = refl
map-places f g kind (suc n) k h = cc (h k (omega arith), map-places f g kind n (suc k) (λ i l. h i (omega arith)))

-- a test that passes on a list passes on each member
pub every-member {ℓ} : {A : Type ℓ} (f : A → Bool) {r : A} {l : List A} → Memᴰ r l → every f l ≡ true → f r ≡ true
unfolding every
every-member f (Memᴰ.head e) p = ap f e ∙ both_left _ _ p
every-member f (Memᴰ.tail m) p = every-member f m (both_right _ _ p)

-- a test that passes on each member passes on the list that a map makes of them
pub every_map {ℓ κ} :
    {A : Type ℓ} {B : Type κ} (f : B → Bool) (g : A → B) (l : List A) → ((r : A) → Memᴰ r l → f (g r) ≡ true) → every f (map g l) ≡ true
unfolding every
every_map f g [] h = refl
every_map f g (x ∷ xs) h = both_true (h x (Memᴰ.head refl)) (every_map f g xs (λ r q. h r (Memᴰ.tail q)))

pub every_append {ℓ} : {A : Type ℓ} (f : A → Bool) (a b : List A) → every f a ≡ true → every f b ≡ true → every f (a ++ b) ≡ true
unfolding every
every_append f [] b g h = h
every_append f (x ∷ a) b g h = both_true (both_left _ _ g) (every_append f a b (both_right _ _ g) h)

-- n places from k on
pub every_front {ℓ} : {A : Type ℓ} (f : A → Bool) (a b : List A) → every f (a ++ b) ≡ true → every f a ≡ true
unfolding every
every_front f [] b t = refl
every_front f (x ∷ a) b t = both_true (both_left _ _ t) (every_front f a b (both_right _ _ t))

pub every_take {ℓ} : {A : Type ℓ} (f : A → Bool) (n : ℕ) (l : List A) → every f l ≡ true → every f (take n l) ≡ true
unfolding every
every_take f zero l t = refl
every_take f (suc n) [] t = refl
every_take f (suc n) (x ∷ l) t = both_true (both_left _ _ t) (every_take f n l (both_right _ _ t))

pub member-places : (n k i : ℕ) → k ≤ i → i < k + n → Memᴰ i (places n k)
unfolding places
member-places zero k i l h = absurd (omega arith)
member-places (suc n) k i l h = pick (ℕ_discrete i k) (λ later. member-places n (suc k) i later (omega arith))
  where
    pick : Dec (i ≡ k) → (suc k ≤ i → Memᴰ i (places n (suc k))) → Memᴰ i (k ∷ places n (suc k))
    pick (yes e) f = Memᴰ.head e
    pick (no e) f = Memᴰ.tail (f (omega arith))
