-- Joined and denied tests, as the code makes them; joined tests in another order; a join of which one test is known.
-- Assumes nothing.
use mathlib.Core.Path.{◌≡◌, refl, sym, ◌∙◌}
use mathlib.Core.Bool.{Bool, true, false, not, ◌&&◌, ◌||◌}
use borrow.Author.Tests.{not-true, not-false}
use Rattle.laws.specs.Tests.{both, either}

-- ---- as the code makes them

pub and_both : (a b : Bool) → a && b ≡ both a b
unfolding both
and_both true b = refl
and_both false b = refl

pub and-as : {a b c d : Bool} → a ≡ c → b ≡ d → a && b ≡ both c d
and-as p q = rw (p, q) (and_both _ _)

pub or-either : (a b : Bool) → a || b ≡ either a b
unfolding either
or-either true b = refl
or-either false b = refl

pub or_as : {a b c d : Bool} → a ≡ c → b ≡ d → a || b ≡ either c d
or_as p q = rw (p, q) (or-either _ _)

-- a test t, from the result r of a function that computes it, where the code asks `if !r`
pub fails : {r t : Bool} → r ≡ t → not r ≡ true → t ≡ false
fails {r} e h = sym e ∙ not-true r h

pub passes : {r t : Bool} → r ≡ t → not r ≡ false → t ≡ true
passes {r} e h = sym e ∙ not-false r h

-- ---- one test is known

pub both-start : (b : Bool) → both true b ≡ b
unfolding both
both-start b = refl

pub both_end : (a : Bool) → both a true ≡ a
unfolding both
both_end true = refl
both_end false = refl

-- a join with a test that is true is the other test
pub both-on : (a b : Bool) → a ≡ true → both a b ≡ b
both-on a b e = rw e (both-start b)

pub both-false-left : (a b : Bool) → a ≡ false → both a b ≡ false
unfolding both
both-false-left a b e = rw e

pub both-false-right : (a b : Bool) → b ≡ false → both a b ≡ false
unfolding both
both-false-right true b e = e
both-false-right false b e = refl

-- ---- in another order

pub both-assoc : (a b c : Bool) → both (both a b) c ≡ both a (both b c)
unfolding both
both-assoc true b c = refl
both-assoc false b c = refl

pub both-comm : (a b : Bool) → both a b ≡ both b a
unfolding both
both-comm true b = sym (both_end b)
both-comm false b = sym (both-false-right b false refl)

-- what is joined to a test need only agree where the test passes
pub both_under : (a : Bool) {b c : Bool} → (a ≡ true → b ≡ c) → both a b ≡ both a c
unfolding both
both_under true h = h refl
both_under false h = refl

-- the same, with the test behind
pub both-under-right : (a : Bool) {b c : Bool} → (a ≡ true → b ≡ c) → both b a ≡ both c a
both-under-right a {b} {c} h = both-comm b a ∙ both_under a h ∙ both-comm a c
