-- Bytes tell what they were made of: numbers below 2^32, the ends of waits, flags of one length.
-- Assumes nothing.
use Prim.Native.Nat.{ℕ, ◌<◌}
use native.Mathlib.Omega.{arith}
use mathlib.Core.Path.{◌≡◌, refl, sym, ap, ◌∙◌}
use mathlib.Core.Bool.{Bool, true, false}
use mathlib.Core.List.{List, [], ◌∷◌, ◌++◌}
use lib.ListN.{length}
use lib.Dec.{eqb}
use Rattle.laws.specs.Tests.{choose}
use Rattle.machine.specs.declared.answers.End.{End}
use Rattle.machine.specs.declared.answers.End.TheVariants.{Idle, Moving, Spent}
use Rattle.encoding.specs.Numbers.{number_at, number_bytes}
use Rattle.encoding.proofs.Places.{number_read}
use Rattle.seen.specs.Bytes.{bits_of, end_number}

pub number-told : (m n : ℕ) → m < 4294967296 → n < 4294967296 → number_bytes m ≡ number_bytes n → m ≡ n
number-told m n h k e = sym (number_read m [] h) ∙ ap (λ (b : List ℕ). number_at (b ++ []) 0) e ∙ number_read n [] k

-- the end of a number
abbrev end_of : ℕ → End
end_of n = choose (eqb n 1) Idle (choose (eqb n 2) Moving Spent)

end_read : (a : End) → end_of (end_number a) ≡ a
unfolding end_number choose
end_read Idle = refl
end_read Moving = refl
end_read Spent = refl

pub end-told : (a b : End) → end_number a ≡ end_number b → a ≡ b
end-told a b e = sym (end_read a) ∙ ap end_of e ∙ end_read b

pub bits-told : (a b : List Bool) → length a ≡ length b → bits_of a ≡ bits_of b → a ≡ b
unfolding bits_of choose
bits-told [] [] h e = refl
bits-told [] (y ∷ b) h e = absurd (omega (arith, h))
bits-told (x ∷ a) [] h e = absurd (omega (arith, h))
bits-told (true ∷ a) (false ∷ b) h e = absurd (omega (arith, e))
bits-told (false ∷ a) (true ∷ b) h e = absurd (omega (arith, e))
bits-told (true ∷ a) (true ∷ b) h e = ap (λ (l : List Bool). true ∷ l) (bits-told a b (omega (arith, h)) (omega (arith, e)))
bits-told (false ∷ a) (false ∷ b) h e = ap (λ (l : List Bool). false ∷ l) (bits-told a b (omega (arith, h)) (omega (arith, e)))
