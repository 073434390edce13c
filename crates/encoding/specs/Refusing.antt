-- Which lists are refused whole, and by which number: the first word at which something is wrong decides, and there the least number.
-- Assumes nothing.
use Rattle.std.specs.Prelude.{ℕ, zero, suc, ◌-◌, List, [], ◌∷◌, eqb, ltb, length, Result, Ok, Err}
use Rattle.laws.specs.Tests.{choose}
use Rattle.encoding.specs.Words.{head_of, size_of, room_of}
use Rattle.encoding.specs.declared.Head.{Head}
use Rattle.encoding.specs.declared.Refusal.{Refusal}
use Rattle.encoding.specs.declared.Refusal.TheVariants.{Unsound, NoWord, CutShort, ShortBuffer}

unfoldable pub number_of : Refusal → ℕ
number_of Unsound = 2
number_of NoWord = 100
number_of CutShort = 101
number_of ShortBuffer = 102

-- what is wrong with the word at the front of a list, given room for so many bytes; else what is wrong with those that follow
unfoldable pub judged : ℕ → List ℕ → Head → Result (Unit {0}) Refusal → Result (Unit {0}) Refusal
judged space l h others =
    choose (eqb (size_of h) 0) (Err NoWord)
    (choose (ltb (length l) (size_of h)) (Err CutShort)
    (choose (ltb space (room_of h)) (Err ShortBuffer) others))

-- the words of a list of which the first so many bytes are passed over
unfoldable pub refusal_from : ℕ → ℕ → List ℕ → Result (Unit {0}) Refusal
refusal_from skip space [] = Ok tt
refusal_from (suc skip) space (b ∷ l) = refusal_from skip space l
refusal_from zero space (b ∷ l) =
    judged space (b ∷ l) (head_of (b ∷ l)) (refusal_from (size_of (head_of (b ∷ l)) - 1) (space - room_of (head_of (b ∷ l))) l)

unfoldable pub refusal_of : ℕ → List ℕ → Result (Unit {0}) Refusal
refusal_of space l = refusal_from 0 space l
