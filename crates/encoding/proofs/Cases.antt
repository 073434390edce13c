-- Worked cases: the word at the front of some lists, and which lists are refused, by which number.
-- Assumes nothing.
use Prim.Native.Nat.{ℕ}
use mathlib.Core.Path.{◌≡◌, refl}
use mathlib.Core.List.{List, [], ◌∷◌, map}
use Rattle.std.specs.Prelude.{Result, Ok, Err}
use Rattle.laws.specs.Tests.{choose}
use Rattle.encoding.specs.Numbers.{pair_at, number_at}
use Rattle.encoding.specs.Words.{head_with, head_of, size_of, room_of}
use Rattle.encoding.specs.Refusing.{number_of, judged, refusal_from, refusal_of}
use Rattle.encoding.specs.declared.Refusal.{Refusal}
use Rattle.encoding.specs.declared.Head.TheVariants.{NoWord, Text, Inputs, Millisecond, Step, AtSpeed, Halted, Wait, Order, Travel}

-- each of the nine words, the lower bytes first; then a letter that begins none, a small letter, no byte, and a wait of which only a byte is there
head-cases :
    map head_of
    ((83 ∷ 64 ∷ 2 ∷ 1 ∷ 81 ∷ []) ∷ (73 ∷ 1 ∷ 2 ∷ []) ∷ (77 ∷ []) ∷ (80 ∷ []) ∷ (65 ∷ []) ∷ (72 ∷ []) ∷ (87 ∷ 1 ∷ 2 ∷ 3 ∷ 4 ∷ []) ∷ (66 ∷ [])
    ∷ (71 ∷ 4 ∷ 3 ∷ 2 ∷ 1 ∷ []) ∷ (90 ∷ 83 ∷ []) ∷ (115 ∷ []) ∷ [] ∷ (87 ∷ 1 ∷ []) ∷ [])
    ≡ Text 64 258 ∷ Inputs 513 ∷ Millisecond ∷ Step ∷ AtSpeed ∷ Halted ∷ Wait 67305985 ∷ Order ∷ Travel 16909060 ∷ NoWord ∷ NoWord ∷ NoWord ∷ Wait 1 ∷ []
unfolding head_of head_with pair_at number_at choose
head-cases = refl

-- all nine words: a string of two bytes, inputs, M, P, A, H, a wait, B and a travel. 66 + 1 + 1 + 1 + 1 + 1 + 6 + 17 + 5 bytes can be seen of them.
abbrev nine : List ℕ
nine =
    83 ∷ 64 ∷ 2 ∷ 0 ∷ 81 ∷ 83 ∷ 73 ∷ 1 ∷ 2 ∷ 77 ∷ 80 ∷ 65 ∷ 72 ∷ 87 ∷ 3 ∷ 0 ∷ 0 ∷ 0 ∷ 66 ∷ 71 ∷ 5 ∷ 0 ∷ 0 ∷ 0 ∷ []

-- the number of a refusal, 0 where nothing is refused
unfoldable number : Result (Unit {0}) Refusal → ℕ
number (Ok u) = 0
number (Err r) = number_of r

abbrev refused : ℕ → List ℕ → ℕ
refused space l = number (refusal_of space l)

-- nothing; all nine words with room enough, and with a byte less; a string without text
taken-cases : refused 0 [] ∷ refused 99 nine ∷ refused 98 nine ∷ refused 66 (83 ∷ 0 ∷ 0 ∷ 0 ∷ []) ∷ [] ≡ 0 ∷ 0 ∷ 102 ∷ 0 ∷ []
unfolding number number_of refusal_of refusal_from judged head_of head_with size_of room_of pair_at number_at choose
taken-cases = refl

-- a letter that begins no word, after a good word; the same without room for the good word, and for itself
letter-cases : refused 9 (77 ∷ 90 ∷ []) ∷ refused 0 (77 ∷ 90 ∷ []) ∷ refused 1 (77 ∷ 90 ∷ []) ∷ [] ≡ 100 ∷ 102 ∷ 100 ∷ []
unfolding number number_of refusal_of refusal_from judged head_of head_with size_of room_of pair_at number_at choose
letter-cases = refl

-- a string cut in its text and in its length, a wait cut by one byte, inputs cut after a good word; a cut word without room
cut-cases :
    refused 99 (83 ∷ 64 ∷ 2 ∷ 0 ∷ 81 ∷ []) ∷ refused 99 (83 ∷ 64 ∷ 2 ∷ []) ∷ refused 99 (87 ∷ 3 ∷ 0 ∷ 0 ∷ []) ∷ refused 99 (77 ∷ 73 ∷ 1 ∷ [])
    ∷ refused 0 (87 ∷ 3 ∷ 0 ∷ 0 ∷ []) ∷ []
    ≡ 101 ∷ 101 ∷ 101 ∷ 101 ∷ 101 ∷ []
unfolding number number_of refusal_of refusal_from judged head_of head_with size_of room_of pair_at number_at choose
cut-cases = refl
