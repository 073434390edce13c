-- The word at the front of a list of calls: which one it is, how many bytes it takes, and how many can be seen of it. docs/PROTOCOL.md has the table.
-- Assumes nothing.
use Rattle.std.specs.Prelude.{ℕ, ◌+◌, List, eqb, get_or}
use Rattle.laws.specs.Tests.{choose}
use Rattle.encoding.specs.Numbers.{pair_at, number_at}
use Rattle.encoding.specs.declared.Head.{Head}
use Rattle.encoding.specs.declared.Head.TheVariants.{NoWord, Text, Inputs, Millisecond, Step, AtSpeed, Halted, Wait, Order, Travel}

-- the letters S, I, M, P, A, H, W, B and G
unfoldable pub head_with : ℕ → List ℕ → Head
head_with b l =
    choose (eqb b 83) (Text (get_or l 1 0) (pair_at l 2))
    (choose (eqb b 73) (Inputs (pair_at l 1))
    (choose (eqb b 77) Millisecond
    (choose (eqb b 80) Step
    (choose (eqb b 65) AtSpeed
    (choose (eqb b 72) Halted
    (choose (eqb b 87) (Wait (number_at l 1))
    (choose (eqb b 66) Order
    (choose (eqb b 71) (Travel (number_at l 1)) NoWord))))))))

unfoldable pub head_of : List ℕ → Head
head_of l = head_with (get_or l 0 0) l

unfoldable pub size_of : Head → ℕ
size_of NoWord = 0
size_of (Text room length) = 4 + length
size_of (Inputs w) = 3
size_of Millisecond = 1
size_of Step = 1
size_of AtSpeed = 1
size_of Halted = 1
size_of (Wait n) = 5
size_of Order = 1
size_of (Travel n) = 5

-- a refusal's byte or what the word shows; a string's answer has at most 64 bytes
unfoldable pub room_of : Head → ℕ
room_of NoWord = 0
room_of (Text room length) = 66
room_of (Inputs w) = 1
room_of Millisecond = 1
room_of Step = 1
room_of AtSpeed = 1
room_of Halted = 1
room_of (Wait n) = 6
room_of Order = 17
room_of (Travel n) = 5
