-- An instruction as the numbers of its QM answer, in their order, with DDD last and zeros up to six; and back.
-- Signed numbers are 32 bits in two's complement. Names, s and XX stand as their place in their list.
-- Assumes nothing.
use Rattle.std.specs.Prelude.{ℕ, ◌%◌, Bool, true, false, List, [], ◌∷◌, get_or, eqb}
use Rattle.laws.specs.Tests.{choose, both}
use Rattle.units.specs.Bits.{steps_of, bits_of}
use Rattle.units.specs.declared.CellAddress.{CellAddress}
use Rattle.frequency.specs.Places.{hertz_of, place_of}
use Rattle.instruction.specs.declared.Travel.{Travel}
use Rattle.instruction.specs.declared.Travel.TheVariants.{Forward, ForwardX4, Backward, BackwardX4}
use Rattle.instruction.specs.declared.Instruction.{Instruction}
use Rattle.instruction.specs.declared.Instruction.TheVariants.{Null, IndexedRamp, IndexedRampFine, FreeRamp, FreeRampFine}
use Rattle.instruction.specs.declared.Instruction.TheVariants.{Indexed, IndexedFine, Free, FreeFine, ZeroSearch, DelayedStop}
use Rattle.instruction.specs.declared.Instruction.TheVariants.{CamSetting, OutputSetting, CounterReset, OpeningLoop, ClosingLoop}
use Rattle.instruction.specs.declared.Instruction.TheVariants.{ConditionalJump, TimeDelay, Recovery, CurrentSetting}
use Rattle.instruction.specs.declared.Cell.{Cell}

-- V, S, s and XX as 0 or 1
abbrev pub bit_of : Bool → ℕ
bit_of true = 1
bit_of false = 0

abbrev pub is_one : ℕ → Bool
is_one v = eqb v 1

-- the direction and the multiplier of a 05
abbrev pub travel_backward : Travel → Bool
travel_backward Forward = false
travel_backward ForwardX4 = false
travel_backward Backward = true
travel_backward BackwardX4 = true

abbrev pub travel_x4 : Travel → Bool
travel_x4 Forward = false
travel_x4 ForwardX4 = true
travel_x4 Backward = false
travel_x4 BackwardX4 = true

unfoldable pub travel_of : Bool → Bool → Travel
travel_of s x = choose s (choose x BackwardX4 Backward) (choose x ForwardX4 Forward)

-- six numbers
abbrev pub six : ℕ → ℕ → ℕ → ℕ → ℕ → ℕ → List ℕ
six a b c d e f = a ∷ b ∷ c ∷ d ∷ e ∷ f ∷ []

unfoldable pub numbers_with : Instruction → ℕ → List ℕ
numbers_with (IndexedRamp f r x n) d = six f r (bits_of n) (bit_of x) d 0
numbers_with (IndexedRampFine f r x n) d = six f r (bits_of n) (bit_of x) d 0
numbers_with (FreeRamp f r s x) d = six f r (bit_of s) (bit_of x) d 0
numbers_with (FreeRampFine f r s x) d = six f r (bit_of s) (bit_of x) d 0
numbers_with (Indexed f x n) d = six f (bits_of n) (bit_of x) d 0 0
numbers_with (IndexedFine x f n) d = six (hertz_of f) (bits_of n) (bit_of x) d 0 0
numbers_with (Free f s x) d = six f (bit_of s) (bit_of x) d 0 0
numbers_with (FreeFine s x f) d = six (hertz_of f) (bit_of s) (bit_of x) d 0 0
numbers_with (ZeroSearch f r s l) d = six f r (bit_of s) l d 0
numbers_with (DelayedStop f r t n) d = six f r (bit_of (travel_backward t)) (bits_of n) (bit_of (travel_x4 t)) d
numbers_with (CamSetting v p) d = six (bit_of v) p.0 d 0 0 0
numbers_with (OutputSetting o v) d = six o.0 (bit_of v) d 0 0 0
numbers_with CounterReset d = six d 0 0 0 0 0
numbers_with (OpeningLoop n) d = six n d 0 0 0 0
numbers_with (ClosingLoop e) d = six e.0 d 0 0 0 0
numbers_with (ConditionalJump i v e) d = six i.0 (bit_of v) e.0 d 0 0
numbers_with (TimeDelay n) d = six n.0 d 0 0 0 0
numbers_with (CurrentSetting s) d = six (bit_of s) d 0 0 0 0
numbers_with Null d = six d 0 0 0 0 0
numbers_with Recovery d = six 0 0 0 0 0 0

abbrev pub numbers_of : Cell → List ℕ
numbers_of c = numbers_with c.instruction c.next.0

-- what 8 and 16 bits hold of a number; a number within 01's ranges is held whole
abbrev pub byte_of : ℕ → ℕ
byte_of v = v % 256

abbrev pub word_of : ℕ → ℕ
word_of v = v % 65536

abbrev pub address_of : ℕ → CellAddress
address_of v = record { 0 = byte_of v }

abbrev pub with_next : Instruction → ℕ → Cell
with_next i d = record { instruction = i; next = address_of d }

-- 01: "57 `V,±nnn` (32 bits signed, stored +0 for V=0)"
unfoldable pub cam_of : Bool → ℕ → Instruction
cam_of v p = choose v (CamSetting true (record { 0 = p })) (CamSetting false (record { 0 = 0 }))

-- 01: "FFFF 0001 to 4800 is stored as the greatest table value not above it": the place of that value
unfoldable pub cell_with : ℕ → ℕ → ℕ → ℕ → ℕ → ℕ → ℕ → Cell
cell_with code a b c d e f =
    choose (eqb code 1) (with_next (IndexedRamp (byte_of a) (byte_of b) (is_one d) (steps_of c)) e)
    (choose (eqb code 31) (with_next (IndexedRampFine (byte_of a) (byte_of b) (is_one d) (steps_of c)) e)
    (choose (eqb code 2) (with_next (FreeRamp (byte_of a) (byte_of b) (is_one c) (is_one d)) e)
    (choose (eqb code 32) (with_next (FreeRampFine (byte_of a) (byte_of b) (is_one c) (is_one d)) e)
    (choose (eqb code 11) (with_next (Indexed (byte_of a) (is_one c) (steps_of b)) d)
    (choose (eqb code 21) (with_next (IndexedFine (is_one c) (place_of a) (steps_of b)) d)
    (choose (eqb code 12) (with_next (Free (byte_of a) (is_one b) (is_one c)) d)
    (choose (eqb code 22) (with_next (FreeFine (is_one b) (is_one c) (place_of a)) d)
    (choose (eqb code 3) (with_next (ZeroSearch (byte_of a) (byte_of b) (is_one c) (byte_of d)) e)
    (choose (eqb code 5) (with_next (DelayedStop (byte_of a) (byte_of b) (travel_of (is_one c) (is_one e)) (steps_of d)) f)
    (choose (eqb code 57) (with_next (cam_of (is_one a) b) c)
    (choose (eqb code 58) (with_next (OutputSetting (record { 0 = byte_of a }) (is_one b)) c)
    (choose (eqb code 60) (with_next CounterReset a)
    (choose (eqb code 61) (with_next (OpeningLoop (word_of a)) b)
    (choose (eqb code 62) (with_next (ClosingLoop (address_of a)) b)
    (choose (eqb code 63) (with_next (ConditionalJump (record { 0 = byte_of a }) (is_one b) (address_of c)) d)
    (choose (eqb code 65) (with_next (TimeDelay (record { 0 = a })) b)
    (choose (eqb code 70) (with_next (CurrentSetting (is_one a)) b)
    (choose (eqb code 69) (with_next Recovery 0)
    (with_next Null a)))))))))))))))))))

-- the cell of a code and its six numbers
unfoldable pub cell_of : ℕ → List ℕ → Cell
cell_of code vs = cell_with code (get_or vs 0 0) (get_or vs 1 0) (get_or vs 2 0) (get_or vs 3 0) (get_or vs 4 0) (get_or vs 5 0)

-- two lists with the same numbers
unfoldable pub same_numbers : List ℕ → List ℕ → Bool
same_numbers [] [] = true
same_numbers [] (y ∷ ys) = false
same_numbers (x ∷ xs) [] = false
same_numbers (x ∷ xs) (y ∷ ys) = both (eqb x y) (same_numbers xs ys)
