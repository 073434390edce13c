-- Worked images, from the sentences of 02, Slips 1 and 6: what the image of a drive is, what a buffer holds after it, and which bytes are read.
-- Assumes nothing.
use Rattle.std.specs.Prelude.{ℕ, ◌-◌, ◌≡◌, Bool, false, List, [], ◌∷◌, ◌++◌, eqb, length, replicate, Result, Ok, Err}
use Prim.Native.String.{String}
use Rattle.laws.specs.Tests.{choose, both}
use Rattle.instruction.specs.Numbers.{same_numbers}
use Rattle.machine.specs.Record.{fresh}
use Rattle.machine.specs.Calls.{Call, after}
use Rattle.machine.specs.Operations.{Made}
use Rattle.machine.specs.Operations.Made.{NotMade, Drive}
use Rattle.machine.specs.Cases.{send, replies, bench}
use Rattle.machine.specs.Images.{image_of, written_into, buffer_written, loaded_of, loaded_before}
use Rattle.machine.specs.declared.Machine.{Machine}

pub data ImageCase : Type 0 where
  -- the image of a drive is these bytes, and Null cells up to a length
  Holds : String → Machine → List ℕ → ℕ → ImageCase
  -- into a buffer of so many bytes 170 the image is written: the number of the refusal or 0, and how many bytes at the end are still 170
  Leaves : String → Machine → ℕ → ℕ → ℕ → ImageCase
  -- the bytes are no image
  Refuses : String → List ℕ → ImageCase
  -- the bytes are an image, and the drive answers a string so
  Gives : String → List ℕ → String → String → ImageCase
  -- both, of an older gateway
  RefusesBefore : String → List ℕ → ImageCase
  GivesBefore : String → List ℕ → String → String → ImageCase

-- bytes, and zeros up to a length
unfoldable pub padded : List ℕ → ℕ → List ℕ
padded front n = front ++ replicate (n - length front) 0

unfoldable pub refusal_of : Result ℕ ℕ → ℕ
refusal_of (Err k) = k
refusal_of (Ok n) = 0

unfoldable pub length_of : Result ℕ ℕ → ℕ
length_of (Err k) = 0
length_of (Ok n) = n

unfoldable pub is_refused : Made → Bool
is_refused (NotMade k) = eqb k 10
is_refused (Drive m) = false

unfoldable pub answers_so : Made → String → String → Bool
answers_so (NotMade k) s a = false
answers_so (Drive m) s a = replies s a m

-- the buffer after the image: n bytes, of which the last `kept` are as they were and those before them the image
unfoldable pub leaves : Machine → ℕ → ℕ → ℕ → Bool
leaves m n refusal kept =
    both (eqb (refusal_of (written_into (replicate n 170) m)) refusal)
    (both (eqb (length_of (written_into (replicate n 170) m)) (n - kept))
    (same_numbers (buffer_written (replicate n 170) m) (choose (eqb refusal 0) (image_of m) [] ++ replicate kept 170)))

unfoldable pub image_holds : ImageCase → Bool
image_holds (Holds s m front n) = same_numbers (image_of m) (padded front n)
image_holds (Leaves s m n refusal kept) = leaves m n refusal kept
image_holds (Refuses s b) = is_refused (loaded_of b)
image_holds (Gives s b q a) = answers_so (loaded_of b) q a
image_holds (RefusesBefore s b) = is_refused (loaded_before b)
image_holds (GivesBefore s b q a) = answers_so (loaded_before b) q a

-- a fresh drive at 00 after strings
abbrev pub told : List Call → Machine
told cs = after cs bench

unfoldable pub named : ImageCase → String
named (Holds s m front n) = s
named (Leaves s m n refusal kept) = s
named (Refuses s b) = s
named (Gives s b q a) = s
named (RefusesBefore s b) = s
named (GivesBefore s b q a) = s

-- the sentences whose cases do not hold
unfoldable pub unheld : List ImageCase → List String
unheld [] = []
unheld (c ∷ cs) = choose (image_holds c) (unheld cs) (named c ∷ unheld cs)

-- the presets of a fresh drive at 00, before cells
abbrev pub before : List ℕ → List ℕ
before cells = 0 ∷ 1 ∷ 2 ∷ 0 ∷ 0 ∷ cells

-- ---- written

unfoldable pub of_writing : List ImageCase
of_writing =
    Holds "the five presets and cells 100 to 227" bench (before []) 261 ∷
    Holds "First come the presets in 01's order"
    (told (send "00WS,IN,3" ∷ send "00WS,RS,B3" ∷ send "00WS,ES,1" ∷ send "00WS,CM,1" ∷ send "00WS,AD,47" ∷ [])) (47 ∷ 3 ∷ 7 ∷ 1 ∷ 1 ∷ []) 261 ∷
    Holds "code, parameters and DDD in the order of its QM answer" (told (send "00WN,100,11,05,-1,x4,000" ∷ []))
    (before (11 ∷ 5 ∷ 1 ∷ 1 ∷ 0 ∷ [])) 264 ∷
    Holds "each number in groups of seven bits, lowest first" (told (send "00WN,100,21,2181,+300,x1,230" ∷ []))
    (before (21 ∷ 133 ∷ 17 ∷ 216 ∷ 4 ∷ 0 ∷ 230 ∷ 1 ∷ [])) 267 ∷
    Holds "signed n as 2n or -2n-1" (told (send "00WN,100,57,1,-2147483648,000" ∷ []))
    (before (57 ∷ 1 ∷ 255 ∷ 255 ∷ 255 ∷ 255 ∷ 15 ∷ 0 ∷ [])) 267 ∷
    Holds "their place in the list that 01 gives with their field (58)" (told (send "00WN,100,58,FC,1,000" ∷ []))
    (before (58 ∷ 4 ∷ 1 ∷ 0 ∷ [])) 263 ∷
    Holds "their place in the list that 01 gives with their field (63)" (told (send "00WN,100,63,F7,0,100,000" ∷ []))
    (before (63 ∷ 15 ∷ 0 ∷ 100 ∷ 0 ∷ [])) 264 ∷
    Holds "s" (told (send "00WN,100,05,03,10,-,8388607,x4,000" ∷ []))
    (before (5 ∷ 3 ∷ 10 ∷ 1 ∷ 255 ∷ 255 ∷ 255 ∷ 3 ∷ 1 ∷ 0 ∷ [])) 269 ∷
    Holds "Code 69 has no DDD" (told (send "00WN,100,69" ∷ [])) (before (69 ∷ [])) 260 ∷
    Holds "cells 100 to 227" (told (send "00WN,227,69" ∷ [])) (padded (before []) 259 ++ (69 ∷ [])) 260 ∷
    Holds "Cells 228 to 230 aren't kept" (told (send "00WN,228,69" ∷ [])) (before []) 261 ∷
    Holds "the writer serves a busy drive" (told (send "00PS,100" ∷ [])) (before []) 261 ∷
    []

unfoldable pub of_buffers : List ImageCase
of_buffers =
    Leaves "tells the image's length" bench 261 0 0 ∷
    Leaves "leaves later bytes as they are" bench 270 0 9 ∷
    Leaves "9, image buffer too short for the image" bench 260 9 260 ∷
    Leaves "after 2" (fresh (record { 0 = 48 })) 3 2 3 ∷
    []

-- ---- read

unfoldable pub of_reading : List ImageCase
of_reading =
    Gives "Reading gives a fresh drive so filled (a cell)" (padded (before (11 ∷ 5 ∷ 1 ∷ 1 ∷ 0 ∷ [])) 264) "00QM,100" "00QM,100,11,05,-1,x4,000" ∷
    Gives "Reading gives a fresh drive so filled (a preset)" (padded (38 ∷ 1 ∷ 6 ∷ 0 ∷ 0 ∷ []) 261) "38QS,RS" "38QS,RS,B2" ∷
    Gives "Reading gives a fresh drive so filled (cell 227)" (padded (before []) 259 ++ (69 ∷ [])) "00QM,227" "00QM,227,69" ∷
    Gives "are Null after reading" (padded (before []) 259 ++ (69 ∷ [])) "00QM,228" "00QM,228,00,000" ∷
    Refuses "bytes that the writer makes for no drive (none)" [] ∷
    Refuses "bytes that the writer makes for no drive (cut)" (padded (before []) 260) ∷
    Refuses "bytes that the writer makes for no drive (more)" (padded (before []) 262) ∷
    Refuses "shortest form only" (padded (128 ∷ 0 ∷ 1 ∷ 2 ∷ 0 ∷ 0 ∷ []) 262) ∷
    Refuses "AD 48" (padded (48 ∷ 1 ∷ 2 ∷ 0 ∷ 0 ∷ []) 261) ∷
    Refuses "IN 4" (padded (0 ∷ 4 ∷ 2 ∷ 0 ∷ 0 ∷ []) 261) ∷
    Refuses "RS beyond B3" (padded (0 ∷ 1 ∷ 8 ∷ 0 ∷ 0 ∷ []) 261) ∷
    Refuses "ES 2" (padded (0 ∷ 1 ∷ 2 ∷ 2 ∷ 0 ∷ []) 261) ∷
    Refuses "CM 2" (padded (0 ∷ 1 ∷ 2 ∷ 0 ∷ 2 ∷ []) 261) ∷
    Refuses "an unknown code" (padded (before (4 ∷ 0 ∷ [])) 261) ∷
    Refuses "DDD 99" (padded (before (0 ∷ 99 ∷ [])) 261) ∷
    Refuses "DDD 231" (padded (before (0 ∷ 231 ∷ 1 ∷ [])) 262) ∷
    Refuses "a frequency that is not in the table" (padded (before (21 ∷ 191 ∷ 2 ∷ 2 ∷ 0 ∷ 0 ∷ [])) 265) ∷
    Refuses "a 57 with V 0 and another number than 0" (padded (before (57 ∷ 0 ∷ 1 ∷ 0 ∷ [])) 263) ∷
    Refuses "2 to the 32" (padded (before (57 ∷ 1 ∷ 128 ∷ 128 ∷ 128 ∷ 128 ∷ 16 ∷ 0 ∷ [])) 267) ∷
    []

-- ---- 02, Slip 6

-- a fresh drive's image, but cell 100 is a 65 with these bytes of nnn, and DDD 000
abbrev pub delayed : List ℕ → List ℕ
delayed nnn = before ((65 ∷ nnn) ++ replicate 255 0)

unfoldable pub of_longer_waits : List ImageCase
of_longer_waits =
    Holds "small numbers keep their groups" (told (send "00WN,100,65,65535,000" ∷ [])) (before (65 ∷ 255 ∷ 255 ∷ 3 ∷ 0 ∷ [])) 264 ∷
    Holds "Code 65 takes 0 to 8,388,607 milliseconds" (told (send "00WN,100,65,8388607,000" ∷ [])) (before (65 ∷ 255 ∷ 255 ∷ 255 ∷ 3 ∷ 0 ∷ [])) 265 ∷
    Gives "Older images are read as before" (delayed (255 ∷ 255 ∷ 3 ∷ [])) "00QM,100" "00QM,100,65,65535,000" ∷
    GivesBefore "Older images are read as before (by an older gateway)" (delayed (255 ∷ 255 ∷ 3 ∷ [])) "00QM,100" "00QM,100,65,65535,000" ∷
    Gives "an image with a longer wait (65,536)" (delayed (128 ∷ 128 ∷ 4 ∷ [])) "00QM,100" "00QM,100,65,65536,000" ∷
    Gives "an image with a longer wait (8,388,607)" (delayed (255 ∷ 255 ∷ 255 ∷ 3 ∷ [])) "00QM,100" "00QM,100,65,8388607,000" ∷
    RefusesBefore "An older gateway refuses an image with a longer wait by 10 (65,536)" (delayed (128 ∷ 128 ∷ 4 ∷ [])) ∷
    RefusesBefore "An older gateway refuses an image with a longer wait by 10 (8,388,607)" (delayed (255 ∷ 255 ∷ 255 ∷ 3 ∷ [])) ∷
    Refuses "Code 65 takes 0 to 8,388,607 milliseconds (one more)" (delayed (128 ∷ 128 ∷ 128 ∷ 4 ∷ [])) ∷
    Refuses "loop counts stay at 65,535" (before ((61 ∷ 128 ∷ 128 ∷ 4 ∷ []) ++ replicate 255 0)) ∷
    []

pub record ImageCases : Type 0 where
  pub writing : unheld of_writing ≡ []
  pub buffers : unheld of_buffers ≡ []
  pub reading : unheld of_reading ≡ []
  pub longer_waits : unheld of_longer_waits ≡ []
