-- The outputs as text: "14 bits: O0 to O3, F0 to F7, FC, CU". The record has them as O0 to O3, FC, F0 to F7, CU.
-- Assumes nothing.
use Rattle.std.specs.Prelude.{ℕ, Bool, List, [], ◌∷◌, ◌++◌, take, drop}
use Rattle.lines.specs.Gathering.{bit_text}

unfoldable pub bits_text : List Bool → List ℕ
bits_text [] = []
bits_text (b ∷ bs) = bit_text b ++ bits_text bs

unfoldable pub outputs_text : List Bool → List ℕ
outputs_text o = bits_text (take 4 o) ++ (bits_text (take 8 (drop 5 o)) ++ (bits_text (take 1 (drop 4 o)) ++ bits_text (take 1 (drop 13 o))))
