-- The lists of names that 01 gives with its fields and presets. A name's value is its place in its list, from 0.
-- Assumes nothing.
use Rattle.std.specs.Prelude.{ℕ, suc, ◌+◌, ◌*◌, List, [], ◌∷◌, get_or, eqb, Option, Some, None}
use Prim.Native.String.{String}
use Rattle.laws.specs.Tests.{choose}
use Rattle.laws.specs.Text.{bytes}
use Rattle.fields.specs.declared.names.Names.{Names}
use Rattle.fields.specs.declared.names.Names.TheVariants.{Settable, Outputs, Conditions, Inputs, Presets, Resolutions}

-- a name of two letters as one number
unfoldable pub pair_of : List ℕ → ℕ
pair_of s = get_or s 0 0 * 256 + get_or s 1 0

unfoldable pub listed : List String → List ℕ
listed [] = []
listed (s ∷ ss) = pair_of (bytes s) ∷ listed ss

unfoldable pub list_of : Names → List ℕ
-- 01, of 58: "O0 to O3, FC, F0 to F7"
list_of Settable = listed ("O0" ∷ "O1" ∷ "O2" ∷ "O3" ∷ "FC" ∷ "F0" ∷ "F1" ∷ "F2" ∷ "F3" ∷ "F4" ∷ "F5" ∷ "F6" ∷ "F7" ∷ [])
-- 01, of QO: those, CU, "also BS 0 and FA 1"
list_of Outputs =
    listed ("O0" ∷ "O1" ∷ "O2" ∷ "O3" ∷ "FC" ∷ "F0" ∷ "F1" ∷ "F2" ∷ "F3" ∷ "F4" ∷ "F5" ∷ "F6" ∷ "F7" ∷ "CU" ∷ "BS" ∷ "FA" ∷ [])
-- 01, of 63: "I0 to I2, PX, S0 to S3, F0 to F7"
list_of Conditions =
    listed ("I0" ∷ "I1" ∷ "I2" ∷ "PX" ∷ "S0" ∷ "S1" ∷ "S2" ∷ "S3" ∷ "F0" ∷ "F1" ∷ "F2" ∷ "F3" ∷ "F4" ∷ "F5" ∷ "F6" ∷ "F7" ∷ [])
-- 01: "inputs I0, I1, I2, PX, S0 to S3, ST, ES, EE (bits 0 to 10)"
list_of Inputs = listed ("I0" ∷ "I1" ∷ "I2" ∷ "PX" ∷ "S0" ∷ "S1" ∷ "S2" ∷ "S3" ∷ "ST" ∷ "ES" ∷ "EE" ∷ [])
-- 01: "Presets: AD address; IN 0 to 3 ..; RS ..; ES ..; CM .."
list_of Presets = listed ("AD" ∷ "IN" ∷ "RS" ∷ "ES" ∷ "CM" ∷ [])
-- 01: "RS one of D0 to D3, B0 to B3"
list_of Resolutions = listed ("D0" ∷ "D1" ∷ "D2" ∷ "D3" ∷ "B0" ∷ "B1" ∷ "B2" ∷ "B3" ∷ [])

-- the place of a name in a list, counted from v
unfoldable pub place_from : List ℕ → ℕ → ℕ → Option ℕ
place_from [] v x = None
place_from (n ∷ ns) v x = choose (eqb x n) (Some v) (place_from ns (suc v) x)
