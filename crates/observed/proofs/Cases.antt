-- Computed examples: net steps on both sides of 32 bits, and the largest that 131 cells add up to; bytes in hex.
-- Assumes nothing.
use Rattle.std.proofs.Common.{◌≡◌, [], ◌∷◌, map, pos, negsuc, refl}
use Rattle.laws.specs.Tests.{choose}
use Rattle.laws.specs.Text.{bytes}
use Rattle.decimal.specs.Printing.{digits, width_from}
use Rattle.observed.specs.Nets.{sign_text, wide_text, net_text}
use Rattle.observed.specs.Shown.{digit, pair_text, hex_text}

net-cases :
    map net_text
    (pos 0 ∷ negsuc 0 ∷ pos 999999999 ∷ pos 1000000000 ∷ pos 4294967295 ∷ pos 4294967296 ∷ negsuc 4294967295 ∷ pos 4395630068 ∷ negsuc 4395630067
    ∷ [])
    ≡ map bytes
    ("+0" ∷ "-1" ∷ "+999999999" ∷ "+1000000000" ∷ "+4294967295" ∷ "+4294967296" ∷ "-4294967296" ∷ "+4395630068" ∷ "-4395630068" ∷ [])
unfolding bytes net_text sign_text wide_text digits width_from choose
net-cases = refl

-- the least and the greatest i64, and zeros within
wide-cases :
    map net_text (negsuc 9223372036854775807 ∷ pos 9223372036854775807 ∷ pos 1000000000000000000 ∷ pos 1000000000000000007 ∷ [])
    ≡ map bytes ("-9223372036854775808" ∷ "+9223372036854775807" ∷ "+1000000000000000000" ∷ "+1000000000000000007" ∷ [])
unfolding bytes net_text sign_text wide_text digits width_from choose
wide-cases = refl

bytes-in-hex : hex_text (0 ∷ 9 ∷ 10 ∷ 15 ∷ 16 ∷ 144 ∷ 165 ∷ 175 ∷ 255 ∷ []) ≡ bytes "00090a0f1090a5afff"
unfolding bytes hex_text pair_text digit choose
bytes-in-hex = refl
