-- `header_in` meets its contract: two bytes as digits, two as a code.
-- Assumes nothing.
use Prim.Native.Nat.{ℕ, ◌+◌, ◌-◌, ◌*◌}
use mathlib.Core.Path.{◌≡◌, ap, ◌∙◌}
use mathlib.Core.Bool.{Bool, ◌&&◌}
use mathlib.Core.List.{List}
use lib.ListN.{get_or}
use lib.Seq.{get_or-drop}
use Rattle.laws.specs.Tests.{both}
use Rattle.laws.proofs.Joins.{and_both}
use Rattle.fields.specs.Names.{pair_of}
use Rattle.machine.specs.Commands.{code_in}
use Rattle.machine.specs.Strings.{is_digit, header_of}
use Rattle.machine.specs.declared.commands.Header.{Header}
use Rattle.serial.proofs.hearing.header_in.Goals as goal

abbrev header_with : Bool → ℕ → ℕ → Header
header_with digits n code = record { digits = digits; address = record { 0 = n }; code = code }

-- four bytes, what they are as digits, and whether they are
whole :
    (s : List ℕ) {a b c d u v : ℕ} {x y : Bool} → a ≡ get_or s 0 0 → b ≡ get_or s 1 0 → c ≡ get_or s 2 0 → d ≡ get_or s 3 0 →
    x ≡ is_digit a → y ≡ is_digit b → u ≡ a - 48 → v ≡ b - 48 → header_with (x && y) (u * 10 + v) (c * 256 + d) ≡ header_of s
unfolding header_of code_in pair_of
whole s {a} {b} {c} {d} {u} {v} {x} {y} ea eb ec ed ex ey eu ev =
    let digits : x && y ≡ both (is_digit (get_or s 0 0)) (is_digit (get_or s 1 0)) = and_both x y ∙ rw (ex, ea, ey, eb) in
    let number : u * 10 + v ≡ (get_or s 0 0 - 48) * 10 + (get_or s 1 0 - 48) = rw (eu, ea, ev, eb) in
    let code : c * 256 + d ≡ code_in s = rw (ec, ed) (simp get_or-drop) in
    ap (λ z. header_with z (u * 10 + v) (c * 256 + d)) digits
    ∙ ap (λ z. header_with (both (is_digit (get_or s 0 0)) (is_digit (get_or s 1 0))) z (c * 256 + d)) number
    ∙ ap (header_with (both (is_digit (get_or s 0 0)) (is_digit (get_or s 1 0))) ((get_or s 0 0 - 48) * 10 + (get_or s 1 0 - 48))) code

pub returns : goal.returns
returns c = whole _ c.byte_at-a.ensures c.byte_at-b.ensures (c.from.ensures ∙ c.byte_at-c.ensures) (c.from-2.ensures ∙ c.byte_at-d.ensures)
    c.is_digit.ensures c.is_digit-2.ensures c.digit_value.ensures.value c.digit_value-2.ensures.value
