-- Each way through `place_in`.
-- Assumes nothing.
use Prim.Native.Nat.{ℕ}
use native.Mathlib.Omega.{arith}
use mathlib.Core.Path.{◌≡◌, refl, sym, ap, ◌∙◌}
use mathlib.Core.Bool.{true, false}
use mathlib.Core.List.{List, [], ◌∷◌}
use lib.ListN.{length}
use Rattle.laws.specs.Tests.{choose}
use Rattle.std.specs.declared.option.Option.{Option}
use Rattle.std.specs.declared.option.Option.TheVariants.{Some, None}
use Rattle.fields.specs.Reader.{field_at}
use Rattle.fields.specs.Rows.{fields_from, parse_fields}
use Rattle.fields.specs.declared.rows.Parsed.{Parsed}
use Rattle.machine.specs.Commands.{address_of}
use Rattle.machine.specs.Strings.{body_of}
use Rattle.reachability.specs.Graph.{place_of}
use Rattle.usage.specs.Updating.{place_by, place_in}

pub named-nothing : (b : List ℕ) → length b ≡ 0 → 131 ≡ place_in b
unfolding place_in place_by body_of parse_fields fields_from field_at choose
named-nothing [] e = refl
named-nothing (x ∷ b) e = absurd (omega (arith, e))

pub named-wrong : {q : Option Parsed} → None ≡ q → 131 ≡ place_by q
unfolding place_by
named-wrong e = ap place_by e

pub named-right : {p : Parsed} {q : Option Parsed} {k : ℕ} → Some p ≡ q → k ≡ place_of (address_of p.values) → k ≡ place_by q
unfolding place_by
named-right e h = h ∙ ap place_by e
