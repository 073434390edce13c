-- `names::place_of` meets its contract: the list of names is in two parts.
-- Assumes nothing.
use Rattle.std.proofs.Common.{◌≡◌, ◌+◌, ◌<◌, ◌≤◌, length, sym, ap, ◌∙◌, arith}
use Rattle.laws.specs.Text.{bytes}
use Rattle.script.specs.Words.{place_of}
use Rattle.script.specs.Writes.{field_names}
use Rattle.script.proofs.Naming.{earlier, later, names-split, names_count, place-first, place-later, place-within}
use Rattle.script.proofs.names.place_of.Goals as goal

pub returns-then-k-lt9 : goal.returns-then-k-lt9
unfolding bytes
returns-then-k-lt9 c =
    let a = c.args in
    let place = c.place-k in
    let name = a.name.now in
    let inside : place_of name earlier < length earlier = omega (arith, names_count, place.ensures) in
    place.ensures ∙ sym (ap (place_of name) names-split ∙ place-first name earlier later inside)

pub returns-then-k-lt10 : goal.returns-then-k-lt10
unfolding bytes
returns-then-k-lt10 c =
    let a = c.args in
    let place = c.place-k in
    let place2 = c.place-k-2 in
    let name = a.name.now in
    let outside : length earlier ≤ place_of name earlier = omega (arith, names_count, place.ensures) in
    let whole : place_of name field_names ≡ length earlier + place_of name later =
    ap (place_of name) names-split ∙ place-later name earlier later outside in
    omega (arith, names_count, place2.ensures)

pub returns : goal.returns
unfolding bytes
returns c =
    let a = c.args in
    let place = c.place-k in
    let place2 = c.place-k-2 in
    let name = a.name.now in
    let outside : length earlier ≤ place_of name earlier = omega (arith, names_count, place.ensures) in
    let whole : place_of name field_names ≡ length earlier + place_of name later =
    ap (place_of name) names-split ∙ place-later name earlier later outside in
    omega (arith, names_count, place2.ensures, place-within name later)
