-- Which strings are heard: an idle drive hears a string at its own address, and is silent at another's.
-- Assumes nothing.
use Prim.Native.Nat.{ℕ, ◌+◌, ◌-◌, ◌/◌, ◌%◌, ◌≤◌, ◌<◌}
use native.Mathlib.Nat.{mod-lt, div-add-mod'}
use native.Mathlib.Omega.{arith}
use mathlib.Core.Path.{◌≡◌, refl, ap, sym, ◌∙◌}
use mathlib.Core.Bool.{Bool, true, false}
use mathlib.Core.Logic.{◌≢◌}
use mathlib.Core.List.{List, [], ◌∷◌, ◌++◌}
use lib.ListN.{length, length-append}
use lib.Seq.{take_at, get_or_at}
use lib.Dec.{eqb}
use borrow.Author.Tests.{eq-eqb, ne_eqb, le-leb, le-ltb}
use Rattle.laws.specs.Tests.{both, either}
use Rattle.laws.proofs.Tests.{both_true, choose-true, choose-false}
use Rattle.decimal.specs.Printing.{digits}
use Rattle.machine.specs.Record.{idle}
use Rattle.machine.specs.Commands.{command_of}
use Rattle.machine.specs.Strings.{silent, carried_out, ended, body_of, is_digit, header_of, addressed, free, to_every, permitted, admitted, judged}
use Rattle.machine.specs.Strings.{allowed, unanswered, told_in, told_by, told}
use Rattle.machine.specs.declared.Machine.{Machine}
use Rattle.machine.specs.declared.commands.StringAddress.{StringAddress}
use Rattle.machine.specs.declared.commands.Command.{Command}

-- a string with its byte 13
abbrev pub string : List ℕ → List ℕ
string s = s ++ (13 ∷ [])

length-string : (s : List ℕ) → length (string s) - 1 ≡ length s
length-string s = omega (arith, length-append s (13 ∷ []))

pub body-string : (s : List ℕ) → body_of (string s) ≡ s
unfolding body_of
body-string s = take_at s (13 ∷ []) (length (string s) - 1) (sym (length-string s))

ended-string : (s : List ℕ) → ended (string s) ≡ true
unfolding ended
ended-string s =
    both_true (le-leb 1 (length (string s)) (omega (arith, length-append s (13 ∷ []))))
    (eq-eqb _ _ (get_or_at s 13 [] 0 (length (string s) - 1) (sym (length-string s))))

-- the two digits of an address
abbrev pub tens : ℕ → ℕ
tens aa = 48 + aa / 10

abbrev pub ones : ℕ → ℕ
ones aa = 48 + aa % 10

pub digits-two : (aa : ℕ) → digits 2 aa ≡ tens aa ∷ ones aa ∷ []
unfolding digits
digits-two aa = ap (λ (y : ℕ). tens aa ∷ (48 + y) ∷ []) (omega arith)

-- a text at an address
abbrev pub addressed_to : ℕ → List ℕ → List ℕ
addressed_to aa t = tens aa ∷ ones aa ∷ t

pub digits-front : (aa : ℕ) (t : List ℕ) → digits 2 aa ++ t ≡ addressed_to aa t
digits-front aa t = ap (λ (d : List ℕ). d ++ t) (digits-two aa)

pub address-front : (aa : ℕ) (t : List ℕ) → (header_of (addressed_to aa t)).address.0 ≡ aa
unfolding header_of
address-front aa t = omega (arith, div-add-mod' aa 10)

digits-front-are : (aa : ℕ) (t : List ℕ) → aa < 100 → (header_of (addressed_to aa t)).digits ≡ true
unfolding header_of is_digit
digits-front-are aa t h =
    let digit-rest : aa % 10 < 10 = mod-lt aa (omega arith) in
    both_true
    (both_true (le-leb 48 (tens aa) (omega arith)) (le-leb (tens aa) 57 (omega arith)))
    (both_true (le-leb 48 (ones aa) (omega arith)) (le-leb (ones aa) 57 (omega (arith, digit-rest))))

not-every : (aa : ℕ) (t : List ℕ) → aa ≤ 47 → to_every (header_of (addressed_to aa t)) ≡ false
unfolding to_every
not-every aa t h = rw (address-front aa t) (ne_eqb aa 99 (λ e. omega arith))

-- a drive's own address
abbrev pub own : Machine → ℕ
own m = m.state.presets.address.0

-- the same, as it stands in a string
abbrev pub own_address : Machine → StringAddress
own_address m = record { 0 = own m }

-- a string that ends in byte 13, by the command that it asks for
pub told-string :
    (k : Command) (s : List ℕ) (m : Machine) →
    told_by k (string s) m ≡ told_in (header_of s) k m
unfolding told_by
told-string k s m =
    choose-true _ _ _ (ended-string s) ∙ ap (λ (l : List ℕ). told_in (header_of l) k m) (body-string s)

own-admitted : (t : List ℕ) (m : Machine) → own m ≤ 47 → idle m.state ≡ true → admitted (header_of (addressed_to (own m) t)) m.state ≡ true
unfolding admitted addressed free permitted either
own-admitted t m h i =
    let aa = own m in
    both_true
    (both_true (digits-front-are aa t (omega arith)) (rw (address-front aa t, eq-eqb aa aa refl) refl))
    (both_true (rw i refl) (rw (not-every aa t h) refl))

judged-short : (t : List ℕ) (s : List ℕ) → length t ≤ 64 → judged t s ≡ command_of s
unfolding judged
judged-short t s h = choose-false _ _ _ (le-ltb 64 (length t) h)

-- a string at the address of an idle drive is carried out
pub told-own :
    (t : List ℕ) (m : Machine) → own m ≤ 47 → idle m.state ≡ true → length t ≤ 61 →
    told (string (addressed_to (own m) t)) m
    ≡ carried_out (allowed (command_of (addressed_to (own m) t)) m.state) (own_address m) m
unfolding told told_in unanswered
told-own t m h i l =
    let aa = own m in
    let s = addressed_to aa t in
    told-string _ s m ∙ choose-true _ _ _ (own-admitted t m h i)
    ∙ rw (not-every aa t h, body-string s, judged-short (string s) s (omega (arith, length-append s (13 ∷ []))))
    (ap (λ (n : ℕ). carried_out (allowed (command_of s) m.state) (record { 0 = n }) m) (address-front aa t))

neither : (a b : Bool) → a ≡ false → b ≡ false → either a b ≡ false
unfolding either
neither true b s t = s
neither false b s t = t

not-heard : (a b c : Bool) → b ≡ false → both (both a b) c ≡ false
unfolding both
not-heard true b c e = rw e refl
not-heard false b c e = refl

-- a string at another drive's address is not heard
pub told-other : (aa : ℕ) (t : List ℕ) (m : Machine) → aa ≤ 47 → aa ≢ own m → told (string (addressed_to aa t)) m ≡ silent m
unfolding told told_in admitted addressed to_every
told-other aa t m h n =
    let far = ap (λ (k : ℕ). eqb k (own m)) (address-front aa t) ∙ ne_eqb aa (own m) n in
    told-string _ (addressed_to aa t) m ∙ choose-false _ _ _ (not-heard _ _ _ (neither _ _ far (not-every aa t h)))
