-- One string of the input at a time: up to a 13, or to the end.
-- Assumes nothing.
use Prim.Native.Nat.{ℕ, suc, ◌+◌, ◌*◌, ◌≤◌, ◌<◌}
use native.Mathlib.Omega.{arith}
use native.Mathlib.Numerals.{add-one}
use mathlib.Core.Path.{◌≡◌, refl, sym, ap, ◌∙◌}
use mathlib.Core.Bool.{Bool, true, false}
use mathlib.Core.List.{List, [], ◌∷◌, ◌++◌, append_assoc, append-nil}
use lib.ListN.{length, take, drop, length-take, length-drop, length-append}
use lib.Seq.{drop-drop, take_all, take-append_seam}
use lib.Dec.{eqb, ltb}
use borrow.Author.Tests.{ltb-true, ltb-false}
use Rattle.std.specs.Prelude.{Option, Some, None, is_some, unwrap_or}
use Rattle.laws.specs.Tests.{choose}
use Rattle.laws.proofs.Tests.{choose-true, choose-false}
use Rattle.machine.specs.declared.Machine.{Machine}
use Rattle.scan.specs.Bytes.{index_of, index_after}
use Rattle.lines.specs.Strings.{given, before, ends, string_after, taken_of, Takes}
use Rattle.lines.specs.declared.strings.Taken.{Taken}
use Rattle.console.specs.Console.{answer_to, after_string, Standing, standing, byte_taken, console}

-- the console with further bytes held
abbrev holding : Standing → List ℕ → Standing
holding c s = standing c.machine (c.held ++ s) c.written

-- the console once its string is given and answered
abbrev answering : Standing → Standing
answering c =
    standing (after_string (given c.held) c.machine) [] (c.written ++ answer_to (given c.held) c.machine)

holding-none : (c : Standing) → holding c [] ≡ c
holding-none c = ap (λ (h : List ℕ). standing c.machine h c.written) (append-nil c.held)

holding-more : (c : Standing) (b : ℕ) (s : List ℕ) → holding (holding c (b ∷ [])) s ≡ holding c (b ∷ s)
holding-more c b s = ap (λ (h : List ℕ). standing c.machine h c.written) (append_assoc c.held (b ∷ []) s)

index-here : (x : ℕ) (b : List ℕ) → eqb x 13 ≡ true → index_of 13 (x ∷ b) ≡ 0
unfolding index_of index_after
index-here x b e = ap (λ (t : Bool). index_after t (index_of 13 b)) e

index-later : (x : ℕ) (b : List ℕ) → eqb x 13 ≡ false → index_of 13 (x ∷ b) ≡ suc (index_of 13 b)
unfolding index_of index_after
index-later x b e = ap (λ (t : Bool). index_after t (index_of 13 b)) e

console-here : (x : ℕ) (b : List ℕ) (c : Standing) → eqb x 13 ≡ true → console (x ∷ b) c ≡ console b (answering c)
unfolding console byte_taken
console-here x b c e = ap (λ (t : Bool). console b (byte_taken t x c)) e

console-later : (x : ℕ) (b : List ℕ) (c : Standing) → eqb x 13 ≡ false → console (x ∷ b) c ≡ console b (holding c (x ∷ []))
unfolding console byte_taken
console-later x b c e = ap (λ (t : Bool). console b (byte_taken t x c)) e

-- without a 13 every byte is held
abbrev HoldsAll : List ℕ → Type 0
HoldsAll b = (c : Standing) → length b ≤ index_of 13 b → console b c ≡ holding c b

all-by : (x : ℕ) (b : List ℕ) (t : Bool) → eqb x 13 ≡ t → HoldsAll b → HoldsAll (x ∷ b)
all-by x b true e f c h = absurd (omega (arith, index-here x b e))
all-by x b false e f c h =
    console-later x b c e ∙ f (holding c (x ∷ [])) (omega (arith, index-later x b e)) ∙ holding-more c x b

pub console-all : (b : List ℕ) → HoldsAll b
unfolding console
console-all [] c h = sym (holding-none c)
console-all (x ∷ b) c h = all-by x b (eqb x 13) refl (console-all b) c h

-- up to a 13 every byte is held, and then the string is answered
abbrev Ends : List ℕ → Type 0
Ends b =
    (c : Standing) → index_of 13 b < length b →
    console b c ≡ console (drop (suc (index_of 13 b)) b) (answering (holding c (take (index_of 13 b) b)))

ended_by : (x : ℕ) (b : List ℕ) (t : Bool) → eqb x 13 ≡ t → Ends b → Ends (x ∷ b)
ended_by x b true e f c h = rw (index-here x b e) (console-here x b c e ∙ ap (λ (d : Standing). console b (answering d)) (sym (holding-none c)))
ended_by x b false e f c h =
    let i = index_of 13 b in
    rw (index-later x b e)
    (console-later x b c e
    ∙ f (holding c (x ∷ [])) (omega (arith, index-later x b e))
    ∙ ap (λ (d : Standing). console (drop (suc i) b) (answering d)) (holding-more c x (take i b)))

pub console-ended : (b : List ℕ) → Ends b
console-ended [] c h = absurd (omega arith)
console-ended (x ∷ b) c h = ended_by x b (eqb x 13) refl (console-ended b) c h

-- ---- a string taken from a part

-- the string stands at the front of its buffer
taken-front :
    (part : List ℕ) (at : ℕ) (l : List ℕ) (n : ℕ) (l' : List ℕ) (r : Taken) → Takes part at l n l' r →
    take r.length l' ≡ string_after (take n l) (drop at part)
unfolding taken_of
taken-front part at l n l' r t =
    let s = string_after (take n l) (drop at part) in
    ap (λ (x : Taken). take x.length l') t.taken ∙ ap (λ (x : List ℕ). take (length s) x) t.now ∙ take-append_seam s (drop (length s) l)

-- whether and where the string ends, by where to go on
some-so : (t : Bool) (x k : ℕ) → choose t (Some x) None ≡ Some k → (t ≡ true) × (k ≡ x)
unfolding choose
some-so true x k e = (refl, cc)
some-so false x k e = cc

none-so : (t : Bool) (x : ℕ) → choose t (Some x) None ≡ None → t ≡ false
unfolding choose
none-so true x e = cc
none-so false x e = refl

next-so :
    (part : List ℕ) (at : ℕ) (l : List ℕ) (n : ℕ) (l' : List ℕ) (r : Taken) (k : ℕ) → Takes part at l n l' r → r.next ≡ Some k →
    (ends (drop at part) ≡ true) × (k ≡ at + index_of 13 (drop at part) + 1)
unfolding taken_of
next-so part at l n l' r k h e = some-so (ends (drop at part)) _ k (sym (ap (λ (x : Taken). x.next) h.taken) ∙ e)

goes-so :
    (part : List ℕ) (at : ℕ) (l : List ℕ) (n : ℕ) (l' : List ℕ) (r : Taken) → Takes part at l n l' r → r.next ≡ None →
    ends (drop at part) ≡ false
unfolding taken_of
goes-so part at l n l' r h e = none-so (ends (drop at part)) _ (sym (ap (λ (x : Taken). x.next) h.taken) ∙ e)

-- after a string that ends in the part: where to go on, and what the console is there
pub record Turn (part : List ℕ) (at : ℕ) (m : Machine) (l : List ℕ) (n : ℕ) (w l' : List ℕ) (r : Taken) (k : ℕ) : Type 0 where
  pub later : at < k
  pub within : k ≤ length part
  pub same :
      console (drop at part) (standing m (take n l) w) ≡
      console (drop k part) (standing (after_string (take r.length l') m) [] (w ++ answer_to (take r.length l') m))

pub turn-ended :
    (part : List ℕ) (at : ℕ) (m : Machine) (l : List ℕ) (n : ℕ) (w l' : List ℕ) (r : Taken) (k : ℕ) → Takes part at l n l' r → r.next ≡ Some k →
    Turn part at m l n w l' r k
unfolding ends string_after before
turn-ended part at m l n w l' r k h e = record { later = omega (arith, next); within = within; same = same }
  where
    b : List ℕ
    b = drop at part

    next : k ≡ at + index_of 13 b + 1
    next = (next-so part at l n l' r k h e).1

    stops : ends b ≡ true
    stops = (next-so part at l n l' r k h e).0

    inside : index_of 13 b < length b
    inside = ltb-true (index_of 13 b) (length b) stops

    within : k ≤ length part
    within = omega (arith, next, inside, length-drop at part)

    whole : take r.length l' ≡ given (take n l ++ before b)
    whole = taken-front part at l n l' r h ∙ choose-true (ends b) _ _ stops

    place : drop (suc (index_of 13 b)) b ≡ drop k part
    place =
        let sum : at + suc (index_of 13 b) ≡ k = omega (arith, next) in
        drop-drop (suc (index_of 13 b)) at part ∙ ap (λ (j : ℕ). drop j part) sum

    same :
        console b (standing m (take n l) w) ≡
        console (drop k part) (standing (after_string (take r.length l') m) [] (w ++ answer_to (take r.length l') m))
    same =
        console-ended b (standing m (take n l) w) inside
        ∙ ap (λ (x : List ℕ). console x (answering (standing m (take n l ++ before b) w))) place
        ∙ ap (λ (x : List ℕ). console (drop k part) (standing (after_string x m) [] (w ++ answer_to x m))) (sym whole)

-- a string that the part does not end: the console there, and the bytes that are kept
pub record Rest (part : List ℕ) (at : ℕ) (m : Machine) (l : List ℕ) (n : ℕ) (w l' : List ℕ) (r : Taken) : Type 0 where
  pub same : console (drop at part) (standing m (take n l) w) ≡ standing m (take n l ++ drop at part) w
  pub held : take r.length l' ≡ take 64 (take n l ++ drop at part)
  pub within : r.length ≤ 64

-- where the next string begins, if there is a place for it, and that there is none
pub next-some : (x : Option ℕ) (d : ℕ) → is_some x ≡ true → x ≡ Some (unwrap_or x d)
next-some (Some n) d t = refl
next-some None d t = cc

pub next-none : (x : Option ℕ) → is_some x ≡ false → x ≡ None
next-none (Some n) t = cc
next-none None t = refl

pub turn-all :
    (part : List ℕ) (at : ℕ) (m : Machine) (l : List ℕ) (n : ℕ) (w l' : List ℕ) (r : Taken) → Takes part at l n l' r → r.next ≡ None →
    Rest part at m l n w l' r
unfolding ends string_after before taken_of
turn-all part at m l n w l' r h e = record { same = console-all b (standing m (take n l) w) past; held = held; within = within }
  where
    b : List ℕ
    b = drop at part

    goes : ends b ≡ false
    goes = goes-so part at l n l' r h e

    past : length b ≤ index_of 13 b
    past = ltb-false (index_of 13 b) (length b) goes

    all : string_after (take n l) b ≡ take 64 (take n l ++ b)
    all = choose-false (ends b) _ _ goes ∙ ap (λ (x : List ℕ). take 64 (take n l ++ x)) (take_all (index_of 13 b) b past)

    held : take r.length l' ≡ take 64 (take n l ++ b)
    held = taken-front part at l n l' r h ∙ all

    within : r.length ≤ 64
    within = rw (ap (λ (x : Taken). x.length) h.taken, all, length-take 64 (take n l ++ b)) (omega arith)
