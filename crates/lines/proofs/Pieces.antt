-- Pieces gathered one after the other are gathered as one.
-- Assumes nothing.
use Prim.Native.Nat.{ℕ, ◌+◌, ◌-◌, ◌≤◌, ◌<◌}
use native.Mathlib.Omega.{arith}
use mathlib.Core.Path.{◌≡◌, refl, sym, ap, ◌∙◌}
use mathlib.Core.Logic.{⊎_elim}
use mathlib.Core.List.{List, ◌++◌, append_assoc}
use lib.ListN.{length, take, drop, length-take, length-drop, length-append}
use lib.Seq.{length-take-le, take_all, take-take, take_at, take-append-le, drop-append-add, drop-drop}
use Rattle.laws.proofs.Tests.{lt-or-le}
use Rattle.lines.specs.Gathering.{gathered, Gathered}

-- what is cut off counts no more, also when more comes
pub cut-append : (k : ℕ) (x y : List ℕ) → take k (take k x ++ y) ≡ take k (x ++ y)
cut-append k x y = ⊎_elim long short (lt-or-le k (length x))
  where
    long : k < length x → take k (take k x ++ y) ≡ take k (x ++ y)
    long i =
        let size : length (take k x) ≡ k = length-take-le k x (omega arith) in
        take-append-le k (take k x) y (omega (arith, size)) ∙ take-take k k x (omega arith) ∙ sym (take-append-le k x y (omega arith))

    short : length x ≤ k → take k (take k x ++ y) ≡ take k (x ++ y)
    short i = rw (take_all k x i)

gathered-within : (l : List ℕ) (n : ℕ) (p : List ℕ) → length (gathered l n p) ≤ length l
unfolding gathered
gathered-within l n p = rw (length-take (length l) (take n l ++ p)) (omega arith)

-- the line keeps its length, and has what was gathered at its front
pub gathered-length : {l : List ℕ} {n : ℕ} {p l' : List ℕ} {r : ℕ} → Gathered l n p l' r → length l' ≡ length l
gathered-length {l} {n} {p} g =
    ap length g.now ∙ length-append (gathered l n p) _ ∙ rw (length-drop (length (gathered l n p)) l) (omega (arith, gathered-within l n p))

pub gathered-front : {l : List ℕ} {n : ℕ} {p l' : List ℕ} {r : ℕ} → Gathered l n p l' r → take r l' ≡ gathered l n p
gathered-front {l} {n} {p} {l'} {r} g = ap (λ (x : List ℕ). take r x) g.now ∙ take_at (gathered l n p) _ r (sym g.next)

-- two pieces
pub gathered-then :
    {l : List ℕ} {n : ℕ} {p l' : List ℕ} {r : ℕ} {q l'' : List ℕ} {s : ℕ} → Gathered l n p l' r → Gathered l' r q l'' s → Gathered l n (p ++ q) l'' s
unfolding gathered
gathered-then {l} {n} {p} {l'} {r} {q} {l''} {s} g h = record { next = h.next ∙ ap length joined; now = now }
  where
    first : List ℕ
    first = gathered l n p

    second : List ℕ
    second = gathered l' r q

    joined : second ≡ gathered l n (p ++ q)
    joined =
        ap (λ (k : ℕ). take k (take r l' ++ q)) (gathered-length g)
        ∙ ap (λ (x : List ℕ). take (length l) (x ++ q)) (gathered-front g)
        ∙ cut-append (length l) (take n l ++ p) q
        ∙ ap (λ (x : List ℕ). take (length l) x) (append_assoc (take n l) p q)

    longer : length first ≤ length second
    longer =
        let size : length (take r l') ≡ length first = ap length (gathered-front g) in
        let cut : length second ≡ length (take (length l') (take r l' ++ q)) = refl in
        omega (arith, cut, length-take (length l') (take r l' ++ q), length-append (take r l') q, size, gathered-length g, gathered-within l n p)

    rest : drop (length second) l' ≡ drop (length second) l
    rest =
        let more : length first + (length second - length first) ≡ length second = omega (arith, longer) in
        ap (λ (k : ℕ). drop k l') (sym more)
        ∙ ap (λ (x : List ℕ). drop (length first + (length second - length first)) x) g.now
        ∙ drop-append-add first (drop (length first) l) (length second - length first)
        ∙ drop-drop (length second - length first) (length first) l
        ∙ ap (λ (k : ℕ). drop k l) more

    now : l'' ≡ gathered l n (p ++ q) ++ drop (length (gathered l n (p ++ q))) l
    now = h.now ∙ ap (λ (x : List ℕ). second ++ x) rest ∙ ap (λ (x : List ℕ). x ++ drop (length x) l) joined
