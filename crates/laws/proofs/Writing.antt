-- Writes one after the other, and a write at the front.
-- Assumes nothing.
use Prim.Native.Nat.{ℕ, suc, ◌+◌, ◌≤◌}
use native.Mathlib.Nat.{zero-add}
use native.Mathlib.Omega.{arith}
use mathlib.Core.Path.{◌≡◌, refl, ap, sym, ◌∙◌}
use mathlib.Core.List.{List, [], ◌∷◌, ◌++◌}
use lib.ListN.{length, drop, set, length-append}
use lib.Seq.{sets, sets-eq}
use Rattle.laws.specs.Writing.{Put}

pub sets-append : (l a b : List ℕ) (i : ℕ) → sets l i (a ++ b) ≡ sets (sets l i a) (i + length a) b
sets-append l [] b i = ap (λ (k : ℕ). sets l k b) (omega arith)
sets-append l (x ∷ a) b i = sets-append (set l i x) a b (suc i) ∙ ap (λ (k : ℕ). sets (sets (set l i x) (suc i) a) k b) (omega arith)

pub sets-front : (l p : List ℕ) → length p ≤ length l → sets l 0 p ≡ p ++ drop (length p) l
sets-front l p h = sets-eq p l 0 (omega arith) ∙ ap (λ (k : ℕ). p ++ drop k l) (zero-add (length p))

-- nothing written
pub put-none : (l : List ℕ) (a : ℕ) → Put l l [] a a
put-none l a = record { next = omega arith; now = refl }

-- one byte
pub put_byte : (l : List ℕ) (b a : ℕ) → Put l (set l a b) (b ∷ []) a (a + 1)
put_byte l b a = record { next = omega arith; now = refl }

-- two writes, one after the other
pub put-append : {l l' l'' p q : List ℕ} {a b e : ℕ} → Put l l' p a b → Put l' l'' q b e → Put l l'' (p ++ q) a e
put-append {l} {l'} {l''} {p} {q} {a} {b} {e} x y = record {
  next = rw (length-append p q) (omega (arith, x.next, y.next));
  now = y.now ∙ ap (λ (k : ℕ). sets l' k q) x.next ∙ ap (λ (m : List ℕ). sets m (a + length p) q) x.now ∙ sym (sets-append l p q a);
}

-- the same write, of a piece given in another form
pub put_as : {l l' p q : List ℕ} {a e : ℕ} → p ≡ q → Put l l' p a e → Put l l' q a e
put_as {l} {l'} {p} {q} {a} {e} h x = record { next = rw (← h) x.next; now = rw (← h) x.now }

-- at the front: the piece, and the bytes after it as they were
pub put_front : {l l' p : List ℕ} {e : ℕ} → Put l l' p 0 e → length p ≤ length l → (e ≡ length p) × (l' ≡ p ++ drop (length p) l)
put_front {l} {l'} {p} x h = (omega (arith, x.next), x.now ∙ sets-front l p h)
