-- A part of a buffer that is lent, written at its front.
-- Assumes nothing.
use Prim.Native.Nat.{ℕ, ◌+◌, ◌≤◌}
use native.Mathlib.Omega.{arith}
use mathlib.Core.Path.{◌≡◌, refl, sym, ap, ◌∙◌}
use mathlib.Core.List.{List, ◌++◌, append_assoc}
use lib.ListN.{length, take, drop, length-drop, take-append-drop}
use lib.Seq.{length-take-le, sets, sets-eq, drop-append-le, drop-drop}
use Rattle.laws.specs.Writing.{Put}

-- k bytes of a list from the place w on, with a piece at their front
pub put-part :
    (l : List ℕ) (w k : ℕ) (p ys : List ℕ) → w + k ≤ length l → length p ≤ k → ys ≡ p ++ drop (length p) (take k (drop w l)) →
    Put l (take w l ++ (ys ++ drop k (drop w l))) p w (w + length p)
put-part l w k p ys h f e = record { next = refl; now = now }
  where
    d : List ℕ
    d = drop w l

    size : length (take k d) ≡ k
    size = length-take-le k d (rw (length-drop w l) (omega arith))

    rest : drop (length p) (take k d) ++ drop k d ≡ drop (w + length p) l
    rest =
        sym (drop-append-le (length p) (take k d) (drop k d) (rw size f))
        ∙ ap (λ (x : List ℕ). drop (length p) x) (take-append-drop k d)
        ∙ drop-drop (length p) w l

    now : take w l ++ (ys ++ drop k d) ≡ sets l w p
    now =
        ap (λ (x : List ℕ). take w l ++ (x ++ drop k d)) e
        ∙ ap (λ (x : List ℕ). take w l ++ x) (append_assoc p (drop (length p) (take k d)) (drop k d) ∙ ap (λ (x : List ℕ). p ++ x) rest)
        ∙ sym (append_assoc (take w l) p (drop (w + length p) l))
        ∙ sym (sets-eq p l w (omega arith))
