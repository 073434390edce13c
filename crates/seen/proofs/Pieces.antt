-- Four bytes written one by one, and room behind what was written.
-- Assumes nothing.
use Prim.Native.Nat.{ℕ, suc, ◌+◌, ◌≤◌}
use native.Mathlib.Omega.{arith}
use mathlib.Core.Path.{◌≡◌, ap, ◌∙◌}
use mathlib.Core.List.{List, [], ◌∷◌}
use lib.ListN.{length, set}
use lib.Seq.{length-sets}
use Rattle.laws.specs.Writing.{Put}

pub put_four :
    (l : List ℕ) (a p q r s : ℕ) →
    Put l (set (set (set (set l a p) (a + 1) q) (a + 2) r) (a + 3) s) (p ∷ q ∷ r ∷ s ∷ []) a (a + 4)
put_four l a p q r s =
    let one : a + 1 ≡ suc a = omega arith in
    let two : a + 2 ≡ suc (suc a) = omega arith in
    let three : a + 3 ≡ suc (suc (suc a)) = omega arith in
    record { next = omega arith; now = rw (one, two, three) }

pub put-length : {l l' p : List ℕ} {a e : ℕ} → Put l l' p a e → length l' ≡ length l
put-length {l} {l'} {p} {a} {e} x = ap length x.now ∙ length-sets l a p

-- where n bytes have room behind the piece, they have it after it was written
pub put-room : {l l' p : List ℕ} {a e : ℕ} (n : ℕ) → Put l l' p a e → a + length p + n ≤ length l → e + n ≤ length l'
put-room {l} {l'} {p} {a} {e} n x h = omega (arith, x.next, put-length x, h)
