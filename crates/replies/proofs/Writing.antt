-- Pieces of an answer, written one after the other.
-- Assumes nothing.
use Prim.Native.Nat.{ℕ, ◌+◌}
use Prim.Native.String.{String}
use native.Mathlib.Numerals.{add-one}
use native.Mathlib.Omega.{arith}
use mathlib.Core.Path.{◌≡◌, ap, ◌∙◌}
use mathlib.Core.List.{List, [], ◌∷◌, ◌++◌, append_assoc}
use lib.ListN.{length, set, length-append}
use lib.Seq.{length-sets}
use Rattle.laws.specs.Text.{bytes}
use Rattle.laws.specs.Writing.{Put}
use Rattle.laws.proofs.Writing.{put-append, put_as}
use Rattle.decimal.specs.Printing.{digits}
use Rattle.decimal.proofs.Printing.{length_digits}
use Rattle.machine.specs.Answers.{answer_of}
use Rattle.machine.specs.declared.commands.StringAddress.{StringAddress}
use Rattle.replies.specs.Pieces.{front_of, request_answer}

-- two bytes
pub put_two : (l : List ℕ) (a b at : ℕ) → Put l (set (set l at a) (at + 1) b) (a ∷ b ∷ []) at (at + 2)
put_two l a b at = record { next = omega arith; now = simp add-one }

-- a write leaves the buffer as long as it was
pub put-length : {l l' p : List ℕ} {a e : ℕ} → Put l l' p a e → length l' ≡ length l
put-length {l} {l'} {p} {a} x = ap length x.now ∙ length-sets l a p

-- after the address
pub digits-place : {l l' : List ℕ} {at : ℕ} (aa : StringAddress) → Put l l' (digits 2 aa.0) 0 at → (at ≡ 2) × (length l' ≡ length l)
digits-place aa x = (omega (arith, x.next, length_digits 2 aa.0), put-length x)

pub length_front : (aa : StringAddress) (a b : ℕ) → length (front_of aa a b) ≡ 4
unfolding front_of
length_front aa a b = omega (arith, length-append (digits 2 aa.0) (a ∷ b ∷ []), length_digits 2 aa.0)

-- the front, the fields, and byte 13
pub put-request : {l l₁ l₂ l₃ fields : List ℕ} {at next e : ℕ} (aa : StringAddress) (letter : ℕ) → Put l l₁ (front_of aa 81 letter) 0 at →
    Put l₁ l₂ fields at next →
    Put l₂ l₃ (13 ∷ []) next e → Put l l₃ (request_answer aa letter fields) 0 e
unfolding front_of request_answer
put-request {l} {l₁} {l₂} {l₃} {fields} aa letter x y z =
    put_as (append_assoc (digits 2 aa.0) (81 ∷ letter ∷ []) (fields ++ (13 ∷ []))) (put-append x (put-append y z))

-- the same, by the code's letters and the fields as 01 gives them
pub put-asked : {l l' fields text : List ℕ} {e : ℕ} (aa : StringAddress) (letter : ℕ) (code : String) → bytes code ≡ 81 ∷ letter ∷ [] →
    Put l l' (request_answer aa letter fields) 0 e → fields ≡ text → Put l l' (answer_of aa code text) 0 e
unfolding answer_of request_answer
put-asked {l} {l'} {fields} {text} aa letter code b p t = put_as (rw (t, b)) p
