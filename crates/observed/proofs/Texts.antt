-- Pieces of text gathered one after the other.
-- Assumes nothing.
use Rattle.std.proofs.Common.{◌≡◌, ℕ, suc, ◌+◌, ◌-◌, ◌<◌, ◌≤◌, min, Bool, false, List, [], ◌∷◌, ◌++◌, length, get_or, take, drop, sym, refl, ap, ◌∙◌, subst, ⊎_elim, append_assoc, append-nil, add-one, arith, length-drop, take-append-drop, length-take, get_or-drop, take_all, drop-cons, take-suc}
use lib.Seq.{take-length, drop-length}
use Rattle.laws.proofs.Tests.{lt-or-le}
use Rattle.lines.specs.Gathering.{gathered, Gathered, bit_text}
use Rattle.observed.specs.Outputs.{bits_text}
use Rattle.observed.specs.Shown.{shown_byte, shown, pair_text, hex_text}

-- a text that is written otherwise
pub gathered-as : {l : List ℕ} {n : ℕ} {p q l' : List ℕ} {r : ℕ} → q ≡ p → Gathered l n p l' r → Gathered l n q l' r
gathered-as {l} {n} {p} {q} {l'} {r} e g = subst (λ (x : List ℕ). Gathered l n x l' r) (sym e) g

take-least : (n : ℕ) (l : List ℕ) → take (min n (length l)) l ≡ take n l
take-least n l = ⊎_elim inside beyond (lt-or-le n (length l))
  where
    inside : n < length l → take (min n (length l)) l ≡ take n l
    inside h = let e : min n (length l) ≡ n = omega arith in rw e

    beyond : length l ≤ n → take (min n (length l)) l ≡ take n l
    beyond h = let e : min n (length l) ≡ length l = omega arith in rw (e, take-length l, take_all n l h)

-- nothing
pub gathered_none : (l : List ℕ) (n r : ℕ) → r ≡ min n (length l) → Gathered l n [] l r
unfolding gathered
gathered_none l n r e = record { next = e ∙ sym (length-take n l) ∙ ap length (sym front); now = now }
  where
    front : take (length l) (take n l ++ []) ≡ take n l
    front =
        ap (λ (x : List ℕ). take (length l) x) (append-nil (take n l))
        ∙ take_all (length l) (take n l) (rw (length-take n l) (omega arith))

    now : l ≡ take (length l) (take n l ++ []) ++ drop (length (take (length l) (take n l ++ []))) l
    now =
        sym (take-append-drop (min n (length l)) l)
        ∙ ap (λ (x : List ℕ). x ++ drop (min n (length l)) l) (take-least n l)
        ∙ ap (λ (k : ℕ). take n l ++ drop k l) (sym (length-take n l))
        ∙ ap (λ (x : List ℕ). x ++ drop (length x) l) (sym front)

-- a text of things that is made of the text of each: some things, and one more
record Joined {A : Type 0} (byte : A → List ℕ) (text : List A → List ℕ) : Type 0 where
  none : text [] ≡ []
  more : (b : A) (bs : List A) → text (b ∷ bs) ≡ byte b ++ text bs

joined-append : {A : Type 0} {byte : A → List ℕ} {text : List A → List ℕ} → Joined byte text → (xs ys : List A) → text (xs ++ ys) ≡ text xs ++ text ys
joined-append {A} {byte} {text} j [] ys = ap (λ (t : List ℕ). t ++ text ys) (sym j.none)
joined-append {A} {byte} {text} j (x ∷ xs) ys =
    j.more x (xs ++ ys)
    ∙ ap (λ (t : List ℕ). byte x ++ t) (joined-append j xs ys)
    ∙ sym (append_assoc (byte x) (text xs) (text ys))
    ∙ ap (λ (t : List ℕ). t ++ text ys) (sym (j.more x xs))

joined-next :
    {A : Type 0} {byte : A → List ℕ} {text : List A → List ℕ} → Joined byte text → (s : List A) (i : ℕ) (d : A) → i < length s →
    text (take (i + 1) s) ≡ text (take i s) ++ byte (get_or s i d)
joined-next {A} {byte} {text} j s i d h =
    let b = get_or s i d in
    ap (λ (k : ℕ). text (take k s)) (add-one i)
    ∙ ap text (take-suc s i d h)
    ∙ joined-append j (take i s) (b ∷ [])
    ∙ ap (λ (t : List ℕ). text (take i s) ++ t) (j.more b [] ∙ ap (λ (t : List ℕ). byte b ++ t) j.none ∙ append-nil (byte b))

pub shown-next : (s : List ℕ) (i : ℕ) → i < length s → shown (take (i + 1) s) ≡ shown (take i s) ++ shown_byte (get_or s i 0)
unfolding shown
shown-next s i = joined-next {byte = shown_byte} {text = shown} (record { none = refl; more = λ b bs. refl }) s i 0

pub hex-next : (s : List ℕ) (i : ℕ) → i < length s → hex_text (take (i + 1) s) ≡ hex_text (take i s) ++ pair_text (get_or s i 0)
unfolding hex_text
hex-next s i = joined-next {byte = pair_text} {text = hex_text} (record { none = refl; more = λ b bs. refl }) s i 0

pub bits-next : (o : List Bool) (i : ℕ) → i < length o → bits_text (take (i + 1) o) ≡ bits_text (take i o) ++ bit_text (get_or o i false)
unfolding bits_text
bits-next o i = joined-next {byte = bit_text} {text = bits_text} (record { none = refl; more = λ b bs. refl }) o i false
