-- One turn of each loop: a number's digits, a string's digits by two, a cell's numbers.
-- Assumes nothing.
use Rattle.std.proofs.Common.{◌≡◌, ℕ, suc, ◌+◌, ◌-◌, ◌*◌, ◌^◌, ◌<◌, ◌≤◌, true, false, ltb, leb, List, [], ◌∷◌, length, get_or, take, drop, set, sym, refl, ap, ◌∙◌, ⊎_elim, add-one, arith, drop_of_length-le, drop-cons, le-ltb, lt-ltb}
use lib.Seq.{sets, drop-length, take-nil}
use Rattle.laws.specs.Tests.{choose, both}
use Rattle.laws.proofs.Tests.{choose-by, choose-true, choose-false, lt-or-le}
use Rattle.decimal.specs.Parsing.{value_from}
use Rattle.std.specs.Prelude.{is_some}
use Rattle.std.specs.declared.option.Option.{Option}
use Rattle.std.specs.declared.option.Option.TheVariants.{Some, None}
use Rattle.script.specs.Numbers.{unsigned_of, integer_of}
use Rattle.script.specs.Hex.{nibble_of, pair_of, byte_before, bytes_of, is_hex}
use Rattle.script.specs.Writes.{is_integer, integer_before, are_integers, integers_of, integer_put}

-- ---- the digits of a number

pub unsigned-none : (s : List ℕ) → length s ≡ 0 → unsigned_of s ≡ None
unfolding unsigned_of
unsigned-none [] h = refl
unsigned-none (b ∷ s) h = absurd (omega arith)

pub unsigned-some : (s : List ℕ) → 0 < length s → unsigned_of s ≡ value_from 0 s
unfolding unsigned_of
unsigned-some [] h = absurd (omega arith)
unsigned-some (b ∷ s) h = refl

pub value-turn :
    (a : ℕ) (s : List ℕ) (i : ℕ) → i < length s →
    value_from a (drop i s)
    ≡ choose (leb 48 (get_or s i 0)) (choose (leb (get_or s i 0) 57) (value_from (a * 10 + (get_or s i 0 - 48)) (drop (i + 1) s)) None) None
unfolding value_from
value-turn a s i h = rw (add-one i, drop-cons s i 0 h)

-- a value that has no room gets none by further digits
pub value-large : (a : ℕ) (s : List ℕ) → 2 ^ 32 ≤ a → value_from a s ≡ None
unfolding value_from
value-large a [] h = choose-false _ _ _ (le-ltb a (2 ^ 32) h)
value-large a (b ∷ s) h =
    choose-by (λ (x : Option ℕ). x ≡ None) (leb 48 b)
    (λ t. choose-by (λ (x : Option ℕ). x ≡ None) (leb b 57) (λ u. value-large (a * 10 + (b - 48)) s (omega arith)) (λ u. refl)) (λ t. refl)

pub value-end : (a : ℕ) (s : List ℕ) (i : ℕ) → i ≡ length s → a < 2 ^ 32 → value_from a (drop i s) ≡ Some a
unfolding value_from
value-end a s i e h = rw (e, drop-length s) (choose-true _ _ _ (lt-ltb a (2 ^ 32) h))

-- ---- the digits of a string, by two

abbrev pub pair_at : List ℕ → ℕ → Option ℕ
pair_at s j = pair_of (nibble_of (get_or s j 0)) (nibble_of (get_or s (j + 1) 0))

two-more : (s : List ℕ) (j : ℕ) → j + 1 < length s → drop j s ≡ get_or s j 0 ∷ get_or s (j + 1) 0 ∷ drop (j + 2) s
two-more s j h =
    let more : suc j ≡ j + 1 = omega arith in
    let twice : suc (j + 1) ≡ j + 2 = omega arith in
    drop-cons s j 0 (omega arith)
    ∙ ap (λ (k : ℕ). get_or s j 0 ∷ drop k s) more
    ∙ ap (λ (l : List ℕ). get_or s j 0 ∷ l) (drop-cons s (j + 1) 0 h ∙ ap (λ (k : ℕ). get_or s (j + 1) 0 ∷ drop k s) twice)

pub hex-turn : (s : List ℕ) (j : ℕ) → j + 1 < length s → is_hex (drop j s) ≡ both (is_some (pair_at s j)) (is_hex (drop (j + 2) s))
unfolding is_hex
hex-turn s j h = ap is_hex (two-more s j h)

pub bytes-turn : (s : List ℕ) (j : ℕ) → j + 1 < length s → bytes_of (drop j s) ≡ byte_before (pair_at s j) (bytes_of (drop (j + 2) s))
unfolding bytes_of
bytes-turn s j h = ap bytes_of (two-more s j h)

-- ---- the numbers of a cell

-- what is left to be put into the numbers, from word k on
abbrev pub rest : List (List ℕ) → List ℕ → ℕ → List ℕ
rest ws numbers k = sets numbers (k - 2) (take (7 - (k - 2)) (integers_of (drop k ws)))

integers-turn :
    (ws : List (List ℕ)) (k : ℕ) → k < length ws →
    integers_of (drop k ws) ≡ integer_before (integer_of (get_or ws k [])) (integers_of (drop (k + 1) ws))
unfolding integers_of
integers-turn ws k h = rw (add-one k, drop-cons ws k [] h)

pub are_integers-turn :
    (ws : List (List ℕ)) (k : ℕ) → k < length ws →
    are_integers (drop k ws) ≡ both (is_integer (integer_of (get_or ws k []))) (are_integers (drop (k + 1) ws))
unfolding are_integers
are_integers-turn ws k h = rw (add-one k, drop-cons ws k [] h)

pub are_integers-end : (ws : List (List ℕ)) (k : ℕ) → length ws ≤ k → are_integers (drop k ws) ≡ true
unfolding are_integers
are_integers-end ws k h = rw (drop_of_length-le ws h)

-- a word that is none, and the end, leave nothing to be put
pub rest-none : (ws : List (List ℕ)) (numbers : List ℕ) (k : ℕ) → integers_of (drop k ws) ≡ [] → rest ws numbers k ≡ numbers
rest-none ws numbers k e = rw (e, take-nil (7 - (k - 2)))

pub rest_end : (ws : List (List ℕ)) (numbers : List ℕ) (k : ℕ) → length ws ≤ k → rest ws numbers k ≡ numbers
unfolding integers_of
rest_end ws numbers k h = rest-none ws numbers k (rw (drop_of_length-le ws h))

-- a word that is an integer
rest-next :
    (ws : List (List ℕ)) (numbers : List ℕ) (k v : ℕ) → 2 ≤ k → k < length ws → integer_of (get_or ws k []) ≡ Some v →
    rest ws numbers k ≡ rest ws (choose (ltb (k - 2) 7) (set numbers (k - 2) v) numbers) (k + 1)
unfolding integer_before
rest-next ws numbers k v two h e = ⊎_elim inside outside (lt-or-le (k - 2) 7)
  where
    turn : integers_of (drop k ws) ≡ v ∷ integers_of (drop (k + 1) ws)
    turn = integers-turn ws k h ∙ ap (λ (n : Option ℕ). integer_before n (integers_of (drop (k + 1) ws))) e

    inside : k - 2 < 7 → rest ws numbers k ≡ rest ws (choose (ltb (k - 2) 7) (set numbers (k - 2) v) numbers) (k + 1)
    inside l =
        let room : 7 - (k - 2) ≡ suc (7 - (k + 1 - 2)) = omega arith in
        let place : suc (k - 2) ≡ k + 1 - 2 = omega arith in
        ap (λ (vs : List ℕ). sets numbers (k - 2) (take (7 - (k - 2)) vs)) turn
        ∙ ap (λ (n : ℕ). sets numbers (k - 2) (take n (v ∷ integers_of (drop (k + 1) ws)))) room
        ∙ ap (λ (i : ℕ). sets (set numbers (k - 2) v) i (take (7 - (k + 1 - 2)) (integers_of (drop (k + 1) ws)))) place
        ∙ ap (λ (l : List ℕ). rest ws l (k + 1)) (sym (choose-true _ _ _ (lt-ltb (k - 2) 7 l)))

    outside : 7 ≤ k - 2 → rest ws numbers k ≡ rest ws (choose (ltb (k - 2) 7) (set numbers (k - 2) v) numbers) (k + 1)
    outside l =
        let none : 7 - (k - 2) ≡ 0 = omega arith in
        let still : 0 ≡ 7 - (k + 1 - 2) = omega arith in
        ap (λ (n : ℕ). sets numbers (k - 2) (take n (integers_of (drop k ws)))) none
        ∙ ap (λ (n : ℕ). sets numbers (k + 1 - 2) (take n (integers_of (drop (k + 1) ws)))) still
        ∙ ap (λ (l : List ℕ). rest ws l (k + 1)) (sym (choose-false _ _ _ (le-ltb (k - 2) 7 l)))

module _ (ws : List (List ℕ)) (numbers : List ℕ) (k : ℕ) where
  -- after the word at k is put, what is left is from the next on
  pub rest_put :
      (n : Option ℕ) → n ≡ integer_of (get_or ws k []) → 2 ≤ k → k < length ws → is_integer n ≡ true →
      rest ws numbers k ≡ rest ws (integer_put n (k - 2) numbers) (k + 1)
  unfolding is_integer integer_put
  rest_put (Some v) e two h t = rest-next ws numbers k v two h (sym e)
  rest_put None e two h t = cc

  pub rest-stop :
      (n : Option ℕ) → n ≡ integer_of (get_or ws k []) → k < length ws → is_integer n ≡ false → integer_put n (k - 2) numbers ≡ rest ws numbers k
  unfolding is_integer integer_put integer_before
  rest-stop (Some v) e h t = cc
  rest-stop None e h t =
      let none : integers_of (drop k ws) ≡ [] =
      integers-turn ws k h ∙ ap (λ (n : Option ℕ). integer_before n (integers_of (drop (k + 1) ws))) (sym e) in
      sym (rest-none ws numbers k none)
