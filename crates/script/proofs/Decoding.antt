-- The bytes of a string or an image by the tests of its word.
-- Assumes nothing.
use Rattle.std.proofs.Common.{◌≡◌, ℕ, ◌*◌, ◌/◌, ◌<◌, ◌≤◌, true, false, List, length, arith, eq-eqb, ne_eqb, le-leb}
use lib.Seq.{sets}
use borrow.Author.Tests.{lt-leb}
use Rattle.std.specs.Prelude.{Some, None}
use Rattle.laws.specs.Tests.{choose, both}
use Rattle.laws.proofs.Tests.{both_true}
use Rattle.laws.proofs.Joins.{both-false-left, both-false-right}
use Rattle.script.specs.Hex.{bytes_of, is_hex, is_none, is_sized, decoded_of, text_of}

module _ (most : ℕ) (word : List ℕ) where
  pub size_none : length word / 2 ≡ 0 → is_sized most word ≡ false
  unfolding is_sized
  size_none e = both-false-left _ _ (lt-leb 1 (length word / 2) (omega arith))

  pub size-large : most < length word / 2 → is_sized most word ≡ false
  unfolding is_sized
  size-large h = both-false-right _ _ (both-false-left _ _ (lt-leb (length word / 2) most h))

  pub size-odd : (length word / 2 * 2 ≡ length word → ⊥) → is_sized most word ≡ false
  unfolding is_sized
  size-odd n = both-false-right _ _ (both-false-right _ _ (ne_eqb (length word / 2 * 2) (length word) n))

  pub size-right : (length word / 2 ≡ 0 → ⊥) → length word / 2 ≤ most → length word / 2 * 2 ≡ length word → is_sized most word ≡ true
  unfolding is_sized
  size-right n h e =
      let some : 1 ≤ length word / 2 = omega arith in
      both_true (le-leb 1 (length word / 2) some) (both_true (le-leb (length word / 2) most h) (eq-eqb (length word / 2 * 2) (length word) e))

module _ (most : ℕ) (word text : List ℕ) where
  pub decoded-none : is_none word ≡ true → (Some 0 ≡ decoded_of most word) × (text ≡ text_of most word text)
  unfolding decoded_of text_of choose
  decoded-none t = (simp t, simp t)

  pub decoded-size : is_none word ≡ false → is_sized most word ≡ false → (None ≡ decoded_of most word) × (text ≡ text_of most word text)
  unfolding decoded_of text_of choose both
  decoded-size n s = (simp (n, s), simp (n, s))

  pub decoded-digit :
      is_none word ≡ false → is_sized most word ≡ true → is_hex word ≡ false →
      (None ≡ decoded_of most word) × (sets text 0 (bytes_of word) ≡ text_of most word text)
  unfolding decoded_of text_of choose both
  decoded-digit n s h = (simp (n, s, h), simp (n, s))

  pub decoded-hex :
      is_none word ≡ false → is_sized most word ≡ true → is_hex word ≡ true →
      (Some (length word / 2) ≡ decoded_of most word) × (sets text 0 (bytes_of word) ≡ text_of most word text)
  unfolding decoded_of text_of choose both
  decoded-hex n s h = (simp (n, s, h), simp (n, s))
