-- What the form of a line says, by how many words it asks.
-- Assumes nothing.
use Rattle.std.proofs.Common.{◌≡◌, ℕ, Bool, true, false, eqb, List, [], get_or, refl, arith}
use Rattle.std.specs.Prelude.{Ok}
use Rattle.laws.specs.Tests.{choose}
use Rattle.laws.specs.Text.{bytes}
use Rattle.laws.proofs.Tests.{choose-by}
use Rattle.laws.proofs.Telling.{told}
use Rattle.script.specs.Numbers.{unsigned_of}
use Rattle.script.specs.Hex.{text_of}
use Rattle.script.specs.Calls.{Form, form_in, form_of, word_count, on_number, alone_call, number_call, string_of, save_of, load_of, formed, formed_text}
use Rattle.script.specs.Calls.Form.{Alone, WithNumber, WithString, WithBuffer, WithImage, NoForm}

-- an image has as many words as a number
unfoldable pub is_image : Form → Bool
is_image (Alone call) = false
is_image (WithNumber call) = false
is_image WithString = false
is_image WithBuffer = false
is_image WithImage = true
is_image NoForm = false

pub image-count : (f : Form) → (word_count f ≡ 2 → ⊥) → is_image f ≡ false
unfolding word_count is_image
image-count (Alone call) n = refl
image-count (WithNumber call) n = refl
image-count WithString n = refl
image-count WithBuffer n = refl
image-count WithImage n = absurd (n refl)
image-count NoForm n = refl

module _ (words : List (List ℕ)) where
  pub formed-alone : (f : Form) → word_count f ≡ 1 → formed f words ≡ Ok (alone_call f)
  unfolding word_count formed alone_call
  formed-alone (Alone call) e = refl
  formed-alone (WithNumber call) e = absurd (omega arith)
  formed-alone WithString e = absurd (omega arith)
  formed-alone WithBuffer e = absurd (omega arith)
  formed-alone WithImage e = absurd (omega arith)
  formed-alone NoForm e = absurd (omega arith)

  pub formed-number :
      (f : Form) → word_count f ≡ 2 → is_image f ≡ false → formed f words ≡ on_number (number_call f) (unsigned_of (get_or words 1 []))
  unfolding word_count formed number_call is_image
  formed-number (Alone call) e i = absurd (omega arith)
  formed-number (WithNumber call) e i = refl
  formed-number WithString e i = absurd (omega arith)
  formed-number WithBuffer e i = absurd (omega arith)
  formed-number WithImage e i = cc
  formed-number NoForm e i = absurd (omega arith)

  pub formed-save : (f : Form) → word_count f ≡ 3 → formed f words ≡ save_of words
  unfolding word_count formed
  formed-save (Alone call) e = absurd (omega arith)
  formed-save (WithNumber call) e = absurd (omega arith)
  formed-save WithString e = absurd (omega arith)
  formed-save WithBuffer e = refl
  formed-save WithImage e = absurd (omega arith)
  formed-save NoForm e = absurd (omega arith)

  pub formed-string :
      (f : Form) → (word_count f ≡ 0 → ⊥) → (word_count f ≡ 1 → ⊥) → (word_count f ≡ 2 → ⊥) → (word_count f ≡ 3 → ⊥) → formed f words ≡ string_of words
  unfolding word_count formed
  formed-string (Alone call) a b c d = absurd (b refl)
  formed-string (WithNumber call) a b c d = absurd (c refl)
  formed-string WithString a b c d = refl
  formed-string WithBuffer a b c d = absurd (d refl)
  formed-string WithImage a b c d = absurd (c refl)
  formed-string NoForm a b c d = absurd (a refl)

  pub formed-load : (letter : ℕ) → letter ≡ 76 → load_of words ≡ formed (form_of letter) words
  unfolding form_of form_in formed choose bytes
  formed-load letter e = told (λ (k : ℕ). formed (form_of k) words) e refl

  module _ (text : List ℕ) where
    pub text-string :
        (f : Form) → (word_count f ≡ 0 → ⊥) → (word_count f ≡ 1 → ⊥) → (word_count f ≡ 2 → ⊥) → (word_count f ≡ 3 → ⊥) →
        formed_text f words text ≡ text_of 256 (get_or words 1 []) text
    unfolding word_count formed_text
    text-string (Alone call) a b c d = absurd (b refl)
    text-string (WithNumber call) a b c d = absurd (c refl)
    text-string WithString a b c d = refl
    text-string WithBuffer a b c d = absurd (d refl)
    text-string WithImage a b c d = absurd (c refl)
    text-string NoForm a b c d = absurd (a refl)

    pub text-load : (letter : ℕ) → letter ≡ 76 → text_of 2048 (get_or words 1 []) text ≡ formed_text (form_of letter) words text
    unfolding form_of form_in formed_text choose bytes
    text-load letter e = told (λ (k : ℕ). formed_text (form_of k) words text) e refl

    pub text-kept : (f : Form) → (word_count f ≡ 4 → ⊥) → is_image f ≡ false → formed_text f words text ≡ text
    unfolding word_count formed_text is_image
    text-kept (Alone call) n i = refl
    text-kept (WithNumber call) n i = refl
    text-kept WithString n i = absurd (n refl)
    text-kept WithBuffer n i = refl
    text-kept WithImage n i = cc
    text-kept NoForm n i = refl

-- of the letters only L is for an image
pub image-other : (letter : ℕ) → eqb letter 76 ≡ false → is_image (form_of letter) ≡ false
unfolding form_of form_in is_image choose bytes
image-other letter l =
    let P : Form → Type 0 = λ f. is_image f ≡ false in
    simp l
    (choose-by P (eqb letter 70) (λ t. refl)
    (λ t. choose-by P (eqb letter 83) (λ u. refl)
    (λ u. choose-by P (eqb letter 73) (λ v. refl)
    (λ v. choose-by P (eqb letter 77) (λ w. refl)
    (λ w. choose-by P (eqb letter 80) (λ x. refl)
    (λ x. choose-by P (eqb letter 65) (λ y. refl)
    (λ y. choose-by P (eqb letter 72) (λ z. refl)
    (λ z. choose-by P (eqb letter 87) (λ a. refl)
    (λ a. choose-by P (eqb letter 66) (λ b. refl)
    (λ b. choose-by P (eqb letter 82) (λ c. refl)
    (λ c. choose-by P (eqb letter 81) (λ d. refl)
    (λ d. choose-by P (eqb letter 79) (λ e. refl)
    (λ e. choose-by P (eqb letter 84) (λ f. refl)
    (λ f. choose-by P (eqb letter 85) (λ g. refl)
    (λ g. choose-by P (eqb letter 86) (λ h. refl)
    (λ h. choose-by P (eqb letter 88) (λ i. refl) (λ i. refl)))))))))))))))))
