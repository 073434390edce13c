-- A line by how many words its form asks.
-- Assumes nothing.
use Rattle.std.proofs.Common.{◌≡◌, ℕ, false, eqb, List, length, sym, refl, eq-eqb, ne_eqb}
use Rattle.std.specs.Prelude.{Err}
use Rattle.laws.specs.Tests.{choose}
use Rattle.laws.proofs.Tests.{choose-by}
use Rattle.script.specs.Calls.{Form, word_count, formed, counted}
use Rattle.script.specs.Calls.{formed_text, counted_text}
use Rattle.script.specs.declared.call.Complaint.TheVariants.{NotACall, MissingOrExtraWord}
use Rattle.script.proofs.Forms.{is_image, text-kept}

module _ (f : Form) (ws : List (List ℕ)) where
  pub counted_none : word_count f ≡ 0 → Err NotACall ≡ counted f ws
  unfolding counted choose
  counted_none e = simp (eq-eqb (word_count f) 0 e)

  pub counted-wrong : (word_count f ≡ 0 → ⊥) → (length ws ≡ word_count f → ⊥) → Err MissingOrExtraWord ≡ counted f ws
  unfolding counted choose
  counted-wrong s n = simp (ne_eqb (word_count f) 0 s, ne_eqb (length ws) (word_count f) n)

  pub counted-right : (word_count f ≡ 0 → ⊥) → length ws ≡ word_count f → formed f ws ≡ counted f ws
  unfolding counted choose
  counted-right s e = simp (ne_eqb (word_count f) 0 s, eq-eqb (length ws) (word_count f) e)

module _ (f : Form) (ws : List (List ℕ)) (text : List ℕ) where
  pub text-wrong : (length ws ≡ word_count f → ⊥) → text ≡ counted_text f ws text
  unfolding counted_text choose
  text-wrong n = simp (ne_eqb (length ws) (word_count f) n)

  pub text-right : length ws ≡ word_count f → formed_text f ws text ≡ counted_text f ws text
  unfolding counted_text choose
  text-right e = simp (eq-eqb (length ws) (word_count f) e)

  -- no string and no image, no bytes
  pub text-other : (word_count f ≡ 4 → ⊥) → is_image f ≡ false → text ≡ counted_text f ws text
  unfolding counted_text
  text-other n i = choose-by (λ (t : List ℕ). text ≡ t) (eqb (length ws) (word_count f)) (λ e. sym (text-kept ws text f n i)) (λ e. refl)
