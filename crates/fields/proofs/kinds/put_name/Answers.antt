-- The high byte and what it leaves of the name are its two letters.
-- Assumes nothing.
use Rattle.std.proofs.Common.{◌≡◌, ℕ, ◌-◌, ◌*◌, ◌/◌, ◌%◌, [], ◌∷◌, ap, arith}
use Rattle.laws.proofs.Writing.{put_as}
use Rattle.fields.specs.Kinds.{letters_of}
use Rattle.fields.proofs.kinds.put_name.Goals as goal

letters : (x : ℕ) → x / 256 ∷ (x - x / 256 * 256) ∷ [] ≡ letters_of x
unfolding letters_of
letters x =
    let low : x - x / 256 * 256 ≡ x % 256 = omega arith in
    ap (λ (b : ℕ). x / 256 ∷ b ∷ []) low

pub returns : goal.returns
returns c = put_as (letters c.args.x) c.put_bytes.ensures
