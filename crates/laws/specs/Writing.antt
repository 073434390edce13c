-- What a write into a lent buffer leaves: the form that every writer's contract has.
-- Assumes nothing.
use Rattle.std.specs.Prelude.{ℕ, ◌+◌, ◌≡◌, List, length}
use Rattle.std.proofs.lemmas.List.Edits.{sets}

-- from the bytes l, the piece p was written from place a on, and nothing else: then the bytes are l', and e is the place after the piece
pub record Put (l l' p : List ℕ) (a e : ℕ) : Type 0 where
  pub next : e ≡ a + length p
  pub now : l' ≡ sets l a p
