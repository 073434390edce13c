-- What answering with a row asks: room beside the address, the code and byte 13.
-- Assumes nothing.
use Prim.Native.Nat.{ℕ, ◌+◌, ◌≤◌}
use native.Mathlib.Omega.{arith}
use mathlib.Core.Path.{◌≡◌}
use mathlib.Core.Bool.{Bool, true}
use mathlib.Core.List.{List}
use lib.Dec.{leb}
use lib.ListN.{length}
use borrow.Author.Tests.{leb-true}
use Rattle.laws.specs.Tests.{both}
use Rattle.laws.specs.Writing.{Put}
use Rattle.laws.proofs.Tests.{both_left, both_right}
use Rattle.fields.specs.Rows.{print_fields, all_good, all_valid, most_all, PrintableRow}
use Rattle.fields.specs.declared.kinds.Kind.{Kind}
use Rattle.fields.proofs.Lengths.{fields-most}
use Rattle.machine.specs.declared.commands.StringAddress.{StringAddress}
use Rattle.replies.specs.Pieces.{front_of, Ready, ReadyRow}
use Rattle.replies.proofs.Writing.{put-length, length_front}

-- a row that has a printed form, of at most 59 bytes
unfoldable pub fits : List Kind → Bool
fits ks = both (leb (length ks) 6) (both (all_good ks) (leb (most_all ks) 59))

pub ready-row : (aa : StringAddress) (ks : List Kind) (vs l : List ℕ) → Ready aa l → fits ks ≡ true → all_valid ks vs ≡ true → ReadyRow aa ks vs l
unfolding fits
ready-row aa ks vs l h f v =
    record {
      ready = h;
      few = leb-true _ _ (both_left _ _ f);
      kinds_good = both_left _ _ (both_right _ _ f);
      values_valid = v;
      short = leb-true _ _ (both_right _ _ (both_right _ _ f));
    }

-- after the front the row has room
pub row-printable : (aa : StringAddress) (letter at : ℕ) (ks : List Kind) (vs l l' : List ℕ) → ReadyRow aa ks vs l → Put l l' (front_of aa 81 letter) 0 at →
    PrintableRow ks vs at l'
row-printable aa letter at ks vs l l' h p =
    record {
      few = h.few;
      kinds_good = h.kinds_good;
      values_valid = h.values_valid;
      room = omega (arith, h.ready.room, h.short, p.next, put-length p, length_front aa 81 letter, fields-most ks vs);
    }

-- and after the row byte 13 has
pub row-ended : (aa : StringAddress) (letter at next : ℕ) (ks : List Kind) (vs l l' l'' : List ℕ) → ReadyRow aa ks vs l →
    Put l l' (front_of aa 81 letter) 0 at →
    Put l' l'' (print_fields ks vs) at next → next + 1 ≤ length l''
row-ended aa letter at next ks vs l l' l'' h p q =
    omega (
      arith,
      h.ready.room,
      h.short,
      p.next,
      q.next,
      put-length p,
      put-length q,
      length_front aa 81 letter,
      fields-most ks vs,
    )
