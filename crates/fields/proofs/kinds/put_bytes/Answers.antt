-- The bytes stand in the part that they were copied into.
-- Assumes nothing.
use Rattle.std.proofs.Common.{◌≡◌, ℕ, ◌+◌, ◌-◌, List, ◌++◌, length, take, refl, ap, sym, ◌∙◌, arith}
use mathlib.Core.List.{append_assoc}
use Rattle.std.proofs.lemmas.List.{drop-drop}
use lib.Seq.{sets-eq}
use Rattle.fields.proofs.kinds.put_bytes.Goals as goal

pub returns : goal.returns
returns c =
    let a = c.args in
    let l = a.buf.now in
    let s = a.bytes.now in
    let k : a.at + length s - a.at ≡ length s = omega arith in
    let joined = ap (λ (r : List ℕ). take a.at l ++ (s ++ r)) (drop-drop (length s) a.at l) ∙ sym (append_assoc (take a.at l) s _) in
    record { next = refl; now = rw (c.copy_from_slice.ensures.after, k) (joined ∙ sym (sets-eq s l a.at c.requires)) }
