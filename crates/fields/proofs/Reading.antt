-- Where a field ends: one turn of looking for the comma, the field in front of a rest, and that a field lies within its string.
-- Assumes nothing.
use Prim.Native.Nat.{ℕ, suc, ◌+◌, ◌-◌, ◌≤◌, ◌<◌}
use native.Mathlib.Numerals.{add-one}
use native.Mathlib.Omega.{arith}
use mathlib.Core.Path.{◌≡◌, refl, ap}
use mathlib.Core.List.{List, [], ◌∷◌, ◌++◌}
use lib.ListN.{length, get_or, take, drop, length-drop, length-append}
use lib.Seq.{drop-cons, drop-length, get_or-append_seam, drop-append-add, take-append_seam}
use lib.Dec.{ltb, eqb}
use borrow.Author.Tests.{ltb-true, lt-ltb, eq-eqb, ne_eqb}
use Rattle.laws.specs.Tests.{choose}
use Rattle.laws.proofs.Tests.{choose-by}
use Rattle.decimal.proofs.Plain.{Plain}
use Rattle.std.specs.declared.option.Option.{Option}
use Rattle.std.specs.declared.option.Option.TheVariants.{Some, None}
use Rattle.fields.specs.Reader.{field_length, field, field_at, Ends}
use Rattle.fields.specs.declared.reader.Extent.{Extent}

-- one turn: a comma here, another byte, the end
pub field_length-here : (s : List ℕ) (i : ℕ) → i < length s → get_or s i 0 ≡ 44 → field_length (drop i s) ≡ 0
unfolding field_length choose
field_length-here s i h e = rw (drop-cons s i 0 h) (simp (eq-eqb (get_or s i 0) 44 e))

pub field_length-step : (s : List ℕ) (i : ℕ) → i < length s → (get_or s i 0 ≡ 44 → ⊥) → field_length (drop i s) ≡ suc (field_length (drop (i + 1) s))
unfolding field_length choose
field_length-step s i h e = rw (add-one i, drop-cons s i 0 h) (simp (ne_eqb (get_or s i 0) 44 e))

pub field_length-end : (s : List ℕ) (i : ℕ) → i ≡ length s → field_length (drop i s) ≡ 0
unfolding field_length
field_length-end s i e = rw (e, drop-length s)

field_length-most : (s : List ℕ) → field_length s ≤ length s
unfolding field_length
field_length-most [] = omega arith
field_length-most (b ∷ s) = choose-by (λ (n : ℕ). n ≤ length (b ∷ s)) (eqb b 44) (λ t. omega arith) (λ t. omega (arith, field_length-most s))

-- a field lies within its string
pub extent-within : (s : List ℕ) (at start end : ℕ) → field_at s at ≡ field start end → (start ≤ end) × (end ≤ length s)
unfolding field_at
extent-within s at start end =
    choose-by In (ltb at (length s)) (λ t. choose-by In (eqb (get_or s at 0) 44) (λ u. found (ltb-true _ _ t)) (λ u. missing)) (λ t. missing)
  where
    In : Option Extent → Type 0
    In x = x ≡ field start end → (start ≤ end) × (end ≤ length s)

    found : at < length s → In (field (at + 1) (at + 1 + field_length (drop (at + 1) s)))
    found h e =
        let r : ◌≡◌ {A = Extent} (record { start = at + 1; end = at + 1 + field_length (drop (at + 1) s) }) (record { start = start; end = end }) = cc in
        let a : at + 1 ≡ start = ap (λ (x : Extent). x.start) r in
        let b : at + 1 + field_length (drop (at + 1) s) ≡ end = ap (λ (x : Extent). x.end) r in
        omega (arith, field_length-most (drop (at + 1) s), length-drop (at + 1) s)

    missing : In None
    missing e = let z : ◌≡◌ {A = ℕ} 0 1 = cc in omega arith

-- a plain field in front of its rest
field_length-plain : (f rest : List ℕ) → Plain f → Ends rest → field_length (f ++ rest) ≡ length f
unfolding Plain Ends field_length choose
field_length-plain [] [] p e = refl
field_length-plain [] (b ∷ rest) p e = simp (eq-eqb b 44 e)
field_length-plain (b ∷ f) rest p e = simp (ne_eqb b 44 p.0.no_comma) (ap suc (field_length-plain f rest p.1 e))

pub field_at-plain :
    (pre f rest : List ℕ) → Plain f → Ends rest →
    field_at (pre ++ 44 ∷ (f ++ rest)) (length pre) ≡ field (length pre + 1) (length pre + 1 + length f)
unfolding field_at choose
field_at-plain pre f rest p e =
    let s : List ℕ = pre ++ 44 ∷ (f ++ rest) in
    let h : length pre < length s = omega (arith, length-append pre (44 ∷ (f ++ rest))) in
    let comma = eq-eqb (get_or s (length pre) 0) 44 (get_or-append_seam pre 44 (f ++ rest) 0) in
    rw (lt-ltb (length pre) (length s) h, comma, drop-append-add pre (44 ∷ (f ++ rest)) 1)
    (ap (λ (n : ℕ). field (length pre + 1) (length pre + 1 + n)) (field_length-plain f rest p e))

-- its bytes
pub part-plain : (pre f rest : List ℕ) → take (length pre + 1 + length f - (length pre + 1)) (drop (length pre + 1) (pre ++ 44 ∷ (f ++ rest))) ≡ f
part-plain pre f rest =
    let n : length pre + 1 + length f - (length pre + 1) ≡ length f = omega arith in
    rw (n, drop-append-add pre (44 ∷ (f ++ rest)) 1) (take-append_seam f rest)
