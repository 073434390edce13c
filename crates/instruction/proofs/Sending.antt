-- A cell from its text: what QM shows is what WN stored, and what WN stores is sound.
-- Assumes nothing.
use Prim.Native.Nat.{ℕ, ◌+◌, ◌≤◌}
use native.Mathlib.Omega.{arith}
use mathlib.Core.Path.{◌≡◌, refl, ap, sym, ◌∙◌}
use mathlib.Core.Bool.{Bool, true}
use mathlib.Core.List.{List, [], ◌∷◌, ◌++◌, append_assoc}
use lib.Dec.{leb}
use lib.ListN.{length, get_or, take, length-append}
use lib.Seq.{length-take-le, get_or-take}
use borrow.Author.Tests.{leb-true}
use Rattle.laws.specs.Tests.{choose, both}
use Rattle.laws.specs.Tables.{every}
use Rattle.laws.proofs.Tests.{both_left, both_right, both_true, choose-by, choose-true}
use Rattle.fields.specs.Reader.{Ends}
use Rattle.fields.specs.Kinds.{good, valid, most}
use Rattle.fields.specs.Rows.{parse_fields, parse_all, print_fields, all_good, all_valid, most_all}
use Rattle.std.specs.declared.option.Option.{Option}
use Rattle.std.specs.declared.option.Option.TheVariants.{Some, None}
use Rattle.fields.specs.declared.kinds.Kind.{Kind}
use Rattle.fields.specs.declared.rows.Parsed.{Parsed}
use Rattle.fields.proofs.RoundTrip.{fields_back, all_back}
use Rattle.fields.proofs.Lengths.{fields-most}
use Rattle.fields.proofs.Validity.{all_valid_lem}
use Rattle.instruction.specs.Codes.{code_of}
use Rattle.format.specs.Formats.{fields_of, known}
use Rattle.instruction.specs.Numbers.{numbers_of, cell_of}
use Rattle.instruction.specs.Soundness.{cell_sound}
use Rattle.instruction.specs.Texts.{code_kind, cell_text, sent_fields, sent_code, sent_cell}
use Rattle.instruction.specs.declared.Cell.{Cell}
use Rattle.format.proofs.Entries.{fields-by, formats-good, formats-few, known_by}
use Rattle.instruction.proofs.Values.{valid_same}
use Rattle.instruction.proofs.Numbering.{known-code, numbers-zeros, length-numbers, cell-numbers}
use Rattle.instruction.proofs.Storing.{sound-cell}

-- what is stored of a string is sound
pub sent-sound : (s : List ℕ) (from : ℕ) (c : Cell) → sent_cell s from ≡ Some c → cell_sound c ≡ true
unfolding sent_cell sent_code sent_fields
sent-sound s from c = by-code (parse_fields (code_kind ∷ []) s from)
  where
    Right : Option Cell → Type 0
    Right x = x ≡ Some c → cell_sound c ≡ true

    by-fields : (code : ℕ) (x : Option Parsed) → known code ≡ true → ((q : Parsed) → x ≡ Some q → all_valid (fields_of code) q.values ≡ true) →
        Right (sent_fields code x)
    by-fields code (Some q) k v = λ e. let d : cell_of code q.values ≡ c = cc in ap cell_sound (sym d) ∙ sound-cell code q.values k (v q refl)
    by-fields code None k v = λ e. cc

    by-code : (x : Option Parsed) → Right (sent_code s x)
    by-code (Some p) =
        let code = get_or p.values 0 0 in
        choose-by Right (known code)
        (λ k. by-fields code _ k (λ q e. all_valid_lem (fields_of code) s p.at q (formats-good code) (formats-few code) e)) (λ k e. cc)
    by-code None = λ e. cc

-- ---- the text

ends-print : (ks : List Kind) (vs : List ℕ) → Ends (print_fields ks vs)
unfolding Ends print_fields
ends-print [] vs = tt
ends-print (k ∷ ks) [] = tt
ends-print (k ∷ ks) (v ∷ vs) = refl

-- it starts with a comma
pub text-ends : (c : Cell) → Ends (cell_text c)
unfolding Ends cell_text print_fields
text-ends c = refl

-- no row is longer than this
short : List Kind → Bool
short ks = leb (most_all ks) 26

pub length-text : (c : Cell) → length (cell_text c) ≤ 29
unfolding cell_text short most_all most every both
length-text c =
    let code = code_of c.instruction in
    omega (
      arith,
      length-append (print_fields (code_kind ∷ []) (code ∷ [])) (print_fields (fields_of code) (numbers_of c)),
      fields-most (code_kind ∷ []) (code ∷ []),
      fields-most (fields_of code) (numbers_of c),
      leb-true (most_all (fields_of code)) 26 (fields-by short code refl refl),
    )

-- the numbers past a row are not printed
print-take : (ks : List Kind) (vs : List ℕ) → print_fields ks (take (length ks) vs) ≡ print_fields ks vs
unfolding print_fields
print-take [] vs = refl
print-take (k ∷ ks) [] = refl
print-take (k ∷ ks) (v ∷ vs) = rw (print-take ks vs)

-- every code has two digits
two_digits : ℕ → Bool
two_digits code = all_valid (code_kind ∷ []) (code ∷ [])

known-digits : (code : ℕ) → known code ≡ true → two_digits code ≡ true
unfolding two_digits every both all_valid valid
known-digits code h = known_by two_digits code refl h

pub valid-code : (c : Cell) → all_valid (code_kind ∷ []) (code_of c.instruction ∷ []) ≡ true
unfolding two_digits
valid-code c = known-digits (code_of c.instruction) (known-code c.instruction)

pub good-code : all_good (code_kind ∷ []) ≡ true
unfolding all_good every both good
good-code = refl

-- the fields after the code
row_back : (c : Cell) (pre : List ℕ) → cell_sound c ≡ true →
    (let code = code_of c.instruction in
    sent_fields code (parse_all (fields_of code) (pre ++ print_fields (fields_of code) (numbers_of c)) (length pre)) ≡ Some c)
unfolding cell_sound sent_fields choose
row_back c pre s =
    let code = code_of c.instruction in
    let ks = fields_of code in
    let vs = take (length ks) (numbers_of c) in
    let long : length vs ≡ length ks = length-take-le (length ks) (numbers_of c) (omega (arith, length-numbers c, formats-few code)) in
    let t = valid_same ks (numbers_of c) vs (omega arith) (λ i l. sym (get_or-take (length ks) (numbers_of c) i 0 l)) (both_left _ _ s) in
    ap (λ (q : List ℕ). sent_fields code (parse_all ks (pre ++ q) (length pre))) (sym (print-take ks (numbers_of c)))
    ∙ ap (sent_fields code) (all_back ks vs pre (formats-good code) t (sym long))
    ∙ ap (λ (ws : List ℕ). Some (cell_of code ws)) (sym (numbers-zeros c))
    ∙ ap Some (cell-numbers c s)

-- 01: "QM,BBB as WN stored it": the text of a sound cell says that cell
pub sent-text : (c : Cell) (pre : List ℕ) → cell_sound c ≡ true → sent_cell (pre ++ cell_text c) (length pre) ≡ Some c
unfolding cell_text sent_cell sent_code
sent-text c pre s =
    let code = code_of c.instruction in
    let p = print_fields (code_kind ∷ []) (code ∷ []) in
    let q = print_fields (fields_of code) (numbers_of c) in
    ap (sent_code (pre ++ (p ++ q))) (fields_back (code_kind ∷ []) (code ∷ []) pre q good-code (valid-code c) refl (ends-print _ _))
    ∙ choose-true (known code) _ None (known-code c.instruction)
    ∙ ap (λ (x : List ℕ). sent_fields code (parse_all (fields_of code) x (length pre + length p))) (sym (append_assoc pre p q))
    ∙ ap (λ (n : ℕ). sent_fields code (parse_all (fields_of code) ((pre ++ p) ++ q) n)) (sym (length-append pre p))
    ∙ row_back c (pre ++ p) s

-- so two sound cells with one text are the same
pub text-injective : (c d : Cell) → cell_sound c ≡ true → cell_sound d ≡ true → cell_text c ≡ cell_text d → c ≡ d
text-injective c d s t e =
    let h = sym (sent-text c [] s) ∙ ap (λ (x : List ℕ). sent_cell x 0) e ∙ sent-text d [] t in
    cc
