-- Each way through reading a cell's text, and each piece of printing it.
-- Assumes nothing.
use Prim.Native.Nat.{ℕ, ◌≤◌}
use native.Mathlib.Omega.{arith}
use mathlib.Core.Path.{◌≡◌, ap, sym, ◌∙◌}
use mathlib.Core.Bool.{true, false}
use mathlib.Core.List.{List, [], ◌∷◌, ◌++◌}
use lib.ListN.{length, get_or, length-append}
use lib.Seq.{length-sets}
use Rattle.laws.specs.Writing.{Put}
use Rattle.laws.proofs.Tests.{both_left, choose-true, choose-false}
use Rattle.laws.proofs.Writing.{put-append, put_as}
use Rattle.std.specs.declared.option.Option.{Option}
use Rattle.std.specs.declared.option.Option.TheVariants.{Some, None}
use Rattle.fields.specs.Rows.{parse_fields, parse_all, print_fields, all_valid, PrintableRow}
use Rattle.fields.specs.declared.kinds.Kind.{Kind}
use Rattle.fields.specs.declared.rows.Parsed.{Parsed}
use Rattle.instruction.specs.Codes.{code_of}
use Rattle.format.specs.Formats.{fields_of, known, format_of}
use Rattle.instruction.specs.Numbers.{six, numbers_of, cell_of}
use Rattle.instruction.specs.Soundness.{cell_sound}
use Rattle.instruction.specs.Texts.{code_kind, cell_text, sent_fields, sent_code, sent_cell, Shown}
use Rattle.instruction.specs.declared.Cell.{Cell}
use Rattle.format.proofs.Entries.{formats-good, formats-few, known-format, unknown-format}
use Rattle.instruction.proofs.Numbering.{known-code}
use Rattle.instruction.proofs.Sending.{valid-code, good-code}

-- ---- reading

pub code-wrong : (s : List ℕ) (from : ℕ) → None ≡ parse_fields (code_kind ∷ []) s from → None ≡ sent_cell s from
unfolding sent_cell sent_code
code-wrong s from e = ap (sent_code s) e

module _ (s : List ℕ) (from : ℕ) (p : Parsed) (e : Some p ≡ parse_fields (code_kind ∷ []) s from) where
  pub code-unknown : None ≡ format_of (get_or p.values 0 0) → None ≡ sent_cell s from
  unfolding sent_cell sent_code
  code-unknown u = sym (choose-false _ _ None (unknown-format (get_or p.values 0 0) u)) ∙ ap (sent_code s) e

  -- the fields of the code
  fields-read : {ks : List Kind} → Some ks ≡ format_of (get_or p.values 0 0) → sent_fields (get_or p.values 0 0) (parse_all ks s p.at) ≡ sent_cell s from
  unfolding sent_cell sent_code
  fields-read k =
      let f = known-format (get_or p.values 0 0) k in
      ap (λ ks. sent_fields (get_or p.values 0 0) (parse_all ks s p.at)) f.1
      ∙ sym (choose-true (known (get_or p.values 0 0)) (sent_fields (get_or p.values 0 0) (parse_all (fields_of (get_or p.values 0 0)) s p.at)) None f.0) ∙ ap (sent_code s) e

  pub fields-wrong : {ks : List Kind} → Some ks ≡ format_of (get_or p.values 0 0) → None ≡ parse_all ks s p.at → None ≡ sent_cell s from
  unfolding sent_fields
  fields-wrong k w = ap (sent_fields (get_or p.values 0 0)) w ∙ fields-read k

  pub fields-held :
      {ks : List Kind} (q : Parsed) → Some ks ≡ format_of (get_or p.values 0 0) → Some q ≡ parse_all ks s p.at →
      Some (cell_of (get_or p.values 0 0) q.values) ≡ sent_cell s from
  unfolding sent_fields
  fields-held q k w = ap (sent_fields (get_or p.values 0 0)) w ∙ fields-read k

-- the fields of a format are few
pub few-format : (code : ℕ) {ks : List Kind} → Some ks ≡ format_of code → length ks ≤ 6
few-format code k = rw (known-format code k).1 (formats-few code)

-- ---- printing

-- what printing the code asks
pub printable-code : (c : Cell) (at n : ℕ) (buf : List ℕ) → Shown c at buf → n ≡ code_of c.instruction →
    PrintableRow (code_kind ∷ []) (six n 0 0 0 0 0) at buf
unfolding all_valid cell_text print_fields
printable-code c at n buf s m =
    let p = print_fields (code_kind ∷ []) (code_of c.instruction ∷ []) in
    let q = print_fields (fields_of (code_of c.instruction)) (numbers_of c) in
    let long = length-append p q in
    rw m (record { few = omega arith; kinds_good = good-code; values_valid = valid-code c; room = omega (arith, s.room, long) })

module _
    (c : Cell) (n : ℕ) (ks : List Kind) (vs : List ℕ) (m : n ≡ code_of c.instruction) (k : Some ks ≡ format_of n) (v : vs ≡ numbers_of c)
  where
    -- the text, as the code's row and the fields' row print it
    text-rows : print_fields (code_kind ∷ []) (six n 0 0 0 0 0) ++ print_fields ks vs ≡ cell_text c
    unfolding cell_text print_fields
    text-rows = rw ((known-format n k).1, v, m)

    -- what printing the fields asks after the code
    pub printable-fields : {at next : ℕ} {buf buf' : List ℕ} → Shown c at buf →
        Put buf buf' (print_fields (code_kind ∷ []) (six n 0 0 0 0 0)) at next → PrintableRow ks vs next buf'
    unfolding cell_sound
    printable-fields {at} {next} {buf} {buf'} s p =
        let f = (known-format n k).1 in
        let t = ap length text-rows in
        let u = length-append (print_fields (code_kind ∷ []) (six n 0 0 0 0 0)) (print_fields ks vs) in
        let w = ap length p.now ∙ length-sets buf at (print_fields (code_kind ∷ []) (six n 0 0 0 0 0)) in
        record {
          few = few-format n k;
          kinds_good = rw f (formats-good n);
          values_valid = rw (f, v, m) (both_left _ _ s.sound);
          room = omega (arith, s.room, p.next, t, u, w);
        }

    pub shown-put : {at next e : ℕ} {buf buf' buf'' : List ℕ} → Put buf buf' (print_fields (code_kind ∷ []) (six n 0 0 0 0 0)) at next →
        Put buf' buf'' (print_fields ks vs) next e → Put buf buf'' (cell_text c) at e
    shown-put p w = put_as text-rows (put-append p w)

-- each instruction has a format
pub never-unknown : (c : Cell) (n : ℕ) → n ≡ code_of c.instruction → None ≡ format_of n → ⊥
never-unknown c n m u = let z : known n ≡ true = rw m (known-code c.instruction) in let y = sym z ∙ unknown-format n u in cc
