-- A WN of each code, each field in its range, is answered Y.
-- Assumes nothing.
use Prim.Native.Nat.{ℕ, ◌+◌, ◌≤◌, ◌<◌}
use native.Mathlib.Omega.{arith}
use mathlib.Core.Path.{◌≡◌, refl, ap, sym, ◌∙◌}
use mathlib.Core.Bool.{true}
use mathlib.Core.List.{List, [], ◌∷◌, ◌++◌, append_assoc, append-nil}
use lib.Dec.{leb}
use lib.ListN.{length, replicate, length-append}
use lib.Seq.{sets}
use borrow.Author.Tests.{leb-true, le-ltb}
use Rattle.std.specs.declared.option.Option.{Option}
use Rattle.std.specs.declared.option.Option.TheVariants.{Some, None}
use Rattle.laws.specs.Tests.{choose, both}
use Rattle.laws.specs.Tables.{every}
use Rattle.laws.specs.Text.{bytes}
use Rattle.laws.proofs.Tests.{both_true, choose-true}
use Rattle.fields.specs.Names.{pair_of}
use Rattle.fields.specs.Reader.{Ends}
use Rattle.fields.specs.Kinds.{print_field, valid, most}
use Rattle.fields.specs.Rows.{parse_all, print_fields, all_valid, most_all}
use Rattle.fields.specs.declared.kinds.Kind.{Kind}
use Rattle.fields.proofs.RoundTrip.{fields_back, all_back}
use Rattle.fields.proofs.Lengths.{fields-most}
use Rattle.format.specs.Formats.{cell, fields_of, known}
use Rattle.instruction.specs.Numbers.{cell_of}
use Rattle.instruction.specs.Texts.{code_kind, sent_fields, sent_code, sent_cell}
use Rattle.format.proofs.Entries.{fields-by, formats-good, known_by}
use Rattle.instruction.proofs.Sending.{good-code}
use Rattle.machine.specs.Record.{idle}
use Rattle.machine.specs.Commands.{code_in, is_code, on_sent, command_of}
use Rattle.machine.specs.Answers.{answer_of, answer_at}
use Rattle.machine.specs.Strings.{Heard, is_start, allowed, carried_out, told}
use Rattle.machine.specs.Calls.{Outcome, look}
use Rattle.machine.specs.Demand2.{own, own_address, address_at, place_field, storing, Accepted}
use Rattle.machine.specs.declared.Machine.{Machine}
use Rattle.machine.specs.declared.commands.Command.{Command}
use Rattle.machine.specs.declared.commands.Command.TheVariants.{Store}
use Rattle.machine.proofs.Invariant.{Good}
use Rattle.machine.proofs.Addressing.{told-own}
use Rattle.machine.proofs.Answering.{own-small, apply-string}
use Rattle.machine.proofs.WritingBack.{store-sent}
use Rattle.machine.proofs.Demand2Hearing.{other-allowed}
use Rattle.machine.proofs.Demand2Strings.{string-store, body-store}

known-digits : (code : ℕ) → known code ≡ true → all_valid (code_kind ∷ []) (code ∷ []) ≡ true
unfolding every both all_valid valid
known-digits code h = known_by (λ (n : ℕ). all_valid (code_kind ∷ []) (n ∷ [])) code refl h

-- the text from CC on says the cell that the fields after CC say
pub code-sent :
    (code : ℕ) (q pre : List ℕ) → known code ≡ true → Ends q →
    (let p = print_fields (code_kind ∷ []) (code ∷ []) in
    sent_cell (pre ++ (p ++ q)) (length pre) ≡ sent_fields code (parse_all (fields_of code) ((pre ++ p) ++ q) (length (pre ++ p))))
unfolding sent_cell sent_code
code-sent code q pre h e =
    let p = print_fields (code_kind ∷ []) (code ∷ []) in
    ap (sent_code (pre ++ (p ++ q))) (fields_back (code_kind ∷ []) (code ∷ []) pre q good-code (known-digits code h) refl e)
    ∙ choose-true (known code) _ None h
    ∙ ap (λ (x : List ℕ). sent_fields code (parse_all (fields_of code) x (length pre + length p))) (sym (append_assoc pre p q))
    ∙ ap (λ (n : ℕ). sent_fields code (parse_all (fields_of code) ((pre ++ p) ++ q) n)) (sym (length-append pre p))

pub print-first :
    (k : Kind) (v : ℕ) (ks : List Kind) (vs : List ℕ) →
    print_fields (k ∷ ks) (v ∷ vs) ≡ print_fields (k ∷ []) (v ∷ []) ++ print_fields ks vs
unfolding print_fields
print-first k v ks vs = ap (λ (l : List ℕ). 44 ∷ (l ++ print_fields ks vs)) (sym (append-nil (print_field k v)))

pub ends-print : (ks : List Kind) (vs : List ℕ) → Ends (print_fields ks vs)
unfolding Ends print_fields
ends-print [] vs = tt
ends-print (k ∷ ks) [] = tt
ends-print (k ∷ ks) (v ∷ vs) = refl

row-says :
    (k code : ℕ) (vs : List ℕ) → k < 131 → known code ≡ true → length (fields_of code) ≡ length vs → (x y : ℕ) → all_valid (fields_of code) vs ≡ true →
    command_of (x ∷ y ∷ 87 ∷ 78 ∷ (place_field k ++ print_fields (code_kind ∷ fields_of code) (code ∷ vs)))
    ≡ Store (address_at k) (cell_of code (sets (replicate 6 0) 0 vs))
unfolding on_sent sent_fields choose
row-says k code vs h c n x y v =
    let pre = x ∷ y ∷ 87 ∷ 78 ∷ place_field k in
    let ks = fields_of code in
    let p = print_fields (code_kind ∷ []) (code ∷ []) in
    store-sent x y k (print_fields (code_kind ∷ ks) (code ∷ vs)) h (ends-print (code_kind ∷ ks) (code ∷ vs))
    ∙ ap (on_sent (address_at k))
    (ap (λ (l : List ℕ). sent_cell (pre ++ l) (length pre)) (print-first code_kind code ks vs)
    ∙ code-sent code (print_fields ks vs) pre c (ends-print ks vs)
    ∙ ap (sent_fields code) (all_back ks vs (pre ++ p) (formats-good code) v n))

length-row : (k code : ℕ) (vs : List ℕ) → length (place_field k ++ print_fields (code_kind ∷ fields_of code) (code ∷ vs)) ≤ 59
unfolding most_all most every both
length-row k code vs =
    let ks = code_kind ∷ fields_of code in
    omega (
      arith,
      length-append (place_field k) (print_fields ks (code ∷ vs)),
      fields-most (cell ∷ []) ((100 + k) ∷ []),
      fields-most ks (code ∷ vs),
      leb-true (most_all (fields_of code)) 26 (fields-by (λ (ks : List Kind). leb (most_all ks) 26) code refl refl),
    )

pub row-accepted :
    (k code : ℕ) (vs : List ℕ) → k < 131 → known code ≡ true → length (fields_of code) ≡ length vs →
    (m : Machine) (buffer : List ℕ) → Good m → idle m.state ≡ true → all_valid (fields_of code) vs ≡ true → 64 ≤ length buffer →
    Accepted (storing m k (print_fields (code_kind ∷ fields_of code) (code ∷ vs))) buffer m
unfolding is_code code_in pair_of bytes look carried_out answer_at is_start
row-accepted k code vs h c n m buffer g i v l =
    let t = place_field k ++ print_fields (code_kind ∷ fields_of code) (code ∷ vs) in
    record {
      code = ap (λ (s : List ℕ). is_code "WN" (code_in s)) (body-store (own m) t);
      yes = ap (λ (o : Outcome). o.answer) (apply-string (answer_of (own_address m) "WN" t) buffer m g (le-ltb (length buffer) 64 l))
          ∙ ap (λ (b : List ℕ). (told b m).answer) (string-store (own m) t)
          ∙ ap (λ (o : Heard). o.answer) (told-own (87 ∷ 78 ∷ t) m (own-small m g) i (omega (arith, length-row k code vs)))
          ∙ ap (λ (o : Command). (carried_out (allowed o m.state) (own_address m) m).answer) (row-says k code vs h c n _ _ v)
          ∙ ap (λ (o : Command). (carried_out o (own_address m) m).answer) (other-allowed _ m.state refl);
    }
