-- The frequency of a 21 or 22: what is stored of the one sent, what is shown of it, and what its run orders.
-- Assumes nothing.
use Prim.Native.Nat.{ℕ, suc, ◌≤◌, ◌<◌}
use native.Mathlib.Omega.{arith}
use mathlib.Core.Path.{◌≡◌, refl, ap, sym, ◌∙◌, subst}
use mathlib.Core.Bool.{true}
use mathlib.Core.Logic.{◌⊎◌, ⊎_elim}
use mathlib.Core.List.{List, [], ◌∷◌, ◌++◌, append_assoc}
use lib.ListN.{length, get_or, set}
use Rattle.laws.specs.Tests.{choose, both, either}
use Rattle.laws.specs.Tables.{every}
use Rattle.laws.proofs.Tests.{both_true, choose-by}
use Rattle.decimal.specs.Printing.{digits}
use Rattle.std.specs.declared.option.Option.{Option}
use Rattle.std.specs.declared.option.Option.TheVariants.{Some, None}
use Rattle.fields.specs.Reader.{field_at, Ends}
use Rattle.fields.specs.Kinds.{parse_field, print_field, good, valid}
use Rattle.fields.specs.Rows.{parsed, on_field, on_value, part, fields_from, parse_fields, ended, parse_all, print_fields, all_good, all_valid}
use Rattle.fields.specs.declared.kinds.Kind.{Kind}
use Rattle.fields.specs.declared.reader.Extent.{Extent}
use Rattle.fields.specs.declared.rows.Parsed.{Parsed}
use Rattle.fields.proofs.RoundTrip.{fields_back}
use Rattle.fields.proofs.Validity.{on_field-by, on_value-by}
use Rattle.fields.proofs.Bounds.{between-valid}
use Rattle.units.specs.declared.CellAddress.{CellAddress}
use Rattle.frequency.specs.Places.{hertz_of, place_of}
use Rattle.frequency.specs.Rounding.{round_of}
use Rattle.frequency.proofs.Placing.{hertz-place}
use Rattle.instruction.specs.Codes.{code_of}
use Rattle.format.specs.Formats.{hertz, fields_in, fields_of, known_in, known}
use Rattle.instruction.specs.Numbers.{numbers_with, cell_with, cell_of}
use Rattle.instruction.specs.Runs.{profile_of}
use Rattle.instruction.specs.Texts.{code_kind, cell_text, sent_fields, sent_cell}
use Rattle.instruction.specs.declared.Cell.{Cell as Content}
use Rattle.machine.specs.Record.{cell_at}
use Rattle.machine.specs.Commands.{on_sent, command_of}
use Rattle.machine.specs.Milliseconds.{present}
use Rattle.machine.specs.Orders.{multiplied, run_order, order_in, order_at, order_of}
use Rattle.machine.specs.Calls.{next}
use Rattle.machine.specs.Calls.Call.{SendString}
use Rattle.machine.specs.Demand2.{own, address_at, place_field, storing, read_back, showing, with_hertz, hertz_in, Accepted, Rounds}
use Rattle.machine.specs.declared.Phase.{Phase}
use Rattle.machine.specs.declared.Phase.TheVariants.{Run}
use Rattle.machine.specs.declared.State.{State}
use Rattle.machine.specs.declared.Machine.{Machine}
use Rattle.machine.specs.declared.commands.Command.TheVariants.{Store}
use Rattle.machine.proofs.Tests.{clash}
use Rattle.machine.proofs.Invariant.{Good}
use Rattle.machine.proofs.WritingBack.{store-sent}
use Rattle.machine.proofs.Demand1.{frequency-rounded}
use Rattle.machine.proofs.Demand2Strings.{set_here, body-store, string-stores}
use Rattle.machine.proofs.Demand2Rows.{code-sent, print-first}

-- ---- the first value of a row

-- the first value, where there is one
first_in : Option Parsed → ℕ
first_in (Some p) = get_or p.values 0 0
first_in None = 0

-- the first value, where all fields are right, is a number
First : ℕ → Option Parsed → Type 0
First x (Some p) = get_or p.values 0 0 ≡ x
First x None = Unit {0}

-- later fields leave it
later_first :
    (ks : List Kind) (s : List ℕ) (at i x : ℕ) (vs : List ℕ) → First x (fields_from ks s at (suc i) (x ∷ vs))
unfolding First fields_from
later_first [] s at i x vs = refl
later_first (k ∷ ks) s at i x vs =
    on_field-by (First x) (field_at s at)
    (λ start end. on_value-by (First x) (parse_field k (part s start end)) (λ v e. later_first ks s end (suc i) x (set vs i v)) tt) tt

-- so it is the value of the first field alone
abbrev alone : List ℕ → ℕ → ℕ → Option Parsed
alone vs end v = parsed end (v ∷ vs)

abbrev first : List Kind → List ℕ → List ℕ → ℕ → ℕ → Option Parsed
first ks s vs end v = fields_from ks s end 1 (v ∷ vs)

first-number :
    (ks : List Kind) (s vs : List ℕ) (n : Option ℕ) (end : ℕ) →
    First (first_in (on_value n (alone vs end))) (on_value n (first ks s vs end))
unfolding First first_in
first-number ks s vs (Some v) end = later_first ks s end 0 v vs
first-number ks s vs None end = tt

first_field :
    (k : Kind) (ks : List Kind) (s vs : List ℕ) (x : Option Extent) →
    First (first_in (on_field x (λ start end. on_value (parse_field k (part s start end)) (alone vs end))))
    (on_field x (λ start end. on_value (parse_field k (part s start end)) (first ks s vs end)))
unfolding First
first_field k ks s vs (Some e) = first-number ks s vs (parse_field k (part s e.start e.end)) e.end
first_field k ks s vs None = tt

first-value :
    (k : Kind) (ks : List Kind) (s : List ℕ) (from : ℕ) → First (first_in (parse_fields (k ∷ []) s from)) (parse_fields (k ∷ ks) s from)
unfolding parse_fields fields_from
first-value k ks s from = first_field k ks s _ (field_at s from)

ended_first : (x : ℕ) (s : List ℕ) (y : Option Parsed) → First x y → First x (ended s y)
unfolding First ended
ended_first x s (Some p) h = choose-by (First x) _ (λ t. tt) (λ t. h)
ended_first x s None h = tt

all_first : (x : ℕ) (ks : List Kind) (s : List ℕ) (from : ℕ) → First x (parse_fields ks s from) → First x (parse_all ks s from)
unfolding parse_all
all_first x ks s from h = ended_first x s (parse_fields ks s from) h

-- FFFF, sent as the first field after the code
hertz-first :
    (ks : List Kind) (f : ℕ) (pre rest : List ℕ) → 1 ≤ f → f ≤ 4800 →
    First f (parse_all (hertz ∷ ks) (pre ++ (print_fields (hertz ∷ []) (f ∷ []) ++ (44 ∷ rest))) (length pre))
unfolding all_good every good all_valid valid both Ends first_in
hertz-first ks f pre rest l h =
    let s = pre ++ (print_fields (hertz ∷ []) (f ∷ []) ++ (44 ∷ rest)) in
    let v : all_valid (hertz ∷ []) (f ∷ []) ≡ true = both_true (between-valid 1 4800 f l h) refl in
    let e = ap first_in (fields_back (hertz ∷ []) (f ∷ []) pre (44 ∷ rest) refl v refl refl) in
    all_first f (hertz ∷ ks) s (length pre)
    (subst (λ (x : ℕ). First x (parse_fields (hertz ∷ ks) s (length pre))) e (first-value hertz ks s (length pre)))

-- ---- the cell

-- a 21 or 22 of the frequency that a value is stored as
record FineCell (code f : ℕ) (c : Content) : Type 0 where
  rest : List ℕ
  text : cell_text c ≡ with_hertz code (hertz_of (place_of f)) rest
  runs : (profile_of c.instruction).hertz ≡ hertz_of (place_of f)

abbrev FineCode : ℕ → Type 0
FineCode code = (code ≡ 21) ⊎ (code ≡ 22)

fine-cell : (code : ℕ) (vs : List ℕ) → FineCode code → FineCell code (get_or vs 0 0) (cell_of code vs)
unfolding cell_of cell_with choose cell_text code_of fields_of fields_in numbers_with print_fields print_field digits profile_of
fine-cell code vs =
    ⊎_elim (λ e. subst (λ (c : ℕ). FineCell c (get_or vs 0 0) (cell_of c vs)) (sym e) (record { rest = _; text = refl; runs = refl }))
    (λ e. subst (λ (c : ℕ). FineCell c (get_or vs 0 0) (cell_of c vs)) (sym e) (record { rest = _; text = refl; runs = refl }))

-- ---- the string

-- what is stored is what was sent
sent-held : (a b : CellAddress) (x : Option Content) (d : Content) → on_sent a x ≡ Store b d → (a ≡ b) × (x ≡ Some d)
unfolding on_sent
sent-held a b (Some c) d e = (cc, cc)
sent-held a b None d e = let z : ◌≡◌ {A = ℕ} 0 1 = cc in absurd (omega arith)

fields-held : (code : ℕ) (x : Option Parsed) (d : Content) → sent_fields code x ≡ Some d → (p : Parsed) × ((x ≡ Some p) × (cell_of code p.values ≡ d))
unfolding sent_fields
fields-held code (Some p) d e = (p, (refl, cc))
fields-held code None d e = let z : ◌≡◌ {A = ℕ} 0 1 = cc in absurd (omega arith)

fine-known : (code : ℕ) → FineCode code → known code ≡ true
unfolding known known_in either
fine-known code =
    ⊎_elim (λ e. subst (λ (c : ℕ). known c ≡ true) (sym e) refl) (λ e. subst (λ (c : ℕ). known c ≡ true) (sym e) refl)

fine-first :
    (code f : ℕ) (pre rest : List ℕ) → FineCode code → 1 ≤ f → f ≤ 4800 →
    First f (parse_all (fields_of code) (pre ++ (print_fields (hertz ∷ []) (f ∷ []) ++ (44 ∷ rest))) (length pre))
unfolding fields_of fields_in choose
fine-first code f pre rest c l h =
    let s = pre ++ (print_fields (hertz ∷ []) (f ∷ []) ++ (44 ∷ rest)) in
    ⊎_elim (λ e. subst (λ (n : ℕ). First f (parse_all (fields_of n) s (length pre))) (sym e) (hertz-first _ f pre rest l h))
    (λ e. subst (λ (n : ℕ). First f (parse_all (fields_of n) s (length pre))) (sym e) (hertz-first _ f pre rest l h)) c

-- a WN with FFFF f says the cell of the frequency that f is stored as
fine-says :
    (x y k code f : ℕ) (rest : List ℕ) (b : CellAddress) (d : Content) → k < 131 → FineCode code → 1 ≤ f → f ≤ 4800 →
    command_of (x ∷ y ∷ 87 ∷ 78 ∷ (place_field k ++ with_hertz code f rest)) ≡ Store b d → (address_at k ≡ b) × FineCell code f d
unfolding Ends print_fields First
fine-says x y k code f rest b d h c l u e =
    let pre = x ∷ y ∷ 87 ∷ 78 ∷ place_field k in
    let p = print_fields (code_kind ∷ []) (code ∷ []) in
    let q = print_fields (hertz ∷ []) (f ∷ []) ++ (44 ∷ rest) in
    let split : with_hertz code f rest ≡ p ++ q =
    ap (λ (t : List ℕ). t ++ (44 ∷ rest)) (print-first code_kind code (hertz ∷ []) (f ∷ []))
    ∙ append_assoc p (print_fields (hertz ∷ []) (f ∷ [])) (44 ∷ rest) in
    let held = sent-held (address_at k) b _ d (sym (store-sent x y k (with_hertz code f rest) h refl) ∙ e) in
    let r = parse_all (fields_of code) ((pre ++ p) ++ q) (length (pre ++ p)) in
    let row = fields-held code r d
    (sym (ap (λ (t : List ℕ). sent_cell (pre ++ t) (length pre)) split ∙ code-sent code q pre (fine-known code c) refl) ∙ held.1) in
    let vs = row.0.values in
    let first = subst (First f) row.1.0 (fine-first code f (pre ++ p) rest c l u) in
    (held.0, subst (FineCell code f) row.1.1 (subst (λ (n : ℕ). FineCell code n (cell_of code vs)) first (fine-cell code vs c)))

-- 01: "Hz × m": the order of a run has the Hz of its cell
run-hertz :
    (cells : List Content) (s : State) → s.running.phase ≡ Run →
    (let p = profile_of (present cells s).instruction in hertz_in (order_of cells s) ≡ multiplied p.hertz p.x4)
unfolding order_at order_of order_in run_order hertz_in
run-hertz cells s e = ap (λ (x : Phase). hertz_in (order_in x s (profile_of (present cells s).instruction))) e

pub hertz-rounds :
    (m : Machine) → Good m → (k : ℕ) → k < 131 → (code : ℕ) → FineCode code → (f : ℕ) → 1 ≤ f → f ≤ 4800 → (rest buffer : List ℕ) →
    Accepted (storing m k (with_hertz code f rest)) buffer m →
    Rounds code f k m (next (SendString (storing m k (with_hertz code f rest)) buffer) m)
unfolding present
hertz-rounds m g k h code c f l u rest buffer a =
    let b = storing m k (with_hertz code f rest) in
    let w = string-stores b buffer m g a in
    let n = next (SendString b buffer) m in
    let said = fine-says _ _ k code f rest (address_at w.place) w.content h c l u
    (sym (ap command_of (body-store (own m) (place_field k ++ with_hertz code f rest))) ∙ w.taken) in
    let fine = said.1 in
    let place : w.place ≡ k = omega (arith, ap (λ (a : CellAddress). a.0) said.0) in
    let rounded = frequency-rounded f l u in
    let value = hertz-place f l u in
    let here : cell_at n.cells (address_at k) ≡ w.content =
    subst (λ (i : ℕ). cell_at n.cells (address_at i) ≡ w.content) place
    (set_here m.cells n.cells w.place w.content g.count w.within w.stored) in
    record {
      hertz = round_of f;
      greatest = rounded.1;
      rounded = rounded.0;
      rest = fine.rest;
      shown = subst (λ (i : ℕ). read_back i n ≡ showing m i (cell_text w.content)) place w.shown
          ∙ ap (showing m k) (fine.text ∙ ap (λ (v : ℕ). with_hertz code v fine.rest) value);
      ordered = λ s at run.
          run-hertz n.cells s run
          ∙ ap (λ (a : CellAddress). (let p = profile_of (cell_at n.cells a).instruction in multiplied p.hertz p.x4)) at
          ∙ ap (λ (v : ℕ). multiplied v (profile_of (cell_at n.cells (address_at k)).instruction).x4)
          (ap (λ (d : Content). (profile_of d.instruction).hertz) here ∙ fine.runs ∙ value);
    }
