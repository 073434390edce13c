-- Demand 2, proved.
-- Assumes nothing.
use Prim.Native.Nat.{ℕ, ◌+◌, ◌≤◌, ◌<◌}
use native.Mathlib.Decide.{ℕ_discrete}
use native.Mathlib.Omega.{arith}
use mathlib.Core.Path.{◌≡◌, refl, ap, sym, ◌∙◌}
use mathlib.Core.Bool.{true, false}
use mathlib.Core.Logic.{◌≢◌}
use mathlib.Core.List.{List, [], ◌∷◌, ◌++◌, append_cancel_left}
use lib.ListN.{length, get_or}
use lib.Seq.{ext_get_or, get_or-set_other}
use borrow.Author.Tests.{le-ltb}
use Rattle.laws.specs.Tests.{choose, both}
use Rattle.laws.specs.Text.{bytes}
use Rattle.laws.proofs.Tests.{choose-false}
use Rattle.fields.specs.Names.{pair_of}
use Rattle.fields.specs.Kinds.{most}
use Rattle.fields.specs.Rows.{most_all}
use Rattle.fields.proofs.RoundTrip.{all_back}
use Rattle.fields.proofs.Lengths.{fields-most}
use Rattle.frequency.proofs.Entries.{table-rule}
use Rattle.units.specs.declared.CellAddress.{CellAddress}
use Rattle.format.specs.Formats.{cell}
use Rattle.instruction.specs.Soundness.{cell_sound}
use Rattle.instruction.specs.Texts.{cell_text}
use Rattle.instruction.specs.declared.Cell.{Cell as Content}
use Rattle.instruction.proofs.Values.{keeps-byte}
use Rattle.instruction.proofs.Sending.{text-injective}
use Rattle.machine.specs.Record.{cell_at, null_cell, idle, input_at, in_ee, with_state}
use Rattle.machine.specs.Starting.{started}
use Rattle.machine.specs.Commands.{code_in, is_code, on_parsed, on_fields, on_all, command_by, command_of}
use Rattle.machine.specs.Answers.{answer_of}
use Rattle.machine.specs.Acting.{acted_at, cells_after, machine_after}
use Rattle.machine.specs.Strings.{Heard, is_start, allowed, carried_out, told}
use Rattle.machine.specs.Milliseconds.{present}
use Rattle.machine.specs.Calls.{Outcome, next, seen}
use Rattle.machine.specs.Calls.Call.{SendString}
use Rattle.machine.specs.Demand2.{own, in_string, own_address, address_at, place_field, starting, read_back, showing, Demand2}
use Rattle.machine.specs.declared.State.{State}
use Rattle.machine.specs.declared.Machine.{Machine}
use Rattle.machine.specs.declared.commands.Command.{Command}
use Rattle.machine.specs.declared.commands.Command.TheVariants.{Start}
use Rattle.machine.proofs.Invariant.{Good, good-next, kept-good}
use Rattle.machine.proofs.Places.{place-cell}
use Rattle.machine.proofs.Addressing.{told-own}
use Rattle.machine.proofs.Answering.{own-small, apply-string}
use Rattle.machine.proofs.Texts.{answer-fields}
use Rattle.machine.proofs.Readings.{place-sound}
use Rattle.machine.proofs.WritingBack.{stored_same, cell-good, cell-valid}
use Rattle.machine.proofs.Demand2Frequency.{hertz-rounds}
use Rattle.machine.proofs.Demand2Settings.{presets-repeat, position-repeat, outputs-repeat, cam-repeat, no-cam-repeat}
use Rattle.machine.proofs.Demand2Hearing.{stored}
use Rattle.machine.proofs.Demand2Strings.{string-code, set_here, read_back_lem, Left, string-left, string-stores, call-only}
use Rattle.machine.proofs.Demand2Rows.{row-accepted}

-- the cell that QM shows is the one that stands there
shown-cell :
    (m : Machine) (k : ℕ) (c : Content) → Good m → idle m.state ≡ true → k < 131 → cell_sound c ≡ true →
    read_back k m ≡ showing m k (cell_text c) → cell_at m.cells (address_at k) ≡ c
shown-cell m k c g i h s e =
    let x = cell_at m.cells (address_at k) in
    text-injective x c (place-sound m k g h) s
    (append_cancel_left (place_field k) _ _
    (answer-fields (own_address m) (own_address m) "QM" _ _ (sym (read_back_lem m k x g i h refl) ∙ e)))

-- ---- PS

start-parsed : (x y k : ℕ) → k < 131 → command_of (x ∷ y ∷ 80 ∷ 83 ∷ place_field k) ≡ Start (address_at k)
unfolding command_of command_by is_code code_in pair_of bytes choose on_all on_parsed on_fields
start-parsed x y k h =
    rw (all_back (cell ∷ []) ((100 + k) ∷ []) (x ∷ y ∷ 80 ∷ 83 ∷ []) cell-good (cell-valid k h) refl)
    (ap (λ (a : ℕ). Start (record { 0 = a })) (keeps-byte (100 + k) (omega arith)))

length-place : (k : ℕ) → length (place_field k) ≤ 4
unfolding most_all most
length-place k = omega (arith, fields-most (cell ∷ []) ((100 + k) ∷ []))

-- 01: "(6) PS with input EE on: `AAN`"
start-allowed : (a : CellAddress) (s : State) → input_at s in_ee ≡ false → allowed (Start a) s ≡ Start a
unfolding allowed is_start both
start-allowed a s e = choose-false _ _ _ e

-- 01: "clears the error and makes BBB .. the present cell"
pub start-begins :
    (m : Machine) (k : ℕ) (buffer : List ℕ) → Good m → idle m.state ≡ true → input_at m.state in_ee ≡ false → k < 131 →
    64 ≤ length buffer → next (SendString (starting m k) buffer) m ≡ with_state m (started m.state (address_at k))
unfolding next carried_out machine_after acted_at cells_after bytes
start-begins m k buffer g i ee h l =
    ap (λ (o : Outcome). o.machine) (apply-string (starting m k) buffer m g (le-ltb (length buffer) 64 l))
    ∙ ap (λ (o : Heard). o.machine)
    (ap (λ (b : List ℕ). told b m) (string-code "PS" (own m) (place_field k))
    ∙ told-own (80 ∷ 83 ∷ place_field k) m (own-small m g) i (omega (arith, length-place k))
    ∙ ap (λ (o : Command). carried_out (allowed o m.state) (own_address m) m) (start-parsed _ _ k h)
    ∙ ap (λ (o : Command). carried_out o (own_address m) m) (start-allowed (address_at k) m.state ee))

-- the cell there is the present one
start-present :
    (m : Machine) (k : ℕ) (buffer : List ℕ) → Good m → idle m.state ≡ true → input_at m.state in_ee ≡ false → k < 131 →
    64 ≤ length buffer →
    (let n = next (SendString (starting m k) buffer) m in present n.cells n.state ≡ cell_at m.cells (address_at k))
unfolding present
start-present m k buffer g i ee h l = ap (λ (n : Machine). present n.cells n.state) (start-begins m k buffer g i ee h l)

-- ---- equal cells

cells_same :
    (m n : Machine) → Good m → Good n → idle m.state ≡ true → idle n.state ≡ true → own m ≡ own n →
    ((k : ℕ) → k < 131 → read_back k m ≡ read_back k n) → m.cells ≡ n.cells
cells_same m n g h i j e r =
    ext_get_or null_cell m.cells n.cells (g.count ∙ sym h.count)
    (λ k l. let b : k < 131 = rw g.count at l in
    let x = cell_at n.cells (address_at k) in
    sym (place-cell m.cells (address_at k) (omega arith))
    ∙ shown-cell m k x g i b (place-sound n k h b)
    (r k b ∙ read_back_lem n k x h j b refl ∙ ap (λ (aa : ℕ). answer_of (in_string aa) "QM" (place_field k ++ cell_text x)) (sym e))
    ∙ place-cell n.cells (address_at k) (omega arith))

-- ---- two strings

-- the drive after a string
abbrev after : List ℕ → List ℕ → Machine → Machine
after b buffer m = next (SendString b buffer) m

-- a cell that a string leaves stands at its place
here : (b buffer : List ℕ) (m : Machine) → Good m → (x : Left b buffer m) → cell_at (after b buffer m).cells (address_at x.place) ≡ x.content
here b buffer m g x = set_here m.cells (after b buffer m).cells x.place x.content g.count x.within x.cells

-- two strings for two cells that leave the same cells leave them as they were
other_place :
    (b buffer d other : List ℕ) (m : Machine) → Good m → (x : Left b buffer m) (y : Left d other m) →
    (after b buffer m).cells ≡ (after d other m).cells → x.place ≢ y.place → after b buffer m ≡ m
other_place b buffer d other m g x y e n =
    let a = address_at x.place in
    let same : cell_at m.cells a ≡ x.content =
    place-cell m.cells a (omega arith)
    ∙ sym (get_or-set_other m.cells y.place x.place y.content null_cell n)
    ∙ ap (λ (l : List Content). get_or l x.place null_cell) (sym y.cells ∙ sym e)
    ∙ sym (place-cell (after b buffer m).cells a (omega arith)) ∙ here b buffer m g x in
    x.whole ∙ ap (stored m a) (sym same) ∙ stored_same m a

strings-same :
    (b d buffer other : List ℕ) (m : Machine) → Good m → Left b buffer m → Left d other m →
    ((k : ℕ) → k < 131 → read_back k (after b buffer m) ≡ read_back k (after d other m)) → after b buffer m ≡ after d other m
strings-same b d buffer other m g x y r = by (ℕ_discrete x.place y.place)
  where
    cells : (after b buffer m).cells ≡ (after d other m).cells
    cells =
        cells_same (after b buffer m) (after d other m) (good-next (SendString b buffer) m g) (good-next (SendString d other) m g) x.rests
        y.rests (x.address ∙ sym y.address) r

    by : Dec (x.place ≡ y.place) → after b buffer m ≡ after d other m
    by (no n) = other_place b buffer d other m g x y cells n ∙ sym (other_place d other b buffer m g y x (sym cells) (λ q. n (sym q)))
    by (yes q) =
        let content =
        sym (here b buffer m g x) ∙ ap (λ (l : List Content). cell_at l (address_at x.place)) cells
        ∙ ap (λ (k : ℕ). cell_at (after d other m).cells (address_at k)) q ∙ here d other m g y in
        x.whole ∙ ap (stored m (address_at x.place)) content ∙ ap (λ (k : ℕ). stored m (address_at k) y.content) q ∙ sym y.whole

pub demand2 : Demand2
demand2 =
    record {
      takes = λ m g i k h code c vs n v buffer l. row-accepted k code vs h c n m buffer (kept-good m g) i v l;
      stores = λ b buffer m g a. string-stores b buffer m (kept-good m g) a;
      only = call-only;
      presets = λ m g. presets-repeat m (kept-good m g);
      position = λ m g. position-repeat m (kept-good m g);
      outputs = λ m g. outputs-repeat m (kept-good m g);
      cam = λ m g. cam-repeat m (kept-good m g);
      no_cam = λ m g. no-cam-repeat m (kept-good m g);
      starts = λ m g i ee k h c s e buffer l.
          start-present m k buffer (kept-good m g) i ee h l ∙ shown-cell m k c (kept-good m g) i h s e;
      runs = λ m n g h i e r zs p.
          let address = ap (λ (s : State). s.presets.address.0) e in
          let cells = cells_same m n (kept-good m g) (kept-good n h) i (ap idle (sym e) ∙ i) address r in
          ap (seen zs) (λ j. record { state = e j; cells = cells j });
      sent = λ b d buffer other m g x y r.
          strings-same b d buffer other m (kept-good m g) (string-left b buffer m (kept-good m g) x) (string-left d other m (kept-good m g) y) r;
      rounds = λ m g k h code c f l u rest buffer a. hertz-rounds m (kept-good m g) k h code c f l u rest buffer a;
      table = table-rule;
    }
