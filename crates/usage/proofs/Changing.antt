-- A string changes the memory at the cell that it names, or nowhere; no other call changes it.
-- Assumes nothing.
use Prim.Native.Nat.{ℕ, ◌+◌, ◌-◌, ◌<◌}
use native.Mathlib.Omega.{arith}
use mathlib.Core.Path.{◌≡◌, refl, sym, ap, ◌∙◌, subst}
use mathlib.Core.Bool.{Bool, true, false}
use mathlib.Core.List.{List, [], ◌∷◌}
use mathlib.Core.Logic.{⊎_elim}
use lib.Dec.{ltb}
use lib.ListN.{length, get_or}
use lib.Seq.{get_or-set_other}
use borrow.Author.Tests.{le-ltb}
use Rattle.std.specs.declared.option.Option.{Option}
use Rattle.std.specs.declared.option.Option.TheVariants.{Some, None}
use Rattle.laws.proofs.Tests.{choose-by, choose-true, choose-false}
use Rattle.fields.specs.Rows.{parse_fields}
use Rattle.fields.specs.declared.rows.Parsed.{Parsed}
use Rattle.format.specs.Formats.{cell}
use Rattle.instruction.specs.Texts.{sent_cell}
use Rattle.instruction.specs.declared.Cell.{Cell}
use Rattle.machine.specs.Record.{null_cell, stored_at}
use Rattle.machine.specs.Soundness.{sound}
use Rattle.machine.specs.Commands.{fields_at, code_in, is_code, address_of, on_parsed, on_fields, on_sent, store_in}
use Rattle.machine.specs.Acting.{cells_after, machine_after}
use Rattle.machine.specs.Strings.{body_of, told}
use Rattle.machine.specs.Demand2.{address_at}
use Rattle.machine.specs.Calls.{Call, Outcome, act, apply, next}
use Rattle.machine.specs.Calls.Call.{SendString, SetInputs, Millisecond, Step, AtSpeed, Halted, Wait}
use Rattle.machine.specs.declared.Machine.{Machine}
use Rattle.machine.specs.declared.commands.Command.{Command}
use Rattle.machine.specs.declared.commands.Command.TheVariants.{Store, SetPreset, Start, EmergencyStop, FreeRunStop, SetPosition, SetOutput, SetCam, AskPosition, AskPreset, AskInput, AskOutput, AskCell, AskCam, AskFault, AskSuspended, Wrong}
use Rattle.machine.proofs.Tests.{by-test}
use Rattle.machine.proofs.WritingBack.{store-read}
use Rattle.machine.proofs.Demand2Hearing.{Wrote, told-leaves, told-written}
use Rattle.reachability.specs.Graph.{place_of, Counted, is_root}
use Rattle.usage.specs.Updating.{place_by, place_in}
use Rattle.usage.specs.UsedCells.{Brought}
use Rattle.usage.proofs.Keeping.{Apart, updated-counted}

-- ---- the cell that a WN names

-- the place that a command stores at; 131 where it stores nothing
place_stored : Command → ℕ
place_stored (Store a c) = place_of a
place_stored (SetPreset v) = 131
place_stored (Start a) = 131
place_stored EmergencyStop = 131
place_stored FreeRunStop = 131
place_stored (SetPosition b) = 131
place_stored (SetOutput o v) = 131
place_stored (SetCam v b) = 131
place_stored AskPosition = 131
place_stored (AskPreset k) = 131
place_stored (AskInput k) = 131
place_stored (AskOutput k) = 131
place_stored (AskCell a) = 131
place_stored AskCam = 131
place_stored AskFault = 131
place_stored AskSuspended = 131
place_stored Wrong = 131

-- what a WN stores lies at the place that its BBB names
stored-named : (s : List ℕ) (x : Option Parsed) → place_stored (store_in s x) < 131 → place_stored (store_in s x) ≡ place_by x
unfolding store_in on_sent on_parsed place_by place_stored
stored-named s (Some p) = sent-named (sent_cell s p.at)
  where
    sent-named : (x : Option Cell) → place_stored (on_sent (address_of p.values) x) < 131 → place_stored (on_sent (address_of p.values) x) ≡ place_of (address_of p.values)
    sent-named (Some c) h = refl
    sent-named None h = absurd (omega (arith, h))
stored-named s None = λ h. absurd (omega (arith, h))

place_at : (k : ℕ) → place_of (address_at k) ≡ k
unfolding place_of
place_at k = choose-false _ 131 _ (le-ltb (100 + k) 100 (omega arith)) ∙ omega arith

wrote-place : (b : List ℕ) (m : Machine) → is_code "WN" (code_in (body_of b)) ≡ true → (w : Wrote b m (told b m)) → place_in b ≡ w.place
unfolding place_in place_stored
wrote-place b m t w =
    let p = parse_fields (cell ∷ []) (body_of b) fields_at in
    let e : store_in (body_of b) p ≡ Store (address_at w.place) w.content = sym (store-read (body_of b) t) ∙ w.taken in
    let q : place_stored (store_in (body_of b) p) ≡ w.place = ap place_stored e ∙ place_at w.place in
    sym (stored-named (body_of b) p (subst (λ (k : ℕ). k < 131) (sym q) w.within)) ∙ q

-- ---- the memory after a call

wrote-apart : (b : List ℕ) (m : Machine) (at : ℕ) → (w : Wrote b m (told b m)) → at ≡ w.place → Apart at m.cells (told b m).machine.cells
unfolding machine_after cells_after stored_at
wrote-apart b m at w e j n =
    let k : (address_at w.place).0 - 100 ≡ at = omega (arith, e) in
    sym (ap (λ h. get_or h.machine.cells j null_cell) w.left ∙ get_or-set_other m.cells ((address_at w.place).0 - 100) j w.content null_cell (λ x. n (x ∙ k)))

told-apart : (b : List ℕ) (m : Machine) → Apart (place_in b) m.cells (told b m).machine.cells
told-apart b m =
    by-test (is_code "WN" (code_in (body_of b)))
    (λ t. ⊎_elim (λ s j n. ap (λ (x : Machine). get_or x.cells j null_cell) (sym s.0)) (λ w. wrote-apart b m (place_in b) w (wrote-place b m t w)) (told-written b m t))
    (λ t j n. ap (λ (cells : List Cell). get_or cells j null_cell) (sym (told-leaves b m t)))

pub string-apart : (b buffer : List ℕ) (m : Machine) → Apart (place_in b) m.cells (next (SendString b buffer) m).cells
unfolding next apply act
string-apart b buffer m =
    choose-by (λ (o : Outcome). Apart (place_in b) m.cells o.machine.cells) (sound m)
    (λ _. choose-by (λ (o : Outcome). Apart (place_in b) m.cells o.machine.cells) (ltb (length buffer) 64) (λ _ j n. refl) (λ _. told-apart b m))
    (λ _ j n. refl)

-- ---- the map after a call

-- whichever outcome, with the memory that came
Still : Machine → Outcome → Type 0
Still m o = o.machine.cells ≡ m.cells

-- a map that is left alone beside a memory that is
same-counted : {before after : List Cell} {used map : List Bool} → after ≡ before → used ≡ map → Counted before is_root used → Counted after is_root map
same-counted {after = after} {used = used} e q c = subst (Counted after is_root) q (subst (λ (cells : List Cell). Counted cells is_root used) (sym e) c)

pub brought-counted :
    (z : Call) (m : Machine) {used map : List Bool} → Brought z m used map → Counted m.cells is_root used → Counted (next z m).cells is_root map
unfolding Brought next apply act Still
brought-counted (SendString b buffer) m u c = updated-counted m.cells _ _ (string-apart b buffer m) u c
brought-counted (SetInputs w) m q c =
    same-counted (choose-by (Still m) (sound m) (λ _. choose-by (Still m) _ (λ _. refl) (λ _. refl)) (λ _. refl)) q c
brought-counted Millisecond m q c = same-counted (choose-by (Still m) (sound m) (λ _. refl) (λ _. refl)) q c
brought-counted Step m q c =
    same-counted (choose-by (Still m) (sound m) (λ _. choose-by (Still m) _ (λ _. refl) (λ _. refl)) (λ _. refl)) q c
brought-counted AtSpeed m q c =
    same-counted (choose-by (Still m) (sound m) (λ _. choose-by (Still m) _ (λ _. refl) (λ _. refl)) (λ _. refl)) q c
brought-counted Halted m q c =
    same-counted (choose-by (Still m) (sound m) (λ _. choose-by (Still m) _ (λ _. refl) (λ _. refl)) (λ _. refl)) q c
brought-counted (Wait n) m q c =
    same-counted (choose-by (Still m) (sound m) (λ _. choose-by (Still m) _ (λ _. refl) (λ _. refl)) (λ _. refl)) q c
