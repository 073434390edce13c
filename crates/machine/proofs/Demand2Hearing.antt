-- What is heard: no code but WN changes a cell, and a WN is silent, answered N, or answered Y and stored.
-- Assumes nothing.
use Prim.Native.Nat.{ℕ, ◌-◌, ◌<◌}
use native.Mathlib.Omega.{arith}
use mathlib.Core.Path.{◌≡◌, refl, ap, sym, ◌∙◌, subst}
use mathlib.Core.Bool.{Bool, true, false}
use mathlib.Core.Logic.{◌≢◌, ◌⊎◌, inl, inr, ⊎_elim}
use mathlib.Core.List.{List, [], nil≢cons}
use lib.Dec.{ltb}
use lib.ListN.{length, get_or}
use borrow.Author.Tests.{eqb-true}
use Rattle.std.specs.declared.option.Option.{Option}
use Rattle.std.specs.declared.option.Option.TheVariants.{Some, None}
use Rattle.laws.specs.Tests.{both, either}
use Rattle.laws.specs.Text.{bytes}
use Rattle.laws.proofs.Tests.{both_left, both_right, choose-by, choose-false}
use Rattle.fields.specs.Names.{pair_of}
use Rattle.fields.specs.declared.kinds.Kind.{Kind}
use Rattle.units.specs.declared.CellAddress.{CellAddress}
use Rattle.units.specs.declared.DriveAddress.{DriveAddress}
use Rattle.instruction.specs.Soundness.{cell_sound}
use Rattle.instruction.specs.declared.Cell.{Cell as Content}
use Rattle.machine.specs.Record.{idle}
use Rattle.machine.specs.Commands.{code_in, is_code, on_all, on_sent, store_in, preset_in, cam_with, cam_in, command_by, command_of}
use Rattle.machine.specs.Answers.{answer_of, accepted, rejected, answer_at}
use Rattle.machine.specs.Acting.{acted_at, cells_after, machine_after}
use Rattle.machine.specs.Strings.{Heard, heard, carried_out, body_of, header_of, addressed, is_stop, free, to_every, permitted, admitted}
use Rattle.machine.specs.Strings.{judged, is_start, allowed, unanswered, ended, told_in, told_by, told}
use Rattle.machine.specs.Demand2.{in_string, own_address, address_at}
use Rattle.machine.specs.declared.State.{State}
use Rattle.machine.specs.declared.Machine.{Machine}
use Rattle.machine.specs.declared.commands.StringAddress.{StringAddress}
use Rattle.machine.specs.declared.commands.Header.{Header}
use Rattle.machine.specs.declared.commands.Command.{Command}
use Rattle.machine.specs.declared.commands.Command.TheVariants.{Store, Wrong}
use Rattle.machine.proofs.Tests.{clash, by-test, either_first, second}
use Rattle.machine.proofs.Cells.{cell-from, cell-to}
use Rattle.machine.proofs.Ranges.{Fine, on-parsed, on-fields, command-fine}
use Rattle.machine.proofs.Hearing.{allowed-by}
use Rattle.machine.proofs.Addressing.{digits-front}
use Rattle.machine.proofs.WritingBack.{store-read}

-- ---- no code but WN stores

Leaves : Command → Type 0
Leaves c = (aa : StringAddress) (m : Machine) → (carried_out c aa m).machine.cells ≡ m.cells

wrong-leaves : Leaves Wrong
unfolding Leaves carried_out machine_after cells_after
wrong-leaves aa m = refl

on-all : (s : List ℕ) (ks : List Kind) (f : List ℕ → Command) → ((vs : List ℕ) → Leaves (f vs)) → Leaves (on_all ks s f)
unfolding on_all
on-all s ks f p = on-fields Leaves _ f (λ q e. p q.values) wrong-leaves

other-leaves : (s : List ℕ) → is_code "WN" (code_in s) ≡ false → Leaves (command_of s)
unfolding Leaves command_of command_by preset_in cam_in cam_with carried_out machine_after cells_after
other-leaves s w =
    choose-by Leaves _ (λ t. clash (sym w ∙ t)) (λ t.
    choose-by Leaves _ (λ t. on-parsed Leaves _ _ (λ p e. on-fields Leaves _ _ (λ q d aa m. refl) wrong-leaves) wrong-leaves) (λ t.
    choose-by Leaves _ (λ t. on-all s _ _ (λ vs aa m. refl)) (λ t.
    choose-by Leaves _ (λ t. on-all s _ _ (λ vs aa m. refl)) (λ t.
    choose-by Leaves _ (λ t. on-all s _ _ (λ vs aa m. refl)) (λ t.
    choose-by Leaves _ (λ t. on-all s _ _ (λ vs aa m. refl)) (λ t.
    choose-by Leaves _ (λ t. on-all s _ _ (λ vs aa m. refl)) (λ t.
    choose-by Leaves _ (λ t. choose-by Leaves _ (λ u aa m. refl) (λ u. on-all s _ _ (λ vs aa m. refl))) (λ t.
    choose-by Leaves _ (λ t. on-all s _ _ (λ vs aa m. refl)) (λ t.
    choose-by Leaves _ (λ t. on-all s _ _ (λ vs aa m. refl)) (λ t.
    choose-by Leaves _ (λ t. on-all s _ _ (λ vs aa m. refl)) (λ t.
    choose-by Leaves _ (λ t. on-all s _ _ (λ vs aa m. refl)) (λ t.
    choose-by Leaves _ (λ t. on-all s _ _ (λ vs aa m. refl)) (λ t.
    choose-by Leaves _ (λ t. on-all s _ _ (λ vs aa m. refl)) (λ t.
    choose-by Leaves _ (λ t. on-all s _ _ (λ vs aa m. refl)) (λ t.
    choose-by Leaves _ (λ t. on-all s _ _ (λ vs aa m. refl)) (λ t. wrong-leaves))))))))))))))))

unanswered-machine : (b : Bool) (h : Heard) → (unanswered b h).machine ≡ h.machine
unfolding unanswered
unanswered-machine true h = refl
unanswered-machine false h = refl

pub told-leaves : (b : List ℕ) (m : Machine) → is_code "WN" (code_in (body_of b)) ≡ false → (told b m).machine.cells ≡ m.cells
unfolding told told_by told_in judged Leaves
told-leaves b m w =
    let h = header_of (body_of b) in
    choose-by Same (ended b)
    (λ t. choose-by Same (admitted h m.state)
    (λ u. ap (λ (n : Machine). n.cells) (unanswered-machine (to_every h) _)
    ∙ allowed-by Leaves _ m.state (choose-by Leaves (ltb 64 (length b)) (λ u. wrong-leaves) (λ u. other-leaves (body_of b) w)) wrong-leaves _ m)
    (λ u. refl))
    (λ t. refl)
  where
    Same : Heard → Type 0
    Same h = h.machine.cells ≡ m.cells

-- ---- a WN is silent, answered N, or answered Y and stored

-- a WN says a cell at a place, or is wrong
abbrev Said : Command → Type 0
Said c = (c ≡ Wrong) ⊎ ((a : CellAddress) × ((d : Content) × (c ≡ Store a d)))

on-sent : (a : CellAddress) (x : Option Content) → Said (on_sent a x)
unfolding on_sent
on-sent a (Some d) = inr (a, (d, refl))
on-sent a None = inl refl

store-says : (s : List ℕ) → is_code "WN" (code_in s) ≡ true → Said (command_of s)
unfolding store_in
store-says s h = subst Said (sym (store-read s h)) (on-parsed Said _ _ (λ p t. on-sent _ _) (inl refl))

-- the drive after a WN
abbrev pub stored : Machine → CellAddress → Content → Machine
stored m a c = machine_after (Store a c) m

-- what a WN that is stored leaves
pub record Wrote (b : List ℕ) (m : Machine) (h : Heard) : Type 0 where
  pub place : ℕ
  pub within : place < 131
  pub content : Content
  pub taken : command_of (body_of b) ≡ Store (address_at place) content
  pub sound : cell_sound content ≡ true
  pub rests : idle m.state ≡ true
  pub left : h ≡ heard (accepted (own_address m)) (stored m (address_at place) content)

abbrev pub Written : List ℕ → Machine → Heard → Type 0
Written b m h = ((h.machine ≡ m) × (h.answer ≢ accepted (own_address m))) ⊎ Wrote b m h

pub no_answer : (aa : StringAddress) → [] ≢ accepted aa
unfolding accepted answer_of
no_answer aa e = nil≢cons (e ∙ digits-front aa.0 _)

not-accepted : (aa bb : StringAddress) → rejected aa ≢ accepted bb
unfolding accepted rejected answer_of bytes
not-accepted aa bb e =
    let z : ◌≡◌ {A = ℕ} 78 89 = ap (λ (l : List ℕ). get_or l 2 0) (sym (digits-front aa.0 _) ∙ e ∙ digits-front bb.0 _) in
    omega arith

-- what is no PS is allowed
pub other-allowed : (c : Command) (s : State) → is_start c ≡ false → allowed c s ≡ c
unfolding allowed both
other-allowed c s e = choose-false _ _ _ (rw e)

-- what is left of a command at the own address
abbrev Done : List ℕ → Machine → Command → Type 0
Done b m c = Written b m (carried_out c (own_address m) m)

wrong-written : (b : List ℕ) (m : Machine) → Done b m Wrong
unfolding carried_out answer_at machine_after acted_at cells_after
wrong-written b m = inl (refl, not-accepted (own_address m) (own_address m))

store-written :
    (b : List ℕ) (m : Machine) (a : CellAddress) (d : Content) → free m.state (header_of (body_of b)) ≡ true →
    command_of (body_of b) ≡ Store a d → Done b m (Store a d)
unfolding carried_out answer_at Fine free header_of command_of
store-written b m a d t e =
    let code = code_in (body_of b) in
    let f : Fine code (Store a d) = subst (Fine code) e (command-fine code (body_of b)) in
    let here : a ≡ address_at (a.0 - 100) =
    ap (λ (n : ℕ). record { 0 = n }) (omega (arith, cell-from a f.0)) in
    inr (record {
      place = a.0 - 100;
      within = omega (arith, cell-from a f.0, cell-to a f.0);
      content = d;
      taken = e ∙ ap (λ (x : CellAddress). Store x d) here;
      sound = f.1.0;
      rests = either_first _ _ t f.1.1;
      left = ap (λ (x : CellAddress). heard (accepted (own_address m)) (stored m x d)) here;
    })

judged-written :
    (b : List ℕ) (m : Machine) → is_code "WN" (code_in (body_of b)) ≡ true → free m.state (header_of (body_of b)) ≡ true →
    Done b m (allowed (judged b (body_of b)) m.state)
unfolding judged is_start
judged-written b m w t =
    let wrong = subst (Done b m) (sym (other-allowed Wrong m.state refl)) (wrong-written b m) in
    choose-by Allowed (ltb 64 (length b)) (λ u. wrong)
    (λ u. ⊎_elim (λ e. subst Allowed (sym e) wrong)
    (λ x. subst Allowed (sym x.1.1)
    (subst (Done b m) (sym (other-allowed (Store x.0 x.1.0) m.state refl)) (store-written b m x.0 x.1.0 t x.1.1)))
    (store-says (body_of b) w))
  where
    Allowed : Command → Type 0
    Allowed c = Done b m (allowed c m.state)

-- a WN is no string for every drive
store-own : (h : Header) → is_code "WN" h.code ≡ true → permitted h ≡ true → to_every h ≡ false
unfolding is_code permitted is_stop either pair_of bytes
store-own h w t = by-test (to_every h) (λ e. clash (sym (rw (e, eqb-true h.code _ w)) ∙ t)) (λ e. e)

own-address : (own : DriveAddress) (h : Header) → addressed own h ≡ true → to_every h ≡ false → h.address ≡ in_string own.0
unfolding addressed
own-address own h t e = ap in_string (eqb-true _ _ (either_first _ _ (both_right _ _ t) e))

pub told-written : (b : List ℕ) (m : Machine) → is_code "WN" (code_in (body_of b)) ≡ true → Written b m (told b m)
unfolding told told_by told_in admitted unanswered header_of
told-written b m w =
    choose-by (Written b m) (ended b)
    (λ t. choose-by (Written b m) _ heeded (λ u. inl (refl, no_answer (own_address m))))
    (λ t. inl (refl, no_answer (own_address m)))
  where
    h : Header
    h = header_of (body_of b)

    k : Command
    k = allowed (judged b (body_of b)) m.state

    heeded : admitted h m.state ≡ true → Written b m (unanswered (to_every h) (carried_out k h.address m))
    heeded t =
        let every = store-own h w (both_right _ _ (both_right _ _ t)) in
        let aa = own-address m.state.presets.address h (both_left _ _ t) every in
        subst (λ (x : Bool). Written b m (unanswered x (carried_out k h.address m))) (sym every)
        (subst (λ (n : StringAddress). Written b m (carried_out k n m)) (sym aa) (judged-written b m w (second _ _ _ t)))
