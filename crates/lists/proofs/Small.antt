-- What the words come to that need no more of a drive than its state and the cells that it is at.
-- Assumes nothing.
use Prim.Native.Nat.{ℕ, ◌+◌, ◌≤◌}
use native.Mathlib.Omega.{arith}
use mathlib.Core.Path.{◌≡◌, refl, sym, ap, subst, ◌∙◌}
use mathlib.Core.Bool.{true}
use mathlib.Core.List.{List, [], ◌∷◌}
use Rattle.std.specs.Prelude.{Result, Ok, Err}
use Rattle.laws.specs.Writing.{Put}
use Rattle.laws.proofs.Tests.{choose-true}
use Rattle.laws.proofs.Writing.{put-none, put_as}
use Rattle.instruction.specs.declared.Cell.{Cell}
use Rattle.machine.specs.Soundness.{sound}
use Rattle.machine.specs.Record.{with_state, cell_at}
use Rattle.machine.specs.Milliseconds.{present, held, millisecond_at}
use Rattle.machine.specs.Orders.{order_at}
use Rattle.machine.specs.Calls.{Call, Outcome, done, act, apply, next, look, after, shown, shown_at}
use Rattle.machine.specs.Calls.Call.{Millisecond}
use Rattle.machine.specs.Calls.Ending.{NoWait}
use Rattle.machine.specs.Invariant.{Kept}
use Rattle.machine.specs.declared.State.{State}
use Rattle.machine.specs.declared.Machine.{Machine}
use Rattle.machine.specs.declared.answers.BoardOrder.{BoardOrder}
use Rattle.operations.specs.Results.{acted_on}
use Rattle.operations.specs.declared.results.Refusal.{Refusal}
use Rattle.operations.proofs.Acting.{time-at, order-at}
use Rattle.encoding.specs.Numbers.{number_bytes}
use Rattle.encoding.specs.Words.{room_of}
use Rattle.encoding.specs.declared.Head.{Head}
use Rattle.seen.specs.Bytes.{shown_bytes, call_bytes}
use Rattle.travel.specs.Travel.{Travels}
use Rattle.travel.specs.declared.Travelled.{Travelled}
use Rattle.lists.specs.Listing.{Word, word_calls, word_next, word_seen}
use Rattle.lists.specs.Listing.Word.{Nothing, Called, Order, Travel}
use Rattle.lists.specs.Giving.{Carries, refusal_in, state_after}

abbrev pub drive : List Cell → State → Machine
drive cells s = record { state = s; cells = cells }

-- what a call comes to on a sound drive
pub applied : (c : Call) (m : Machine) → sound m ≡ true → apply c m ≡ act c m
unfolding apply
applied c m t = choose-true (sound m) _ _ t

-- the same word, given in another form
pub carries-as : {w v : Word} {m m' : Machine} {before later : List ℕ} {a e : ℕ} → w ≡ v → Carries w m m' before later a e → Carries v m m' before later a e
carries-as {w} {v} {m} {m'} {before} {later} {a} {e} q c = subst (λ (x : Word). Carries x m m' before later a e) q c

-- nothing is done and nothing seen
pub nothing-carried : (m : Machine) (l : List ℕ) (a : ℕ) → Carries Nothing m m l l a a
unfolding word_next word_calls word_seen after
nothing-carried m l a = record { machine = refl; bytes = put-none l a }

-- so of a word that is not among those that a function carries out
pub unseen :
    (f : Head → Word) {h x : Head} {m : Machine} {l : List ℕ} {a : ℕ} → h ≡ x → Nothing ≡ f x → Carries (f h) m m l l a a × (a ≤ a + room_of h)
unseen f {h} {x} {m} {l} {a} e q = (carries-as (q ∙ sym (ap f e)) (nothing-carried m l a), omega arith)

-- a millisecond, at the cells that the drive is at
pub tick-acted :
    (cells : List Cell) (s : State) {c h : Cell} {r : State} → present cells s ≡ c → cell_at cells s.suspended.cell ≡ h → r ≡ millisecond_at s c h →
    acted_on (drive cells s) (Ok r) ≡ act Millisecond (drive cells s)
unfolding held act acted_on
tick-acted cells s p q e = ap (λ (x : State). done (drive cells x)) (time-at cells s p q e)

-- an event, by what is told of it and the state after it
acted-parts :
    (m : Machine) (x : Result State Refusal) →
    acted_on m x ≡ record { refusal = refusal_in x; answer = []; ending = NoWait; machine = with_state m (state_after m.state x) }
unfolding acted_on refusal_in state_after
acted-parts m (Ok s) = refl
acted-parts m (Err r) = refl

module _ {cells : List Cell} {s r : State} {before later : List ℕ} {a e : ℕ} (k : Kept (drive cells s)) where
  -- an event, of which its refusal is seen
  pub event-carried :
      (c : Call) (x : Result State Refusal) → call_bytes c (look c (drive cells s)) ≡ (look c (drive cells s)).refusal ∷ [] →
      acted_on (drive cells s) x ≡ act c (drive cells s) → r ≡ state_after s x → Put before later (refusal_in x ∷ []) a e →
      Carries (Called c) (drive cells s) (drive cells r) before later a e
  unfolding word_next word_calls word_seen after next look
  event-carried c x b q t p =
      let o = sym (acted-parts (drive cells s) x) ∙ q ∙ sym (applied c (drive cells s) k.sound) in
      record {
        machine = ap (drive cells) t ∙ ap (λ (y : Outcome). y.machine) o;
        bytes = put_as (ap (λ (y : Outcome). y.refusal ∷ []) o ∙ sym b) p;
      }

  -- the order at the present cell, and the outputs
  pub order-carried :
      {c : Cell} → present cells s ≡ c → r ≡ s → Put before later (0 ∷ shown_bytes (record { order = order_at s c; outputs = s.outputs })) a e →
      Carries Order (drive cells s) (drive cells r) before later a e
  unfolding word_next word_calls word_seen after shown shown_at
  order-carried {c} q t p =
      record {
        machine = ap (drive cells) t;
        bytes = put_as (ap (λ (o : BoardOrder). 0 ∷ shown_bytes (record { order = o; outputs = s.outputs })) (order-at cells s q refl)) p;
      }

  -- steps, of which is seen how many there were
  pub travel-carried :
      (limit : ℕ) (x : Travelled) → Travels limit (drive cells s) x → r ≡ x.state → Put before later (0 ∷ number_bytes x.given) a e →
      Carries (Travel limit) (drive cells s) (drive cells r) before later a e
  unfolding word_next word_calls word_seen
  travel-carried limit x v t p =
      record {
        machine = ap (drive cells) t ∙ v.drive;
        bytes = put_as (ap (λ (n : ℕ). 0 ∷ number_bytes n) v.given) p;
      }
