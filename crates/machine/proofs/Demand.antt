-- Demand 3, proved.
-- Assumes nothing.
use Prim.Native.Nat.{ℕ, ◌≤◌}
use native.Mathlib.Decide.{ℕ_discrete}
use native.Mathlib.Omega.{arith}
use mathlib.Core.Path.{◌≡◌, refl, ap, sym, ◌∙◌, subst}
use mathlib.Core.Bool.{true}
use mathlib.Core.Logic.{◌≢◌}
use mathlib.Core.List.{List, [], ◌∷◌, map, Memᴰ, head-eq_of_cons-eq, nil≢cons}
use lib.ListN.{replicate}
use borrow.Author.Tests.{lt-ltb}
use Rattle.laws.specs.Tests.{both}
use Rattle.laws.specs.Tables.{every}
use Rattle.laws.proofs.Tests.{both_right, both_true}
use Rattle.machine.specs.Record.{idle}
use Rattle.machine.specs.Answers.{answer_of}
use Rattle.machine.specs.Strings.{silent}
use Rattle.machine.specs.Calls.{Call, Outcome, Seen, is_byte, proper, answered, apply, look, seen}
use Rattle.machine.specs.Reading.{Request, requests, request_text, ask, reading}
use Rattle.machine.specs.Reading.Request.{Position}
use Rattle.machine.specs.Demand3.{Begun, Reached, Alike, Demand3}
use Rattle.machine.specs.declared.Machine.{Machine}
use Rattle.machine.proofs.Images.{loaded-restores}
use Rattle.machine.proofs.Invariant.{Good, good-fresh, restored-good, good-after}
use Rattle.machine.proofs.Members.{every-member, every_map, every_append}
use Rattle.machine.proofs.Addressing.{own, string, tens, ones, addressed_to, digits-front, told-other}
use Rattle.machine.proofs.Requests.{sendable, requests-sendable, position-asked}
use Rattle.machine.proofs.Answering.{answers, answer_to, own-small, apply-string, apply-ask, ask-is}
use Rattle.machine.proofs.Readings.{machines-same}
use Rattle.machine.proofs.WritingBack.{all_back}

begun-good : (m : Machine) → Begun m → Good m
begun-good m (Begun.made address small) = good-fresh address small
begun-good n (Begun.loaded image m e) = restored-good image m (loaded-restores image m e)

reached-good : (m : Machine) → Reached m → Good m
reached-good m r = subst Good r.made (good-after r.calls _ (begun-good r.start r.begun))

-- ---- the reading as a list of calls

-- the whole reading, taken at a drive's address
unfoldable whole : Machine → List Call
whole m = map (ask (own m)) requests

blank-bytes : every is_byte (replicate 64 0) ≡ true
unfolding every is_byte both
blank-bytes = refl

ask-bytes : (aa : ℕ) (r : Request) → aa ≤ 47 → Memᴰ r requests → every is_byte (string (addressed_to aa (request_text r))) ≡ true
unfolding every is_byte sendable
ask-bytes aa r h q =
    both_true (lt-ltb (tens aa) 256 (omega arith))
    (both_true (lt-ltb (ones aa) 256 (omega arith))
    (every_append is_byte (request_text r) (13 ∷ [])
    (both_right _ _ (every-member sendable q requests-sendable)) (both_true (lt-ltb 13 256 (omega arith)) refl)))

ask-proper : (aa : ℕ) (r : Request) → aa ≤ 47 → Memᴰ r requests → proper (ask aa r) ≡ true
unfolding proper
ask-proper aa r h q = ap proper (ask-is aa r) ∙ both_true (ask-bytes aa r h q) blank-bytes

whole-proper : (m : Machine) → Good m → every proper (whole m) ≡ true
unfolding whole
whole-proper m g = every_map proper (ask (own m)) requests (λ r q. ask-proper (own m) r (own-small m g) q)

reading-seen : (m n : Machine) → own m ≡ own n → seen (whole m) m ≡ seen (whole m) n → reading m ≡ reading n
unfolding reading whole
reading-seen m n a e = ap answers e ∙ ap (λ (k : ℕ). answers (seen (map (ask k) requests) n)) a

-- ---- two addresses

-- one request at a drive's address
asked_position : Machine → List Call
asked_position m = ask (own m) Position ∷ []

silent-other : (aa : ℕ) (r : Request) (m : Machine) → Good m → aa ≤ 47 → aa ≢ own m → apply (ask aa r) m ≡ answered (silent m)
silent-other aa r m g h n =
    ap (λ (c : Call). apply c m) (ask-is aa r) ∙ apply-string _ _ m g refl ∙ ap answered (told-other aa (request_text r) m h n)

-- a request at the first drive's address tells two of different addresses apart
other-address :
    (m n : Machine) → Good m → Good n → idle m.state ≡ true → own m ≢ own n →
    seen (asked_position m) m ≢ seen (asked_position m) n
unfolding asked_position seen look answer_to answer_of
other-address m n g h i d e =
    nil≢cons
    (sym (ap (λ (o : Outcome). o.answer) (silent-other (own m) Position n h (own-small m g) d))
    ∙ sym (ap (λ (s : Seen). s.answer) (head-eq_of_cons-eq e))
    ∙ ap (λ (o : Outcome). o.answer) (apply-ask Position m position-asked g i)
    ∙ digits-front (own m) _)

position-proper : (m : Machine) → Good m → every proper (asked_position m) ≡ true
unfolding asked_position every
position-proper m g = both_true (ask-proper (own m) Position (own-small m g) position-asked) refl

alike-address : (m n : Machine) → Good m → Good n → idle m.state ≡ true → Alike m n → own m ≡ own n
alike-address m n g h i e = by (ℕ_discrete (own m) (own n))
  where
    by : Dec (own m ≡ own n) → own m ≡ own n
    by (yes a) = a
    by (no d) = absurd (other-address m n g h i d (e (asked_position m) (position-proper m g)))

-- ---- the three parts

same_alike : (m n : Machine) → Reached m → Reached n → reading m ≡ reading n → Alike m n
same_alike m n r t e zs p = ap (seen zs) (machines-same m n (reached-good m r) (reached-good n t) r.rests t.rests e)

alike_same : (m n : Machine) → Reached m → Reached n → Alike m n → reading m ≡ reading n
alike_same m n r t e =
    let g = reached-good m r in
    reading-seen m n (alike-address m n g (reached-good n t) r.rests e) (e (whole m) (whole-proper m g))

abbrev Apart : Machine → Machine → Type 0
Apart m n = (zs : List Call) × ((every proper zs ≡ true) × (seen zs m ≢ seen zs n))

told-apart : (m n : Machine) → Reached m → Reached n → reading m ≢ reading n → Apart m n
told-apart m n r t d = by (ℕ_discrete (own m) (own n))
  where
    by : Dec (own m ≡ own n) → Apart m n
    by (yes a) = (whole m, (whole-proper m (reached-good m r), λ e. d (reading-seen m n a e)))
    by (no a) = (
      asked_position m,
      (position-proper m (reached-good m r), other-address m n (reached-good m r) (reached-good n t) r.rests a),
    )

pub demand3 : Demand3
demand3 =
    record {
      exactly = λ m n r t. (same_alike m n r t, alike_same m n r t);
      apart = told-apart;
      returned = λ m r ws p zs q. ap (seen zs) (all_back m (reached-good m r) r.rests ws p);
    }
