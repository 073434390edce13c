-- What the words come to that need the whole drive: a string and a wait.
-- Assumes nothing.
use Prim.Native.Nat.{ℕ, suc, ◌+◌, ◌-◌, ◌<◌, ◌≤◌}
use native.Mathlib.Omega.{arith}
use mathlib.Core.Path.{◌≡◌, refl, sym, ap, ◌∙◌}
use mathlib.Core.Bool.{true, false}
use mathlib.Core.List.{List, [], ◌∷◌, ◌++◌}
use lib.Dec.{ltb}
use lib.ListN.{length, set, take, drop, replicate, length-append, length-drop, length-replicate}
use lib.Seq.{sets, set_comm, length-take-le}
use borrow.Author.Tests.{lt-ltb, le-ltb}
use Rattle.std.specs.Prelude.{Option, Some, None, Result, Ok, Err, IsOk}
use Rattle.laws.specs.Writing.{Put}
use Rattle.laws.proofs.Tests.{choose-true, choose-false}
use Rattle.laws.proofs.Writing.{put_as}
use Rattle.machine.specs.Soundness.{sound}
use Rattle.machine.specs.Calls.{Outcome, Shown, refused, act, apply, next, look, after}
use Rattle.machine.specs.Calls.Call.{SendString, Wait}
use Rattle.machine.specs.Operations.{filled}
use Rattle.machine.specs.declared.Machine.{Machine}
use Rattle.operations.specs.Results.{number_of, told_length, heard_as, Answering, shown_during, ending_as, waited_as}
use Rattle.operations.specs.declared.results.Ending.{Ending}
use Rattle.operations.specs.declared.results.Refusal.{Refusal}
use Rattle.operations.specs.declared.results.Refusal.TheVariants.{AddressAbove47, Unsound, ShortBuffer, WordAbove2047, NoRunUnderWay, ReportOutOfPlace, BudgetOutOfRange}
use Rattle.lines.proofs.Lending.{put-part}
use Rattle.encoding.specs.Numbers.{number_bytes}
use Rattle.encoding.specs.Words.{size_of}
use Rattle.encoding.specs.declared.Head.{Head}
use Rattle.encoding.specs.declared.Head.TheVariants.{Text}
use Rattle.seen.specs.Bytes.{ending_bytes, ended_as, call_bytes}
use Rattle.lists.specs.Listing.{string_of, whole_word, word_calls, word_next, word_seen}
use Rattle.lists.specs.Listing.Word.{Called}
use Rattle.lists.specs.Giving.{Carries}
use Rattle.lists.proofs.Small.{applied, carries-as}

-- ---- waits

-- an end has five bytes
pub ending-length : (e : Option Ending) → length (ending_bytes (ended_as e)) ≡ 5
unfolding ending_bytes ending_as ended_as number_bytes
ending-length None = refl
ending-length (Some e) = refl

module _
    (n : ℕ) (m : Machine) {r : Result Ending Refusal} {m' : Machine} {before later : List ℕ} {a e : ℕ} (t : sound m ≡ true)
    (q : waited_as r m' (shown_during n m) ≡ act (Wait n) m)
  where
    -- the bytes of an end do not tell what was shown meanwhile
    pub wait-taken : {x : Ending} → r ≡ Ok x → Put before later (0 ∷ ending_bytes (ended_as (Some x))) a e → Carries (Called (Wait n)) m m' before later a e
    unfolding word_next word_calls word_seen after next look call_bytes waited_as ending_bytes ending_as ended_as
    wait-taken f b =
        let o = ap (λ (z : Result Ending Refusal). waited_as z m' (shown_during n m)) (sym f) ∙ q ∙ sym (applied (Wait n) m t) in
        record { machine = ap (λ (y : Outcome). y.machine) o; bytes = put_as (ap (λ (y : Outcome). y.refusal ∷ ending_bytes y.ending) o) b }

    pub wait-refused : {x : Refusal} → r ≡ Err x → Put before later (number_of x ∷ ending_bytes (ended_as None)) a e → Carries (Called (Wait n)) m m' before later a e
    unfolding word_next word_calls word_seen after next look call_bytes waited_as ended_as
    wait-refused f b =
        let o = ap (λ (z : Result Ending Refusal). waited_as z m' (shown_during n m)) (sym f) ∙ q ∙ sym (applied (Wait n) m t) in
        record { machine = ap (λ (y : Outcome). y.machine) o; bytes = put_as (ap (λ (y : Outcome). y.refusal ∷ ending_bytes y.ending) o) b }

-- ---- strings

-- a string whose own buffer is too short
pub string-refused :
    (text : List ℕ) (room : ℕ) (m : Machine) {before later : List ℕ} {a e : ℕ} → sound m ≡ true → room < 64 → Put before later (3 ∷ 0 ∷ []) a e →
    Carries (Called (SendString text (replicate room 0))) m m before later a e
unfolding word_next word_calls word_seen after next look call_bytes act
string-refused text room m t h b =
    let z : List ℕ = replicate room 0 in
    let l : ltb (length z) 64 ≡ true = rw (length-replicate {A = ℕ} room 0) (lt-ltb _ _ h) in
    let o : refused 3 m ≡ apply (SendString text (replicate room 0)) m = sym (applied _ m t ∙ choose-true _ _ _ l) in
    record { machine = ap (λ (y : Outcome). y.machine) o; bytes = put_as (ap (λ (y : Outcome). y.refusal ∷ length y.answer ∷ y.answer) o) b }

-- any two buffers that are long enough are alike
long-alike :
    (text x y : List ℕ) (m : Machine) → ltb (length x) 64 ≡ false → ltb (length y) 64 ≡ false → act (SendString text x) m ≡ act (SendString text y) m
unfolding act
long-alike text x y m p q = choose-false _ _ _ p ∙ sym (choose-false _ _ _ q)

-- an answer at the front of a part fits it
pub answer-within : (answer part later : List ℕ) → length later ≡ length part → later ≡ filled answer part → length answer ≤ length part
unfolding filled
answer-within answer part later n q =
    let z : length later ≡ length answer + length (drop (length answer) part) = ap length q ∙ length-append answer (drop (length answer) part) in
    omega (arith, z, n)

-- a byte before what was written stays before it
set-sets : (p l : List ℕ) (i j x : ℕ) → i < j → set (sets l j p) i x ≡ sets (set l i x) j p
set-sets [] l i j x h = refl
set-sets (y ∷ p) l i j x h =
    set-sets p (set l j y) i (suc j) x (omega arith)
    ∙ ap (λ (z : List ℕ). sets z (suc j) p) (set_comm l j i y x (λ (e : j ≡ i). omega arith))

-- the answer written where it stays, then the two bytes before it
pub string-put :
    {l mid later : List ℕ} {p : List ℕ} {r n a b e : ℕ} → Put l mid p (a + 2) b → later ≡ set (set mid a r) (a + 1) n → e ≡ a + 2 + length p →
    Put l later (r ∷ n ∷ p) a e
string-put {l} {mid} {later} {p} {r} {n} {a} {b} {e} w q t =
    let u : a + 2 ≡ suc (suc a) = omega arith in
    let v : a + 1 ≡ suc a = omega arith in
    record {
      next = omega arith;
      now = q ∙ ap (λ (x : List ℕ). set (set x a r) (a + 1) n) w.now
          ∙ ap (λ (x : List ℕ). set x (a + 1) n) (set-sets p l a (a + 2) r (omega arith))
          ∙ set-sets p (set l a r) (a + 1) (a + 2) n (omega arith)
          ∙ ap (λ (k : ℕ). sets (set (set l a r) k n) (a + 2) p) v
          ∙ ap (λ (k : ℕ). sets (set (set l a r) (suc a) n) k p) u;
    }

-- each refusal has a number
refusal-some : (r : Refusal) → 1 ≤ number_of r
unfolding number_of
refusal-some AddressAbove47 = omega arith
refusal-some Unsound = omega arith
refusal-some ShortBuffer = omega arith
refusal-some WordAbove2047 = omega arith
refusal-some NoRunUnderWay = omega arith
refusal-some ReportOutOfPlace = omega arith
refusal-some BudgetOutOfRange = omega arith

heard-ok : (x : Result ℕ Refusal) (next : Machine) (answer : List ℕ) → (heard_as x next answer).refusal ≡ 0 → IsOk x
unfolding heard_as
heard-ok (Ok n) next answer e = refl
heard-ok (Err r) next answer e = absurd (omega (arith, e, refusal-some r))

-- what `operations::signals::string` hands back of a part of 64 bytes, which is lent from the place after the two bytes on
module _ (text l ys : List ℕ) (room a k : ℕ) (m next : Machine) {x : Result ℕ Refusal} (hl : a + 66 ≤ length l) (hk : k ≡ 64) (hr : 64 ≤ room)
    (t : sound m ≡ true) (n : length ys ≡ length (take k (drop (a + 2) l)))
    (v : Answering x next (take k (drop (a + 2) l)) ys (act (SendString text (take k (drop (a + 2) l))) m)) where
  abbrev part : List ℕ
  part = take k (drop (a + 2) l)

  size : length part ≡ 64
  size = length-take-le k (drop (a + 2) l) (rw (length-drop (a + 2) l) (omega arith)) ∙ hk

  lent : act (SendString text part) m ≡ act (SendString text (replicate room 0)) m
  lent = long-alike text part (replicate room 0) m (rw size) (rw (length-replicate {A = ℕ} room 0) (le-ltb _ _ hr))

  pub answer-short : {c : ℕ} → x ≡ Ok c → c ≤ 64
  unfolding told_length
  answer-short {c} f =
      let w = answer-within (act (SendString text part) m).answer part ys n v.bytes in
      let count : c ≡ length (act (SendString text part) m).answer = ap told_length (sym f) ∙ v.count in
      omega (arith, count, w, size)

  -- 64 bytes are enough
  pub not-refused : IsOk x
  unfolding act
  not-refused = heard-ok x next _ (ap (λ (y : Outcome). y.refusal) (v.outcome ∙ choose-false _ _ _ (rw size)))

  pub string-carried :
      {later : List ℕ} {e c : ℕ} → x ≡ Ok c → later ≡ set (set (take (a + 2) l ++ (ys ++ drop k (drop (a + 2) l))) a 0) (a + 1) c → e ≡ a + 2 + c →
      Carries (Called (SendString text (replicate room 0))) m next l later a e
  unfolding word_next word_calls word_seen after next look call_bytes filled told_length heard_as
  string-carried {later} {e} {c} f q s =
      let answer = (act (SendString text part) m).answer in
      let o : act (SendString text part) m ≡ apply (SendString text (replicate room 0)) m = lent ∙ sym (applied _ m t) in
      let w = answer-within answer part ys n v.bytes in
      let p = put-part l (a + 2) k answer ys (omega arith) (omega (arith, w, size, hk)) v.bytes in
      let count : c ≡ length answer = ap told_length (sym f) ∙ v.count in
      let heard = ap (λ (z : Result ℕ Refusal). heard_as z next answer) (sym f) ∙ v.outcome in
      record {
        machine = ap (λ (y : Outcome). y.machine) (heard ∙ o);
        bytes = put_as
            (ap (λ (i : ℕ). 0 ∷ i ∷ answer) count
            ∙ ap (λ (y : Outcome). y.refusal ∷ length answer ∷ answer) heard
            ∙ ap (λ (y : Outcome). y.refusal ∷ length y.answer ∷ y.answer) o)
            (string-put p q (s ∙ ap (λ (i : ℕ). a + 2 + i) count));
      }

-- the text is what the word has behind its four bytes
pub text-carried :
    {h : Head} {room n : ℕ} (word : List ℕ) {m m' : Machine} {before later : List ℕ} {a e : ℕ} → h ≡ Text room n → length word ≡ size_of h →
    Carries (Called (SendString (take (length word - 4) (drop 4 word)) (replicate room 0))) m m' before later a e →
    Carries (whole_word h word) m m' before later a e
unfolding size_of whole_word string_of
text-carried {h} {room} {n} word q z c =
    let k : length word - 4 ≡ n = omega (arith, z, ap size_of q) in
    carries-as
    (ap (λ (i : ℕ). Called (SendString (take i (drop 4 word)) (replicate room 0))) k ∙ sym (ap (λ (x : Head). whole_word x word) q)) c
