-- Calls written as the words of a list: each word is read as it was written, and comes to what its call comes to.
-- Assumes nothing.
use Prim.Native.Nat.{ℕ, ◌+◌, ◌-◌, ◌≤◌}
use native.Mathlib.Omega.{arith}
use mathlib.Core.Path.{◌≡◌, refl, sym, ap, ◌∙◌}
use mathlib.Core.Bool.{true}
use mathlib.Core.List.{List, [], ◌∷◌, ◌++◌}
use lib.Dec.{ltb}
use lib.ListN.{length, drop, replicate, length-append, length-replicate}
use lib.Seq.{take-append_seam, drop-append_seam}
use borrow.Author.Tests.{ltb-true}
use Rattle.laws.specs.Tests.{choose}
use Rattle.laws.specs.Tables.{every}
use Rattle.laws.proofs.Tests.{both_left, both_right}
use Rattle.machine.specs.Soundness.{sound}
use Rattle.machine.specs.Strings.{told as heard}
use Rattle.machine.specs.Calls.{Call, Outcome, Seen, refused, answered, act, apply, next, look, after, seen, shown}
use Rattle.machine.specs.Calls.Call.{SendString, SetInputs, Millisecond, Step, AtSpeed, Halted, Wait}
use Rattle.machine.specs.declared.Machine.{Machine}
use Rattle.encoding.specs.Numbers.{pair_bytes, number_bytes}
use Rattle.encoding.specs.Words.{head_with, head_of, size_of, room_of}
use Rattle.encoding.specs.Refusing.{refusal_from, refusal_of}
use Rattle.encoding.specs.declared.Head.{Head}
use Rattle.encoding.specs.declared.Head.TheVariants as head
use Rattle.std.specs.Prelude.{Ok}
use Rattle.encoding.proofs.Places.{pair-after, number-after}
use Rattle.encoding.proofs.Turns.{part_left, checked-start, passed}
use Rattle.seen.specs.Bytes.{call_bytes}
use Rattle.lists.specs.Listing.{Word, string_of, word_of, words_from, words_of, word_calls, word_next, word_seen, calls_of, bytes_of}
use Rattle.lists.specs.Listing.Word.{Called}
use Rattle.lists.specs.WholeLists.{WholeLists, call_word, encode, fits, call_room, room_needed, told}
use Rattle.lists.proofs.Words.{turn}
use Rattle.lists.proofs.Lists.{words-after}

-- ---- a string's own buffer counts by its length only

-- the call that a word is read as: zeros in the buffer
unfoldable plain : Call → Call
plain (SendString text buffer) = SendString text (replicate (length buffer) 0)
plain (SetInputs w) = SetInputs w
plain Millisecond = Millisecond
plain Step = Step
plain AtSpeed = AtSpeed
plain Halted = Halted
plain (Wait n) = Wait n

plain-applied : (c : Call) (m : Machine) → apply (plain c) m ≡ apply c m
unfolding plain apply act
plain-applied (SendString text buffer) m =
    ap (λ (n : ℕ). choose (sound m) (choose (ltb n 64) (refused 3 m) (answered (heard text m))) (refused 2 m)) (length-replicate {A = ℕ} (length buffer) 0)
plain-applied (SetInputs w) m = refl
plain-applied Millisecond m = refl
plain-applied Step m = refl
plain-applied AtSpeed m = refl
plain-applied Halted m = refl
plain-applied (Wait n) m = refl

plain-next : (c : Call) (m : Machine) → next (plain c) m ≡ next c m
unfolding next
plain-next c m = ap (λ (y : Outcome). y.machine) (plain-applied c m)

plain-bytes : (c : Call) (s : Seen) → call_bytes (plain c) s ≡ call_bytes c s
unfolding plain call_bytes
plain-bytes (SendString text buffer) s = refl
plain-bytes (SetInputs w) s = refl
plain-bytes Millisecond s = refl
plain-bytes Step s = refl
plain-bytes AtSpeed s = refl
plain-bytes Halted s = refl
plain-bytes (Wait n) s = refl

plain-seen : (c : Call) (m : Machine) → call_bytes (plain c) (look (plain c) m) ≡ call_bytes c (look c m)
unfolding look
plain-seen c m =
    plain-bytes c (look (plain c) m)
    ∙ ap (λ (y : Outcome). call_bytes c (record { refusal = y.refusal; answer = y.answer; ending = y.ending; shown = shown y.machine })) (plain-applied c m)

-- ---- a word is read as it was written

unfoldable head_for : Call → Head
head_for (SendString text buffer) = head.Text (length buffer) (length text)
head_for (SetInputs w) = head.Inputs w
head_for Millisecond = head.Millisecond
head_for Step = head.Step
head_for AtSpeed = head.AtSpeed
head_for Halted = head.Halted
head_for (Wait n) = head.Wait n

-- whatever follows it
word-head : (c : Call) (l : List ℕ) → fits c ≡ true → head_of (call_word c ++ l) ≡ head_for c
unfolding call_word head_for fits head_of head_with choose pair_bytes number_bytes
word-head (SendString text buffer) l t =
    ap (λ (n : ℕ). head.Text (length buffer) n) (pair-after (83 ∷ length buffer ∷ []) (length text) (text ++ l) (ltb-true _ _ (both_left _ _ t)))
word-head (SetInputs w) l t = ap head.Inputs (pair-after (73 ∷ []) w l (ltb-true _ _ t))
word-head Millisecond l t = refl
word-head Step l t = refl
word-head AtSpeed l t = refl
word-head Halted l t = refl
word-head (Wait n) l t = ap head.Wait (number-after (87 ∷ []) n l (ltb-true _ _ t))

word_size : (c : Call) → size_of (head_for c) ≡ length (call_word c)
unfolding call_word head_for size_of pair_bytes number_bytes
word_size (SendString text buffer) = omega arith
word_size (SetInputs w) = refl
word_size Millisecond = refl
word_size Step = refl
word_size AtSpeed = refl
word_size Halted = refl
word_size (Wait n) = refl

word_some : (c : Call) → 1 ≤ length (call_word c)
unfolding call_word
word_some (SendString text buffer) = omega arith
word_some (SetInputs w) = omega arith
word_some Millisecond = omega arith
word_some Step = omega arith
word_some AtSpeed = omega arith
word_some Halted = omega arith
word_some (Wait n) = omega arith

word_room : (c : Call) → call_room c ≡ room_of (head_for c)
unfolding head_for room_of call_room
word_room (SendString text buffer) = refl
word_room (SetInputs w) = refl
word_room Millisecond = refl
word_room Step = refl
word_room AtSpeed = refl
word_room Halted = refl
word_room (Wait n) = refl

word-told : (c : Call) (l : List ℕ) → word_of (head_for c) (call_word c ++ l) ≡ Called (plain c)
unfolding call_word head_for plain word_of string_of pair_bytes
word-told (SendString text buffer) l = ap (λ (x : List ℕ). Called (SendString x (replicate (length buffer) 0))) (take-append_seam text l)
word-told (SetInputs w) l = refl
word-told Millisecond l = refl
word-told Step l = refl
word-told AtSpeed l = refl
word-told Halted l = refl
word-told (Wait n) l = refl

-- ---- a call's word in front of a list

module _ (c : Call) (l : List ℕ) (t : fits c ≡ true) where
  abbrev list : List ℕ
  list = call_word c ++ l

  size-here : size_of (head_of list) ≡ length (call_word c)
  size-here = ap size_of (word-head c l t) ∙ word_size c

  words-call : words_of list ≡ Called (plain c) ∷ words_of l
  unfolding words_of
  words-call =
      turn list (omega (arith, word_some c, length-append (call_word c) l)) (omega (arith, word_some c, size-here))
      ∙ ap (λ (h : Head). word_of h list ∷ words_from 0 (drop (size_of (head_of list)) list)) (word-head c l t)
      ∙ ap (λ (w : Word). w ∷ words_from 0 (drop (size_of (head_of list)) list)) (word-told c l)
      ∙ ap (λ (k : ℕ). Called (plain c) ∷ words_from 0 (drop k list)) size-here
      ∙ ap (λ (x : List ℕ). Called (plain c) ∷ words_from 0 x) (drop-append_seam (call_word c) l)

  -- the drive after it, and what is seen of it
  after_call : (m : Machine) → after (calls_of (words_of list) m) m ≡ after (calls_of (words_of l) (next c m)) (next c m)
  unfolding word_next word_calls after
  after_call m =
      ap (λ (ws : List Word). after (calls_of ws m) m) words-call ∙ words-after (Called (plain c)) (words_of l) m
      ∙ ap (λ (y : Machine). after (calls_of (words_of l) y) y) (plain-next c m)

  bytes-call : (m : Machine) → bytes_of (words_of list) m ≡ call_bytes c (look c m) ++ bytes_of (words_of l) (next c m)
  unfolding bytes_of word_seen word_next word_calls after
  bytes-call m =
      ap (λ (ws : List Word). bytes_of ws m) words-call ∙ ap (λ (x : List ℕ). x ++ bytes_of (words_of l) (next (plain c) m)) (plain-seen c m)
      ∙ ap (λ (y : Machine). call_bytes c (look c m) ++ bytes_of (words_of l) y) (plain-next c m)

  -- it is taken where there is room for it
  refusal-call : (space : ℕ) → call_room c ≤ space → refusal_of (space - call_room c) l ≡ refusal_of space list
  unfolding refusal_of
  refusal-call space p =
      let n = length-append (call_word c) l in
      let s = word_some c in
      let k = length (call_word c) in
      let z : 0 + k ≡ k = omega arith in
      let q = passed (checked-start list space) (omega (arith, s, n))
      (sym (ap head_of (part_left list 0) ∙ word-head c l t)) (sym (word_size c)) (word_room c) (λ (e : k ≡ 0). omega (arith, s, e)) (omega (arith, n)) p in
      sym (ap (λ (x : List ℕ). refusal_from 0 (space - call_room c) x) (ap (λ (i : ℕ). drop i list) z ∙ drop-append_seam (call_word c) l)) ∙ q.rest

-- ---- whole lists

lists-after : (cs : List Call) (m : Machine) → every fits cs ≡ true → after (calls_of (words_of (encode cs)) m) m ≡ after cs m
unfolding every encode words_of words_from calls_of after
lists-after [] m t = refl
lists-after (c ∷ cs) m t = after_call c (encode cs) (both_left _ _ t) m ∙ lists-after cs (next c m) (both_right _ _ t)

lists-seen : (cs : List Call) (m : Machine) → every fits cs ≡ true → bytes_of (words_of (encode cs)) m ≡ told cs (seen cs m)
unfolding every encode words_of words_from bytes_of told seen
lists-seen [] m t = refl
lists-seen (c ∷ cs) m t =
    bytes-call c (encode cs) (both_left _ _ t) m ∙ ap (λ (x : List ℕ). call_bytes c (look c m) ++ x) (lists-seen cs (next c m) (both_right _ _ t))

lists-taken : (cs : List Call) (space : ℕ) → every fits cs ≡ true → room_needed cs ≤ space → refusal_of space (encode cs) ≡ Ok tt
unfolding every encode room_needed refusal_of refusal_from
lists-taken [] space t p = refl
lists-taken (c ∷ cs) space t p =
    sym (refusal-call c (encode cs) (both_left _ _ t) space (omega (arith, p))) ∙ lists-taken cs (space - call_room c) (both_right _ _ t) (omega (arith, p))

pub whole-lists : WholeLists
whole-lists = record { performs = λ cs m t. (lists-after cs m t, lists-seen cs m t); taken = lists-taken }
