-- The words of a list, carried out one after another: those that remain lead where all of them lead.
-- Assumes nothing.
use Prim.Native.Nat.{ℕ, ◌+◌, ◌-◌, ◌<◌, ◌≤◌}
use native.Mathlib.Omega.{arith}
use mathlib.Core.Path.{◌≡◌, refl, sym, ap, ◌∙◌}
use mathlib.Core.Bool.{true, false}
use mathlib.Core.List.{List, ◌++◌}
use lib.ListN.{length, take, drop, length-drop, length-append}
use lib.Seq.{sets, length-sets, length-take-le}
use Rattle.laws.specs.Writing.{Put}
use Rattle.laws.proofs.Writing.{sets-append}
use Rattle.machine.specs.Calls.{after}
use Rattle.machine.specs.Invariant.{Kept}
use Rattle.machine.specs.declared.Machine.{Machine}
use Rattle.encoding.specs.Words.{head_of, size_of, room_of}
use Rattle.encoding.specs.Refusing.{refusal_from, refusal_of}
use Rattle.encoding.specs.declared.Head.{Head}
use Rattle.std.specs.Prelude.{Ok}
use Rattle.encoding.proofs.Turns.{part_left, Whole, word-whole}
use Rattle.lists.specs.Listing.{Word, small_word, whole_word, word_of, words_from, words_of, word_calls, word_next, word_seen, calls_of, bytes_of}
use Rattle.lists.specs.Giving.{Carries, is_whole}
use Rattle.lists.proofs.Words.{words-next, words-end, whole_word_lem, small_word_lem, word-within}
use Rattle.lists.proofs.Small.{carries-as}
use Rattle.lists.proofs.Lists.{after_kept, words-after}

-- what a list that is not refused comes to
abbrev pub Done : List ℕ → List ℕ → List ℕ → Machine → Machine → ℕ → Type 0
Done list before later m m' e = (m' ≡ after (calls_of (words_of list) m) m) × (Put before later (bytes_of (words_of list) m) 0 e × (e ≤ length before))

-- at a place of a list, with so many bytes written: the drive is sound, the words that remain are not refused, and they lead where all of them lead
pub record Carrying (list before later : List ℕ) (m₀ m : Machine) (at written : ℕ) : Type 0 where
  pub left : ℕ
  pub within : at ≤ length list
  pub kept : Kept m
  pub same : length later ≡ length before
  pub room : written + left ≤ length later
  pub checked : refusal_from 0 left (drop at list) ≡ Ok tt
  pub drive : after (calls_of (words_from 0 (drop at list)) m) m ≡ after (calls_of (words_of list) m₀) m₀
  pub bytes : sets later written (bytes_of (words_from 0 (drop at list)) m) ≡ sets before 0 (bytes_of (words_of list) m₀)
  pub count : written + length (bytes_of (words_from 0 (drop at list)) m) ≡ length (bytes_of (words_of list) m₀)

pub carrying-start :
    (list before : List ℕ) (m : Machine) → Kept m → refusal_of (length before) list ≡ Ok tt → Carrying list before before m m 0 0
unfolding refusal_of words_of
carrying-start list before m k e =
    record { left = length before; within = omega arith; kept = k; same = refl; room = omega arith; checked = e; drive = refl; bytes = refl; count = omega arith }

-- the word at the place stands whole
pub carrying-word :
    {list before later : List ℕ} {m₀ m : Machine} {at written : ℕ} → (w : Carrying list before later m₀ m at written) → at < length list →
    Whole list at w.left
carrying-word {list} {before} {later} {m₀} {m} {at} w p = word-whole list at w.left p w.checked

-- ---- a turn

-- the word at a place, carried out
pub record Turn (list before later : List ℕ) (m m' : Machine) (at written e : ℕ) : Type 0 where
  pub carries : Carries (word_of (head_of (drop at list)) (drop at list)) m m' before later written e
  pub room : e ≤ written + room_of (head_of (drop at list))

-- the word's head, as it was read from what is left of the list
module _ (list : List ℕ) (at : ℕ) {h : Head} (q : h ≡ head_of (take (length list - at) (drop at list))) where
  head-here : h ≡ head_of (drop at list)
  head-here = q ∙ ap head_of (part_left list at)

  pub word_fits : {left s : ℕ} → Whole list at left → s ≡ size_of h → (1 ≤ s) × (at + s ≤ length list)
  word_fits w z = (omega (arith, w.size, z, ap size_of head-here), omega (arith, w.within, z, ap size_of head-here))

  -- its own bytes
  pub word-length : {left s : ℕ} → Whole list at left → s ≡ size_of h → length (take (at + s - at) (drop at list)) ≡ size_of h
  word-length {left} {s} w z =
      let f = word_fits w z in
      let k : at + s - at ≤ length (drop at list) = omega (arith, f.1, length-drop at list) in
      let j : at + s - at ≡ size_of h = omega (arith, z) in
      length-take-le (at + s - at) (drop at list) k ∙ j

  pub room-here : (written : ℕ) {left n : ℕ} → Whole list at left → written + left ≤ n → written + room_of h ≤ n
  room-here written w z = omega (arith, w.room, z, ap room_of head-here)

  -- a word that needs the whole drive was given its own bytes
  pub whole-turn :
      {s : ℕ} {before later : List ℕ} {m m' : Machine} {written e : ℕ} → s ≡ size_of h → is_whole h ≡ true →
      Carries (whole_word h (take (at + s - at) (drop at list))) m m' before later written e → e ≤ written + room_of h →
      Turn list before later m m' at written e
  whole-turn {s} z t c r =
      let k : at + s - at ≡ size_of h = omega (arith, z) in
      record {
        carries = carries-as
            (ap (λ (i : ℕ). whole_word h (take i (drop at list))) k ∙ word-within h (drop at list) ∙ sym (whole_word_lem h (drop at list) t)
            ∙ ap (λ (x : Head). word_of x (drop at list)) head-here)
            c;
        room = omega (arith, r, ap room_of head-here);
      }

  pub small-turn :
      {before later : List ℕ} {m m' : Machine} {written e : ℕ} → is_whole h ≡ false → Carries (small_word h) m m' before later written e →
      e ≤ written + room_of h → Turn list before later m m' at written e
  small-turn t c r =
      record {
        carries = carries-as (sym (small_word_lem h (drop at list) t) ∙ ap (λ (x : Head). word_of x (drop at list)) head-here) c;
        room = omega (arith, r, ap room_of head-here);
      }

pub carrying-step :
    {list before later later' : List ℕ} {m₀ m m' : Machine} {at written e s : ℕ} {g : Head} → (w : Carrying list before later m₀ m at written) →
    at < length list → g ≡ head_of (take (length list - at) (drop at list)) → s ≡ size_of g → Turn list later later' m m' at written e →
    Carrying list before later' m₀ m' (at + s) e
unfolding bytes_of word_next
carrying-step {list} {before} {later} {later'} {m₀} {m} {m'} {at} {written} {e} {s} {g} w p y z t =
    let h = head_of (drop at list) in
    let c = t.carries in
    let i : s ≡ size_of h = z ∙ ap size_of (head-here list at y) in
    let u = word_of h (drop at list) in
    let ws = words_from 0 (drop (at + size_of h) list) in
    let x = carrying-word w p in
    let n = words-next list at p x.size in
    let q : bytes_of (words_from 0 (drop at list)) m ≡ word_seen u m ++ bytes_of ws m' =
    ap (λ (v : List Word). bytes_of v m) n ∙ ap (λ (y : Machine). word_seen u m ++ bytes_of ws y) (sym c.machine) in
    let l : length later' ≡ length later = ap length c.bytes.now ∙ length-sets later written (word_seen u m) in
    let z = length-append (word_seen u m) (bytes_of ws m') in
    let there : (j : ℕ) → j ≡ size_of h → Carrying list before later' m₀ m' (at + j) e = λ (j : ℕ) f.
    rw f (record {
      left = w.left - room_of h;
      within = x.within;
      kept = rw c.machine (after_kept (word_calls u m) m w.kept);
      same = l ∙ w.same;
      room = omega (arith, w.room, x.room, l, t.room);
      checked = x.rest;
      drive = ap (λ (y : Machine). after (calls_of ws y) y) c.machine ∙ sym (words-after u ws m)
          ∙ sym (ap (λ (v : List Word). after (calls_of v m) m) n) ∙ w.drive;
      bytes = ap (λ (y : List ℕ). sets y e (bytes_of ws m')) c.bytes.now ∙ ap (λ (k : ℕ). sets (sets later written (word_seen u m)) k (bytes_of ws m')) c.bytes.next
          ∙ sym (sets-append later (word_seen u m) (bytes_of ws m') written) ∙ sym (ap (λ (y : List ℕ). sets later written y) q) ∙ w.bytes;
      count = omega (arith, c.bytes.next, z, ap length q, w.count);
    }) in
    there s i

pub carrying-end :
    {list before later : List ℕ} {m₀ m : Machine} {at written : ℕ} → Carrying list before later m₀ m at written → length list ≤ at →
    Done list before later m₀ m written
unfolding calls_of bytes_of after
carrying-end {list} {before} {later} {m₀} {m} {at} {written} w p =
    let n = words-end (drop at list) (omega (arith, length-drop at list, p)) in
    let put : Put before later (bytes_of (words_of list) m₀) 0 written = record {
      next = omega (arith, ap (λ (v : List Word). length (bytes_of v m)) n, w.count);
      now = sym (ap (λ (v : List Word). sets later written (bytes_of v m)) n) ∙ w.bytes;
    } in
    (sym (ap (λ (v : List Word). after (calls_of v m) m) n) ∙ w.drive, (put, omega (arith, w.room, w.same)))
