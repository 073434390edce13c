-- A string cut at 64 bytes, and its end at the first 13.
-- Assumes nothing.
use Prim.Native.Nat.{ℕ, suc, ◌+◌, ◌-◌, ◌≤◌, ◌<◌}
use native.Mathlib.Omega.{arith}
use native.Mathlib.Numerals.{add-one}
use mathlib.Core.Path.{◌≡◌, refl, sym, ap, ◌∙◌}
use mathlib.Core.Bool.{true, false}
use mathlib.Core.Logic.{⊎_elim}
use mathlib.Core.List.{List, [], ◌∷◌, ◌++◌, append_assoc}
use lib.ListN.{length, take, drop, set, get_or, length-take, length-drop, length-append, take-append-drop}
use lib.Seq.{length-take-le, take_all, take-take, take-length, take-append-le, drop-append-le, drop-cons, set-append_seam, append_snoc}
use borrow.Author.Tests.{lt-ltb, le-ltb}
use Rattle.std.specs.Prelude.{Some, None}
use Rattle.laws.specs.Tests.{choose}
use Rattle.laws.proofs.Tests.{lt-or-le, choose-true, choose-false}
use Rattle.scan.specs.Bytes.{index_of, slice}
use Rattle.lines.specs.Gathering.{gathered, Gathered}
use Rattle.lines.specs.Strings.{given, before, ends, string_after, taken_of, Takes}

-- the first n bytes of 65, of which 64 may be kept
gathered-cut : (l : List ℕ) (n : ℕ) (p : List ℕ) → length l ≡ 65 → gathered (take 64 l) n p ≡ take 64 (take n l ++ p)
unfolding gathered
gathered-cut l n p h = rw size (⊎_elim beyond inside (lt-or-le 64 n))
  where
    size : length (take 64 l) ≡ 64
    size = length-take-le 64 l (omega arith)

    inside : n ≤ 64 → take 64 (take n (take 64 l) ++ p) ≡ take 64 (take n l ++ p)
    inside i = rw (take-take n 64 l i)

    beyond : 64 < n → take 64 (take n (take 64 l) ++ p) ≡ take 64 (take n l ++ p)
    beyond i =
        let long : 64 ≤ length (take n l) = rw (length-take n l) (omega arith) in
        rw (
          take_all n (take 64 l) (omega (arith, size)),
          take-append-le 64 (take 64 l) p (omega (arith, size)),
          take-take 64 64 l (omega arith),
          take-append-le 64 (take n l) p long,
          take-take 64 n l (omega arith),
        )

length_cut : (s : List ℕ) → length (take 64 s) ≤ 64
length_cut s = rw (length-take 64 s) (omega arith)

-- what is gathered in the first 64 of 65 bytes, and the bytes after it
pub record Kept (l : List ℕ) (n : ℕ) (p m : List ℕ) (r : ℕ) : Type 0 where
  pub size : r ≡ length (take 64 (take n l ++ p))
  pub within : r ≤ 64
  pub room : r < length (m ++ drop 64 l)
  pub now : m ++ drop 64 l ≡ take 64 (take n l ++ p) ++ drop (length (take 64 (take n l ++ p))) l

pub cut-kept : (l : List ℕ) (n : ℕ) (p m : List ℕ) (r : ℕ) → length l ≡ 65 → Gathered (take 64 l) n p m r → Kept l n p m r
cut-kept l n p m r h g = record { size = size; within = within; room = room; now = now }
  where
    kept : List ℕ
    kept = take 64 (take n l ++ p)

    cut : gathered (take 64 l) n p ≡ kept
    cut = gathered-cut l n p h

    size : r ≡ length kept
    size = g.next ∙ ap length cut

    within : r ≤ 64
    within = rw size (length_cut (take n l ++ p))

    rest : drop (length kept) (take 64 l) ++ drop 64 l ≡ drop (length kept) l
    rest =
        let fits : length kept ≤ length (take 64 l) = rw (length-take-le 64 l (omega arith)) (length_cut (take n l ++ p)) in
        sym (drop-append-le (length kept) (take 64 l) (drop 64 l) fits) ∙ ap (λ (x : List ℕ). drop (length kept) x) (take-append-drop 64 l)

    now : m ++ drop 64 l ≡ kept ++ drop (length kept) l
    now =
        ap (λ (x : List ℕ). x ++ drop 64 l) (g.now ∙ ap (λ (x : List ℕ). x ++ drop (length x) (take 64 l)) cut)
        ∙ append_assoc kept (drop (length kept) (take 64 l)) (drop 64 l)
        ∙ ap (λ (x : List ℕ). kept ++ x) rest

    room : r < length (m ++ drop 64 l)
    room = rw now (simp (length-append, length-drop) (omega (arith, within, size)))

-- where the search for a 13 ends
found : (block : List ℕ) (from end : ℕ) → end ≡ from + index_of 13 (slice from (length block) block) → end ≡ from + index_of 13 (drop from block)
unfolding slice
found block from end e = e ∙ rw (take-length block) refl

before-piece : (block : List ℕ) (from end : ℕ) → end ≡ from + index_of 13 (drop from block) → take (end - from) (drop from block) ≡ before (drop from block)
unfolding before
before-piece block from end e =
    let i : end - from ≡ index_of 13 (drop from block) = omega arith in
    ap (λ (k : ℕ). take k (drop from block)) i

ends-when : (block : List ℕ) (from end : ℕ) → end ≡ from + index_of 13 (drop from block) → end < length block → ends (drop from block) ≡ true
unfolding ends
ends-when block from end e h = lt-ltb (index_of 13 (drop from block)) (length (drop from block)) (omega (arith, length-drop from block))

goes-on-when : (block : List ℕ) (from end : ℕ) → from ≤ length block → end ≡ from + index_of 13 (drop from block) → length block ≤ end → ends (drop from block) ≡ false
unfolding ends
goes-on-when block from end f e h = le-ltb (index_of 13 (drop from block)) (length (drop from block)) (omega (arith, length-drop from block))

-- a 13 behind what is kept
set-behind : (k l : List ℕ) → length k < length l → set (k ++ drop (length k) l) (length k) 13 ≡ (k ++ (13 ∷ [])) ++ drop (length (k ++ (13 ∷ []))) l
set-behind k l h =
    ap (λ (x : List ℕ). set (k ++ x) (length k) 13) (drop-cons l (length k) 0 h)
    ∙ set-append_seam k (get_or l (length k) 0) (drop (suc (length k)) l) 13
    ∙ sym (append_snoc k 13 (drop (suc (length k)) l))
    ∙ ap (λ (i : ℕ). (k ++ (13 ∷ [])) ++ drop i l) (sym (length-append k (13 ∷ []) ∙ add-one (length k)))

-- the string ends at a 13 of the block
pub takes-ended :
    (block : List ℕ) (from : ℕ) (l : List ℕ) (n end : ℕ) (m : List ℕ) (r : ℕ) → length l ≡ 65 →
    end ≡ from + index_of 13 (slice from (length block) block) → Kept l n (take (end - from) (drop from block)) m r → end < length block →
    Takes block from l n (set (m ++ drop 64 l) r 13) (record { length = r + 1; next = Some (end + 1) })
unfolding string_after taken_of given choose
takes-ended block from l n end m r hl he k hb = record { taken = taken; now = now }
  where
    b : List ℕ
    b = drop from block

    e : end ≡ from + index_of 13 b
    e = found block from end he

    stops : ends b ≡ true
    stops = ends-when block from end e hb

    kept : List ℕ
    kept = take 64 (take n l ++ before b)

    piece : take 64 (take n l ++ take (end - from) b) ≡ kept
    piece = ap (λ (x : List ℕ). take 64 (take n l ++ x)) (before-piece block from end e)

    size : r ≡ length kept
    size = k.size ∙ ap length piece

    whole : string_after (take n l) b ≡ kept ++ (13 ∷ [])
    whole = choose-true (ends b) _ _ stops

    long : length (string_after (take n l) b) ≡ r + 1
    long = ap length whole ∙ length-append kept (13 ∷ []) ∙ ap (λ (i : ℕ). i + 1) (sym size)

    taken : record { length = r + 1; next = Some (end + 1) } ≡ taken_of from b (take n l)
    taken = rw (long, stops, ← e) refl

    now : set (m ++ drop 64 l) r 13 ≡ string_after (take n l) b ++ drop (length (string_after (take n l) b)) l
    now =
        ap (λ (x : List ℕ). set x r 13) k.now
        ∙ rw (piece, size) (set-behind kept l (rw hl (omega (arith, length_cut (take n l ++ before b)))))
        ∙ ap (λ (x : List ℕ). x ++ drop (length x) l) (sym whole)

-- the block ends before the string
pub takes_all :
    (block : List ℕ) (from : ℕ) (l : List ℕ) (n end : ℕ) (m : List ℕ) (r : ℕ) → from ≤ length block →
    end ≡ from + index_of 13 (slice from (length block) block) → Kept l n (take (end - from) (drop from block)) m r → length block ≤ end →
    Takes block from l n (m ++ drop 64 l) (record { length = r; next = None })
unfolding string_after taken_of choose
takes_all block from l n end m r hf he k hb = record { taken = taken; now = now }
  where
    b : List ℕ
    b = drop from block

    e : end ≡ from + index_of 13 b
    e = found block from end he

    goes : ends b ≡ false
    goes = goes-on-when block from end hf e hb

    piece : take 64 (take n l ++ take (end - from) b) ≡ string_after (take n l) b
    piece = ap (λ (x : List ℕ). take 64 (take n l ++ x)) (before-piece block from end e) ∙ sym (choose-false (ends b) _ _ goes)

    size : r ≡ length (string_after (take n l) b)
    size = k.size ∙ ap length piece

    taken : record { length = r; next = None } ≡ taken_of from b (take n l)
    taken = rw (← size, goes) refl

    now : m ++ drop 64 l ≡ string_after (take n l) b ++ drop (length (string_after (take n l) b)) l
    now = k.now ∙ ap (λ (x : List ℕ). x ++ drop (length x) l) piece
