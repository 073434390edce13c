-- An input in parts: the console goes on after each as if they were one, though it keeps 64 bytes of a string at most.
-- Assumes nothing.
use Prim.Native.Nat.{ℕ, ◌≤◌, ◌<◌}
use native.Mathlib.Omega.{arith}
use mathlib.Core.Path.{◌≡◌, refl, sym, ap, subst, ◌∙◌}
use mathlib.Core.Bool.{Bool, true, false}
use mathlib.Core.Logic.{⊎_elim}
use mathlib.Core.List.{List, [], ◌∷◌, ◌++◌, append_assoc, append-nil}
use lib.ListN.{length, take, drop, length-take, take-append-drop}
use lib.Seq.{length-take-le, take_all, take-take, take-append-le, take-append_seam}
use lib.Dec.{eqb}
use Rattle.laws.proofs.Tests.{lt-or-le}
use Rattle.machine.specs.Record.{fresh}
use Rattle.machine.specs.declared.Machine.{Machine}
use Rattle.lines.specs.Strings.{given}
use Rattle.console.specs.Console.{answer_to, after_string, Standing, standing, byte_taken, console, standing_after, output_of}
use Rattle.console.specs.Serving.{Serves, at_work, Reached, Reachable, Exchanges}
use Rattle.console.specs.declared.Exchange.{Exchange}
use Rattle.console.specs.declared.server.Server.{Server}

-- of what is held the first 64 bytes count, also when more comes
cut-append : (h x : List ℕ) → take 64 (take 64 h ++ x) ≡ take 64 (h ++ x)
cut-append h x = ⊎_elim long short (lt-or-le 64 (length h))
  where
    long : 64 < length h → take 64 (take 64 h ++ x) ≡ take 64 (h ++ x)
    long i =
        let size : length (take 64 h) ≡ 64 = length-take-le 64 h (omega arith) in
        take-append-le 64 (take 64 h) x (omega (arith, size)) ∙ take-take 64 64 h (omega arith) ∙ sym (take-append-le 64 h x (omega arith))

    short : length h ≤ 64 → take 64 (take 64 h ++ x) ≡ take 64 (h ++ x)
    short i = rw (take_all 64 h i)

-- two standings from which the console goes on alike, but that the first has written w before: of the bytes held the first 64 are given
record Alike (w : List ℕ) (c d : Standing) : Type 0 where
  machine : c.machine ≡ d.machine
  held : take 64 c.held ≡ take 64 d.held
  written : c.written ≡ w ++ d.written

alike-byte : (t : Bool) (b : ℕ) {w : List ℕ} {c d : Standing} → Alike w c d → Alike w (byte_taken t b c) (byte_taken t b d)
unfolding byte_taken given
alike-byte true b {w} {c} {d} p =
    let string : given c.held ≡ given d.held = ap (λ (x : List ℕ). x ++ (13 ∷ [])) p.held in
    let answer : answer_to (given c.held) c.machine ≡ answer_to (given d.held) d.machine = cc in
    record {
      machine = cc;
      held = refl;
      written =
          ap (λ (x : List ℕ). x ++ answer_to (given c.held) c.machine) p.written
          ∙ append_assoc w d.written (answer_to (given c.held) c.machine)
          ∙ ap (λ (x : List ℕ). w ++ (d.written ++ x)) answer;
    }
alike-byte false b {w} {c} {d} p =
    record {
      machine = p.machine;
      held = sym (cut-append c.held (b ∷ [])) ∙ ap (λ (x : List ℕ). take 64 (x ++ (b ∷ []))) p.held ∙ cut-append d.held (b ∷ []);
      written = p.written;
    }

-- what is alike stays alike, whatever comes
console-alike : (b : List ℕ) {w : List ℕ} {c d : Standing} → Alike w c d → Alike w (console b c) (console b d)
unfolding console
console-alike [] p = p
console-alike (x ∷ b) p = console-alike b (alike-byte (eqb x 13) x p)

-- two parts one after the other are one
console-append : (a b : List ℕ) (c : Standing) → console (a ++ b) c ≡ console b (console a c)
unfolding console
console-append [] b c = refl
console-append (x ∷ a) b c = console-append a b (byte_taken (eqb x 13) x c)

-- ---- a part of the input

-- a served part, after any input
pub serves-exchanges :
    {q r : Server} {b : List ℕ} {e : Exchange} → Serves (console b (at_work q)) r e.written → e.read ≡ length b → Exchanges q b r e
unfolding standing_after output_of
serves-exchanges {q} {r} {b} {e} h came =
    record {
      reached = λ i k. record { machine = h.machine ∙ sym (both i k).machine; held = h.held ∙ sym (both i k).held };
      written = λ i k. (both i k).written ∙ ap (λ (x : List ℕ). output_of i ++ x) (sym h.written);
      fits = omega (arith, h.count, length-take e.written r.out, ap length h.written);
      read = came;
    }
  where
    first : (input : List ℕ) → Reached input q → Alike (output_of input) (standing_after input) (at_work q)
    first i k =
        record {
          machine = sym k.machine;
          held = sym (ap (λ (x : List ℕ). take 64 x) k.held ∙ take-take 64 64 (standing_after i).held (omega arith));
          written = sym (append-nil (output_of i));
        }

    both : (input : List ℕ) → Reached input q → Alike (output_of input) (standing_after (input ++ b)) (console b (at_work q))
    both i k =
        subst (λ (c : Standing). Alike (output_of i) c (console b (at_work q))) (sym (console-append i b _))
        (console-alike b (first i k))

-- no part at all
pub serves-nothing : (r : Server) → Serves (console [] (at_work r)) r 0
unfolding console
serves-nothing r =
    record {
      machine = refl;
      held = sym (take_all 64 (take r.held r.string) (rw (length-take r.held r.string) (omega (arith, r.kept))));
      written = refl;
      count = refl;
    }

-- the answers are handed over whole
pub serves-handed : {c : Standing} {r : Server} {w : ℕ} (k : ℕ) → Serves c r w → k ≡ length (take w r.out) → Serves c r k
serves-handed {c} {r} {w} k h e =
    let all : k ≡ w = e ∙ ap length h.written ∙ sym h.count in
    record {
      machine = h.machine;
      held = h.held;
      written = ap (λ (x : ℕ). take x r.out) all ∙ h.written;
      count = all ∙ h.count;
    }

-- the bytes that came are the front of the part
pub read-front : (p q : List ℕ) (k n : ℕ) → q ≡ take k p → n ≡ length q → take n p ≡ q
read-front p q k n h e =
    ap (λ (x : ℕ). take x p) (e ∙ ap length h)
    ∙ ap (λ (x : List ℕ). take (length (take k p)) x) (sym (take-append-drop k p))
    ∙ take-append_seam (take k p) (drop k p)
    ∙ sym h

-- ---- where the program is

pub reachable-first : (r : Server) → r.drive.machine ≡ fresh (record { 0 = 0 }) → r.held ≡ 0 → Reachable r
unfolding standing_after console
reachable-first r h k =
    record { input = []; reached = record { machine = h; held = ap (λ (n : ℕ). take n r.string) k } }

pub reachable-next : {q r : Server} {b : List ℕ} {e : Exchange} → Reachable q → Exchanges q b r e → Reachable r
reachable-next {q} {r} {b} h e = record { input = h.input ++ b; reached = e.reached h.input h.reached }
