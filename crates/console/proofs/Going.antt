-- What holds before each string of a part, from the first to the last.
-- Assumes nothing.
use Prim.Native.Nat.{ℕ, ◌+◌, ◌*◌, ◌≤◌, ◌<◌}
use native.Mathlib.Omega.{arith}
use mathlib.Core.Path.{◌≡◌, refl, sym, ap, ◌∙◌}
use mathlib.Core.List.{List, [], ◌++◌}
use lib.ListN.{length, take, drop, length-take, length-append}
use lib.Seq.{length-take-le, take_all, take_at, drop-length, sets, sets-eq}
use Rattle.std.specs.Prelude.{Some, None}
use Rattle.laws.specs.Writing.{Put}
use Rattle.machine.specs.declared.Machine.{Machine}
use Rattle.drive.specs.declared.Drive.{Drive}
use Rattle.lines.specs.Strings.{Takes}
use Rattle.lines.specs.declared.strings.Taken.{Taken}
use Rattle.console.specs.Console.{answer_to, after_string, Standing, standing, console}
use Rattle.console.specs.Serving.{Answers, Serves, at_work}
use Rattle.console.specs.declared.server.Server.{Server}
use Rattle.console.proofs.Turns.{Turn, Rest, turn-ended, turn-all}

-- at a place of the part, with w bytes of answers: the console that is left over is the whole one, and each byte before the place has taken at
-- most 64 bytes of answer
pub record Going (part : List ℕ) (c : Standing) (r : Server) (w at : ℕ) : Type 0 where
  pub place : at ≤ length part
  pub short : length part ≤ 1024
  pub filled : w ≤ 64 * at
  pub same : console part c ≡ console (drop at part) (standing r.drive.machine (take r.held r.string) (take w r.out))

pub going-first : (part : List ℕ) (r : Server) → length part ≤ 1024 → Going part (at_work r) r 0 0
going-first part r h = record { place = omega arith; short = h; filled = omega arith; same = refl }

put-behind : {l l' p : List ℕ} {w e : ℕ} → Put l l' p w e → e ≤ length l → take e l' ≡ take w l ++ p
put-behind {l} {l'} {p} {w} {e} h f =
    let size : length (take w l ++ p) ≡ e = length-append (take w l) p ∙ rw (length-take-le w l (omega (arith, h.next))) (sym h.next) in
    ap (λ (x : List ℕ). take e x) (h.now ∙ sets-eq p l w (omega (arith, h.next))) ∙ take_at (take w l ++ p) (drop (w + length p) l) e size

-- after a string, which is at the front of l', and its answer
pub going_next :
    {part : List ℕ} {c : Standing} {r : Server} {w at : ℕ} (l' : List ℕ) (t : Taken) (next : ℕ) (r' : Server) (e : ℕ) →
    Going part c r w at → at < length part → Takes part at r.string r.held l' t → t.next ≡ Some next →
    Answers (take t.length l') r.drive.machine r.out w r' e → Going part c r' e next
going_next {part} {c} {r} {w} {at} l' t next r' e g h k ended ha =
    record { place = turn.within; short = g.short; filled = filled; same = same }
  where
    s : List ℕ
    s = take t.length l'

    turn : Turn part at r.drive.machine r.string r.held (take w r.out) l' t next
    turn = turn-ended part at r.drive.machine r.string r.held (take w r.out) l' t next k ended

    filled : e ≤ 64 * next
    filled = omega (arith, ha.within, g.filled, turn.later)

    behind : take e r'.out ≡ take w r.out ++ answer_to s r.drive.machine
    behind = put-behind ha.put (omega (arith, ha.within, g.filled, r.room, g.short))

    same : console part c ≡ console (drop next part) (standing r'.drive.machine (take r'.held r'.string) (take e r'.out))
    same =
        g.same
        ∙ turn.same
        ∙ ap (λ (x : Machine). console (drop next part) (standing x [] (take w r.out ++ answer_to s r.drive.machine))) (sym ha.machine)
        ∙ ap (λ (x : List ℕ). console (drop next part) (standing r'.drive.machine [] x)) (sym behind)
        ∙ ap (λ (n : ℕ). console (drop next part) (standing r'.drive.machine (take n r'.string) (take e r'.out))) (sym ha.ended)

-- the output has place for what is written
going-count : {part : List ℕ} {c : Standing} {r : Server} {w at : ℕ} → Going part c r w at → length (take w r.out) ≡ w
going-count {part} {c} {r} {w} {at} g = length-take-le w r.out (omega (arith, g.filled, g.place, g.short, r.room))

-- at the end of the part
pub going-last :
    {part : List ℕ} {c : Standing} {r : Server} {w at : ℕ} → Going part c r w at → length part ≤ at → Serves (console part c) r w
unfolding console
going-last {part} {c} {r} {w} {at} g h =
    record {
      machine = sym (ap (λ (x : Standing). x.machine) end);
      held = held;
      written = sym (ap (λ (x : Standing). x.written) end);
      count = sym (going-count g) ∙ sym (ap (λ (x : Standing). length x.written) end);
    }
  where
    s : List ℕ
    s = take r.held r.string

    end : console part c ≡ standing r.drive.machine s (take w r.out)
    end =
        let i : at ≡ length part = omega (arith, g.place) in
        g.same
        ∙ ap (λ (x : List ℕ). console x (standing r.drive.machine s (take w r.out))) (ap (λ (k : ℕ). drop k part) i ∙ drop-length part)

    held : s ≡ take 64 (console part c).held
    held =
        sym (take_all 64 s (rw (length-take r.held r.string) (omega (arith, r.kept))))
        ∙ sym (ap (λ (x : Standing). take 64 x.held) end)

-- at a string that the part does not end
pub going-rest :
    {part : List ℕ} {c : Standing} {r : Server} {w at : ℕ} (t : Taken) (r' : Server) → Going part c r w at →
    Takes part at r.string r.held r'.string t → t.next ≡ None → r'.drive ≡ r.drive → r'.held ≡ t.length → r'.out ≡ r.out →
    Serves (console part c) r' w
going-rest {part} {c} {r} {w} {at} t r' g k e hd hh ho =
    record {
      machine = ap (λ (x : Drive). x.machine) hd ∙ sym (ap (λ (x : Standing). x.machine) end);
      held = ap (λ (n : ℕ). take n r'.string) hh ∙ rest.held ∙ sym (ap (λ (x : Standing). take 64 x.held) end);
      written = ap (λ (x : List ℕ). take w x) ho ∙ sym (ap (λ (x : Standing). x.written) end);
      count = sym (going-count g) ∙ sym (ap (λ (x : Standing). length x.written) end);
    }
  where
    rest : Rest part at r.drive.machine r.string r.held (take w r.out) r'.string t
    rest = turn-all part at r.drive.machine r.string r.held (take w r.out) r'.string t k e

    end : console part c ≡ standing r.drive.machine (take r.held r.string ++ drop at part) (take w r.out)
    end = g.same ∙ rest.same
