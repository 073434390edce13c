-- One string, its answer and the wait after it.
-- Assumes nothing.
use Prim.Native.Nat.{ℕ, ◌+◌, ◌-◌, ◌≤◌, min}
use native.Mathlib.Omega.{arith}
use mathlib.Core.Path.{◌≡◌, refl, sym, ap, ◌∙◌}
use mathlib.Core.List.{List, ◌++◌}
use lib.ListN.{length, take, drop, length-take, length-drop}
use lib.Seq.{length-take-le}
use lib.Dec.{ltb}
use Rattle.laws.specs.Tests.{choose}
use Rattle.laws.specs.Writing.{Put}
use Rattle.machine.specs.Soundness.{sound}
use Rattle.machine.specs.Strings.{told}
use Rattle.machine.specs.Calls.{Outcome, act, apply, next, refused, answered}
use Rattle.machine.specs.Calls.Call.{SendString, Wait}
use Rattle.machine.specs.Operations.{filled, buffer_after}
use Rattle.machine.specs.declared.Machine.{Machine}
use Rattle.lines.proofs.Lending.{put-part}
use Rattle.console.specs.Console.{lent, answer_to, after_string}
use Rattle.console.specs.Serving.{Answers}
use Rattle.console.specs.declared.server.Server.{Server}

-- what a buffer of 64 bytes holds makes no difference
lent_any : (s l : List ℕ) (m : Machine) → length l ≡ 64 → apply (SendString s l) m ≡ apply (SendString s lent) m
unfolding apply act lent
lent_any s l m e = ap (λ (n : ℕ). choose (sound m) (choose (ltb n 64) (refused 3 m) (answered (told s m))) (refused 2 m)) e

pub answered-so :
    (s : List ℕ) (m : Machine) (l : List ℕ) (w k : ℕ) (ys : List ℕ) (x : Machine) (u : ℕ) (r : Server) (n : ℕ) →
    w + 64 ≤ length l → k ≡ 64 → length ys ≡ length (take k (drop w l)) →
    x ≡ next (SendString s (take k (drop w l))) m →
    take u ys ≡ (apply (SendString s (take k (drop w l))) m).answer → ys ≡ buffer_after s (take k (drop w l)) m →
    r.drive.machine ≡ next (Wait 1000) x → n ≡ min u 64 →
    r.out ≡ take w l ++ (ys ++ drop k (drop w l)) → r.held ≡ 0 → Answers s m l w r (w + n)
unfolding answer_to after_string next buffer_after filled
answered-so s m l w k ys x u r n hl hk hy hm ha hb hv hn ho hz =
    record { machine = machine; put = rw ho put; within = omega (arith, hn); ended = hz }
  where
    part : List ℕ
    part = take k (drop w l)

    size : length part ≡ 64
    size = length-take-le k (drop w l) (rw (length-drop w l) (omega arith)) ∙ hk

    same : apply (SendString s part) m ≡ apply (SendString s lent) m
    same = lent_any s part m size

    machine : r.drive.machine ≡ after_string s m
    machine = hv ∙ ap (λ (y : Machine). (apply (Wait 1000) y).machine) (hm ∙ ap (λ (o : Outcome). o.machine) same)

    long : n ≡ length (answer_to s m)
    long =
        hn
        ∙ ap (λ (i : ℕ). min u i) (sym (hy ∙ size))
        ∙ sym (length-take u ys)
        ∙ ap length (ha ∙ ap (λ (o : Outcome). o.answer) same)

    now : ys ≡ filled (answer_to s m) part
    now = hb ∙ ap (λ (o : Outcome). filled o.answer part) (lent_any s part m size)

    put : Put l (take w l ++ (ys ++ drop k (drop w l))) (answer_to s m) w (w + n)
    put = rw long (put-part l w k (answer_to s m) ys (omega arith) (omega (arith, long)) now)
