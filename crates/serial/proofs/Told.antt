-- What a string leaves and answers, by whether it is heard and what it asks for.
-- Assumes nothing.
use Prim.Native.Nat.{ℕ, ◌≤◌}
use native.Mathlib.Omega.{arith}
use mathlib.Core.Path.{◌≡◌, refl, sym, ap, subst, ◌∙◌}
use mathlib.Core.Bool.{Bool, true, false}
use mathlib.Core.List.{List, []}
use lib.Dec.{ltb, lit≤}
use lib.ListN.{length}
use Rattle.laws.specs.Tests.{choose}
use Rattle.laws.specs.Writing.{Put}
use Rattle.laws.proofs.Tests.{choose-by, choose-true, choose-false}
use Rattle.laws.proofs.Writing.{put_front}
use Rattle.machine.specs.Commands.{command_by, command_of}
use Rattle.machine.specs.Strings.{ended, body_of, header_of, to_every, admitted, judged, allowed}
use Rattle.machine.specs.Strings.{Heard, silent, carried_out, unanswered, told_in, told_by, told}
use Rattle.machine.specs.Operations.{filled}
use Rattle.machine.specs.declared.Machine.{Machine}
use Rattle.machine.specs.declared.commands.Header.{Header}
use Rattle.machine.specs.declared.commands.Command.{Command}
use Rattle.machine.specs.declared.commands.Command.TheVariants.{Wrong}
use Rattle.serial.proofs.Carried.{answer-fits}

-- ---- what is left: the drive r, and an answer of n bytes at the front of the buffer
-- 01: "Answers fill the front; later bytes keep their content."

abbrev pub Left : Machine → ℕ → List ℕ → List ℕ → Heard → Type 0
Left r n l l' h = (r ≡ h.machine) × ((n ≡ length h.answer) × (l' ≡ filled h.answer l))

pub left-silent : (m : Machine) (l : List ℕ) {h : Heard} → h ≡ silent m → Left m 0 l l h
unfolding filled
left-silent m l e = subst (Left m 0 l l) (sym e) (refl, (refl, refl))

pub left_as : {r : Machine} {n : ℕ} {l' : List ℕ} {h k : Heard} (l : List ℕ) → h ≡ k → Left r n l l' k → Left r n l l' h
left_as {r} {n} {l'} l e x = subst (Left r n l l') (sym e) x

-- ---- a string that ends in byte 13, by its header

unanswered-machine : (e : Bool) (h : Heard) → (unanswered e h).machine ≡ h.machine
unfolding unanswered
unanswered-machine true h = refl
unanswered-machine false h = refl

unanswered-answer : (e : Bool) (h : Heard) → (unanswered e h).answer ≡ choose e [] h.answer
unfolding unanswered choose
unanswered-answer true h = refl
unanswered-answer false h = refl

module _ (h : Header) (k : Command) (m : Machine) where
  pub not-admitted : admitted h m.state ≡ false → told_in h k m ≡ silent m
  unfolding told_in
  not-admitted t = choose-false _ _ _ t

  heard-as : {j : Command} → admitted h m.state ≡ true → j ≡ allowed k m.state →
      told_in h k m ≡ unanswered (to_every h) (carried_out j h.address m)
  unfolding told_in
  heard-as t e = choose-true _ _ _ t ∙ ap (λ (x : Command). unanswered (to_every h) (carried_out x h.address m)) (sym e)

  pub left-heard : {j : Command} {r : Machine} {n : ℕ} {l l' : List ℕ} → admitted h m.state ≡ true → j ≡ allowed k m.state →
      64 ≤ length l → r ≡ (carried_out j h.address m).machine →
      Put l l' (choose (to_every h) [] (carried_out j h.address m).answer) 0 n → Left r n l l' (told_in h k m)
  unfolding filled
  left-heard {j = j} {l = l} t e room f p =
      let o = carried_out j h.address m in
      let a = choose (to_every h) [] o.answer in
      let few : length a ≤ 64 =
      choose-by (λ (x : List ℕ). length x ≤ 64) (to_every h) (λ u. lit≤ tt) (λ u. answer-fits j h.address m) in
      let fits : length a ≤ length l = omega arith in
      left_as l (heard-as t e)
      (f ∙ sym (unanswered-machine (to_every h) o), rw (unanswered-answer (to_every h) o) (put_front p fits))

-- ---- a string

pub told-unended : (b : List ℕ) (m : Machine) → ended b ≡ false → told b m ≡ silent m
unfolding told told_by
told-unended b m t = choose-false _ _ _ t

pub told-ended : (b : List ℕ) (m : Machine) (h : Header) (k : Command) → ended b ≡ true → h ≡ header_of (body_of b) →
    k ≡ choose (ltb 64 (length b)) Wrong (command_by h.code (body_of b)) → told b m ≡ told_in h k m
unfolding told told_by judged command_of header_of
told-ended b m h k t e f =
    choose-true _ _ _ t
    ∙ sym (ap (λ (x : Header). told_in x k m) e
    ∙ ap (λ (x : Command). told_in (header_of (body_of b)) x m)
    (f ∙ ap (λ (x : Header). choose (ltb 64 (length b)) Wrong (command_by x.code (body_of b))) e))

-- one that is not heard, whatever it asks for
pub told-unheard : (b : List ℕ) (m : Machine) (h : Header) → ended b ≡ true → h ≡ header_of (body_of b) → admitted h m.state ≡ false →
    told b m ≡ silent m
told-unheard b m h t e a = told-ended b m h _ t e refl ∙ not-admitted h _ m a
