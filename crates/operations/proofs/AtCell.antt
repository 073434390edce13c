-- What an event comes to at the present cell is the outcome of its call.
-- Assumes nothing.
use Prim.Native.Nat.{ℕ}
use mathlib.Core.Path.{◌≡◌, refl, sym, ap, ◌∙◌}
use mathlib.Core.Bool.{Bool}
use Rattle.std.specs.Prelude.{Result}
use mathlib.Core.List.{List}
use lib.Dec.{ltb}
use Rattle.laws.specs.Tests.{choose}
use Rattle.laws.proofs.Tests.{choose-map}
use Rattle.instruction.specs.Runs.{profile_of}
use Rattle.instruction.specs.declared.Cell.{Cell}
use Rattle.instruction.specs.declared.run.Profile.{Profile}
use Rattle.machine.specs.Record.{with_state, moving}
use Rattle.machine.specs.Milliseconds.{present}
use Rattle.machine.specs.Stepping.{step_at, step}
use Rattle.machine.specs.InputWords.{input_word_at, input_word}
use Rattle.machine.specs.Reports.{takes_at_speed_in, takes_at_speed_at, takes_at_speed, at_speed, takes_halted, halted_in, halted_at, halted}
use Rattle.machine.specs.Calls.{Outcome, done, refused, act}
use Rattle.machine.specs.Calls.Call.{SetInputs, Step, AtSpeed, Halted}
use Rattle.machine.specs.declared.State.{State}
use Rattle.machine.specs.declared.Machine.{Machine}
use Rattle.machine.proofs.Words.{input-word-present}
use Rattle.operations.specs.declared.results.Refusal.{Refusal}
use Rattle.operations.specs.Results.{number_of, acted_on}
use Rattle.operations.specs.Events.{stepped_at, at_speed_at, halted_on, worded_at}

-- a choice of what is handed back, as the choice of outcomes
chosen-as : (m : Machine) (b : Bool) (x y : Result State Refusal) → acted_on m (choose b x y) ≡ choose b (acted_on m x) (acted_on m y)
chosen-as m b x y = choose-map (acted_on m) b x y

module _ (m : Machine) {c : Cell} (e : present m.cells m.state ≡ c) where
  pub stepped-as : acted_on m (stepped_at m.state c) ≡ act Step m
  unfolding act step stepped_at acted_on number_of
  stepped-as = chosen-as m (moving m.state) _ _ ∙ ap (λ (x : Cell). choose (moving m.state) (done (with_state m (step_at m.state x))) (refused 5 m)) (sym e)

  pub at-speed-as : acted_on m (at_speed_at m.state c) ≡ act AtSpeed m
  unfolding act takes_at_speed at_speed_at acted_on number_of
  at-speed-as = chosen-as m (takes_at_speed_at m.state c) _ _ ∙ ap (λ (x : Cell). choose (takes_at_speed_at m.state x) (done (with_state m (at_speed m.state))) (refused 6 m)) (sym e)

  pub halted-as : acted_on m (halted_on m.state c) ≡ act Halted m
  unfolding act halted halted_on acted_on number_of
  halted-as = chosen-as m (takes_halted m.state) _ _ ∙ ap (λ (x : Cell). choose (takes_halted m.state) (done (with_state m (halted_at m.state x))) (refused 6 m)) (sym e)

  pub worded-as : (w : ℕ) → acted_on m (worded_at w m.state c) ≡ act (SetInputs w) m
  unfolding act worded_at acted_on number_of
  worded-as w =
      chosen-as m (ltb 2047 w) _ _
      ∙ ap (λ (s : State). choose (ltb 2047 w) (refused 4 m) (done (with_state m s))) (input-word-present w m.cells m.state c e)
