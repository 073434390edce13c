-- `giving::tell` meets its contract: an event that is taken, and one that is refused.
-- Assumes nothing.
use Prim.Native.Nat.{ℕ}
use mathlib.Core.Path.{sym, ap, ◌∙◌}
use mathlib.Core.List.{[], ◌∷◌}
use Rattle.std.specs.Prelude.{Result}
use Rattle.laws.proofs.Writing.{put_as}
use Rattle.machine.specs.declared.State.{State}
use Rattle.operations.specs.declared.results.Refusal.{Refusal}
use Rattle.lists.specs.Giving.{refusal_in, state_after}
use Rattle.lists.proofs.giving.tell.Goals as goal

pub returns-in-Ok-clause-state_value : goal.returns-in-Ok-clause-state_value
unfolding state_after
returns-in-Ok-clause-state_value c = sym (ap (state_after c.args.state.now) c.in-Ok.is)

pub returns-in-Ok-clause-bytes : goal.returns-in-Ok-clause-bytes
unfolding refusal_in
returns-in-Ok-clause-bytes c =
    put_as (ap (λ (x : Result State Refusal). refusal_in x ∷ []) (sym c.in-Ok.is)) c.put_byte.ensures

pub returns-in-Err-clause-state_value : goal.returns-in-Err-clause-state_value
unfolding state_after
returns-in-Err-clause-state_value c = sym (ap (state_after c.args.state.now) c.in-Err.is)

pub returns-in-Err-clause-bytes : goal.returns-in-Err-clause-bytes
unfolding refusal_in
returns-in-Err-clause-bytes c =
    put_as (ap (λ (n : ℕ). n ∷ []) c.number.ensures ∙ ap (λ (x : Result State Refusal). refusal_in x ∷ []) (sym c.in-Err.is))
    c.put_byte-in-Err.ensures
