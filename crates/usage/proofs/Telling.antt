-- What the memory is after a string, by what the drive's string hands back.
-- Assumes nothing.
use Prim.Native.Nat.{ℕ}
use native.Mathlib.Omega.{arith}
use mathlib.Core.Path.{◌≡◌, sym, ap, ◌∙◌, subst}
use mathlib.Core.Bool.{Bool}
use mathlib.Core.List.{List}
use mathlib.Core.Logic.{◌≢◌}
use Rattle.std.specs.Prelude.{Result, Ok, Err}
use Rattle.instruction.specs.declared.Cell.{Cell}
use Rattle.machine.specs.Calls.{Call, Outcome, apply, next}
use Rattle.machine.specs.declared.Machine.{Machine}
use Rattle.machine.proofs.Invariant.{refused-whole}
use Rattle.operations.specs.Results.{number_of}
use Rattle.operations.specs.declared.results.Refusal.{Refusal}
use Rattle.operations.specs.declared.results.Refusal.TheVariants.{AddressAbove47, Unsound, ShortBuffer, WordAbove2047, NoRunUnderWay, ReportOutOfPlace, BudgetOutOfRange}
use Rattle.drive.specs.Results.{refused_as, told_as}
use Rattle.drive.specs.declared.results.Refused.{Refused}
use Rattle.drive.specs.declared.results.Told.{Told}
use Rattle.usage.specs.Updating.{Updated}
use Rattle.usage.specs.Updating.Updated.{kept}
use Rattle.usage.proofs.Keeping.{idle-still}

-- an update at the place that the string names
pub named : {before after : List Cell} {used map : List Bool} {p k : ℕ} → p ≡ k → Updated before after p used map → Updated before after k used map
named {before} {after} {used} {map} e u = subst (λ (k : ℕ). Updated before after k used map) e u

-- 01's numbers of refusals are none of them 0
numbered : (r : Refusal) → number_of r ≢ 0
unfolding number_of
numbered AddressAbove47 e = omega (arith, e)
numbered Unsound e = omega (arith, e)
numbered ShortBuffer e = omega (arith, e)
numbered WordAbove2047 e = omega (arith, e)
numbered NoRunUnderWay e = omega (arith, e)
numbered ReportOutOfPlace e = omega (arith, e)
numbered BudgetOutOfRange e = omega (arith, e)

module _ (r : Result Told Refused) (buffer : List ℕ) (c : Call) (m : Machine) (e : told_as r buffer ≡ apply c m) where
  -- an update to the memory that came back is one to the memory after the call
  pub told-update :
      {t : Told} {used map : List Bool} {at : ℕ} → r ≡ Ok t → Updated m.cells t.drive.machine.cells at used map →
      Updated m.cells (next c m).cells at used map
  unfolding told_as next
  told-update {used = used} {map} {at} q u =
      subst (λ (o : Outcome). Updated m.cells o.machine.cells at used map) (ap (λ (r : Result Told Refused). told_as r buffer) (sym q) ∙ e) u

  -- a refused string leaves the memory, and so the map
  pub refused-update : {x : Refused} (used : List Bool) (at : ℕ) → r ≡ Err x → Updated m.cells (next c m).cells at used used
  unfolding told_as refused_as next
  refused-update {x} used at q =
      let p = ap (λ (r : Result Told Refused). told_as r buffer) (sym q) ∙ e in
      let n : (apply c m).refusal ≢ 0 = λ z. numbered x.refusal (ap (λ (o : Outcome). o.refusal) p ∙ z) in
      let s = ap (λ (o : Outcome). o.machine.cells) (refused-whole c m n) in
      subst (λ (cells : List Cell). Updated m.cells cells at used used) (sym s) (kept (idle-still _ at used))
