-- What is handed back of a whole list: refused for the drive, refused for the list, carried out.
-- Assumes nothing.
use Prim.Native.Nat.{ℕ, ◌≤◌}
use native.Mathlib.Omega.{arith}
use mathlib.Core.Path.{◌≡◌, refl, sym, ap, ◌∙◌}
use mathlib.Core.Bool.{true, false}
use mathlib.Core.List.{List}
use lib.ListN.{length}
use Rattle.std.specs.Prelude.{Result, Ok, Err, IsErrAnd}
use Rattle.std.proofs.lemmas.Result.{err_from_is_err_and}
use Rattle.laws.specs.Writing.{Put}
use Rattle.laws.proofs.Tests.{choose-true, choose-false}
use Rattle.laws.proofs.Writing.{put_front}
use Rattle.machine.specs.Soundness.{sound}
use Rattle.machine.specs.Calls.{after}
use Rattle.machine.specs.Operations.{filled}
use Rattle.machine.specs.declared.Machine.{Machine}
use Rattle.encoding.specs.Refusing.{refusal_of}
use Rattle.encoding.specs.declared.Refusal.{Refusal}
use Rattle.encoding.specs.declared.Refusal.TheVariants.{Unsound}
use Rattle.lists.specs.Listing.{words_of, calls_of, bytes_of}
use Rattle.lists.specs.Performing.{checked_whole, performed, performed_as}

-- what the exit of a `?` hands back
exit-is : {T E : Type 0} (o : Result T E) {x : E} → IsErrAnd o (λ (y : E). y ≡ x) → o ≡ Err x
exit-is {T} {E} o {x} h =
    let p = err_from_is_err_and o h in
    p.1 ∙ ap (λ (y : E). Err y) p.2

module _ (list buffer : List ℕ) (m : Machine) where
  pub unsound-performed : sound m ≡ false → performed_as (Err Unsound) buffer m ≡ performed list buffer m
  unfolding performed_as performed
  unsound-performed t = sym (choose-false _ _ _ t)

  pub refused-performed :
      (o : Result ℕ Refusal) {r : Result (Unit {0}) Refusal} {x : Refusal} → sound m ≡ true → r ≡ refusal_of (length buffer) list → r ≡ Err x →
      IsErrAnd o (λ (y : Refusal). y ≡ x) → performed_as o buffer m ≡ performed list buffer m
  unfolding performed_as performed checked_whole
  refused-performed o t e q h =
      ap (λ (z : Result ℕ Refusal). performed_as z buffer m) (exit-is o h)
      ∙ ap (λ (z : Result (Unit {0}) Refusal). checked_whole z list buffer m) (sym q ∙ e)
      ∙ sym (choose-true _ _ _ t)

  pub carried-performed :
      {later : List ℕ} {m' : Machine} {e : ℕ} → sound m ≡ true → refusal_of (length buffer) list ≡ Ok tt →
      m' ≡ after (calls_of (words_of list) m) m → Put buffer later (bytes_of (words_of list) m) 0 e → e ≤ length buffer →
      performed_as (Ok e) later m' ≡ performed list buffer m
  unfolding performed_as performed checked_whole filled
  carried-performed {later} {m'} {e} t q g p r =
      let f = put_front p (omega (arith, p.next, r)) in
      ap (λ (x : Machine). record { refusal = 0; count = e; buffer = later; machine = x }) g
      ∙ ap (λ (k : ℕ). record { refusal = 0; count = k; buffer = later; machine = after (calls_of (words_of list) m) m }) f.0
      ∙ ap (λ (l : List ℕ). record { refusal = 0; count = length (bytes_of (words_of list) m); buffer = l; machine = after (calls_of (words_of list) m) m }) f.1
      ∙ sym (choose-true _ _ _ t ∙ ap (λ (z : Result (Unit {0}) Refusal). checked_whole z list buffer m) q)
