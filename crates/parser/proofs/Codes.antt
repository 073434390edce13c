-- What a string asks for, by its code.
-- Assumes nothing.
use Prim.Native.Nat.{ℕ}
use mathlib.Core.Path.{◌≡◌, ap, sym, ◌∙◌}
use mathlib.Core.Bool.{true}
use mathlib.Core.List.{List, [], ◌∷◌}
use Rattle.laws.specs.Tests.{choose}
use Rattle.laws.proofs.Telling.{Apart, unequal-apart}
use Rattle.fields.specs.Names.{listed}
use Rattle.machine.specs.Commands.{is_code, command_by, placed}
use Rattle.machine.specs.declared.commands.Command.{Command}
use Rattle.machine.specs.declared.commands.Command.TheVariants.{Wrong}
use Rattle.parser.proofs.Placed.{command-placed}

-- r is what a string of this code asks for
abbrev pub Read : ℕ → List ℕ → Command → Type 0
Read code s r = (r ≡ command_by code s) × (placed r ≡ true)

read : (code : ℕ) (s : List ℕ) {r : Command} → r ≡ command_by code s → Read code s r
read code s e = (e, ap placed e ∙ command-placed s code)

-- the code is known to be k
pub told : (s : List ℕ) {code k : ℕ} {r x : Command} → code ≡ k → r ≡ x → x ≡ command_by k s → Read code s r
told s {code} q p f = read code s (p ∙ f ∙ ap (λ (j : ℕ). command_by j s) (sym q))

-- the codes of 01
unfoldable pub codes : List ℕ
codes =
    listed ("WN" ∷ "WS" ∷ "PS" ∷ "EE" ∷ "ES" ∷ "SA" ∷ "SO" ∷ "SC" ∷ "QA" ∷ "QS" ∷ "QI" ∷ "QO" ∷ "QM" ∷ "QC" ∷ "QE" ∷ "QR" ∷ [])

pub other : (code : ℕ) (s : List ℕ) → Apart (Unit {0}) code codes → Read code s Wrong
unfolding command_by is_code choose codes listed
other code s n = read code s (let f = (unequal-apart (Unit {0}) code codes n).1 in cc)
