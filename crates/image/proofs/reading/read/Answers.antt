-- Assumes nothing.
use mathlib.Core.Path.{◌≡◌, ◌∙◌, refl, ap}
use Rattle.std.specs.Prelude.{Option, Some, None, Result, Ok, Err, MatchOption, IsErrAnd}
use Rattle.laws.specs.Tests.{choose}
use Rattle.machine.specs.Images.{not_loaded}
use Rattle.drive.specs.declared.Drive.{Drive}
use Rattle.image.specs.Results.{number_of, refusal_of, made_of, loaded_as, handed}
use Rattle.image.specs.declared.results.Refused.{Refused}
use Rattle.image.proofs.reading.read.Goals as goal

drive_or_refusal :
    (o : Option Drive) (r : Result Drive Refused) → MatchOption o (IsErrAnd r (λ x. Err x ≡ handed not_loaded)) (λ d. r ≡ Ok d) → r ≡ handed (made_of o)
unfolding made_of handed
drive_or_refusal (Some d) r h = h
drive_or_refusal None (Ok d) h = absurd h
drive_or_refusal None (Err x) h = h

loaded-handed : (o : Option Drive) → loaded_as (handed (made_of o)) ≡ made_of o
unfolding number_of refusal_of made_of loaded_as handed choose
loaded-handed (Some d) = refl
loaded-handed None = refl

pub returns : goal.returns
returns c =
    let whole = drive_or_refusal _ _ c.ok_or_else.ensures.cases in
    record {
      result_value = ap loaded_as whole ∙ loaded-handed _ ∙ c.drive_of.ensures;
      drive = whole ∙ ap handed c.drive_of.ensures;
    }
