-- Whether a drive of that address was made or refused, it is the fresh one.
-- Assumes nothing.
use mathlib.Core.Path.{◌≡◌, ap, ◌∙◌}
use Rattle.std.specs.Prelude.{Result, Ok, Err, MatchResult}
use Rattle.std.proofs.Common.{rules}
use Rattle.laws.specs.Tests.{choose}
use Rattle.machine.specs.declared.Machine.{Machine}
use Rattle.drive.specs.Results.{machine_of}
use Rattle.drive.specs.declared.Drive.{Drive}
use Rattle.drive.specs.declared.results.Refused.{Refused as NotFresh}
use Rattle.image.specs.Results.{refusal_of, handed}
use Rattle.image.specs.declared.results.Refusal.TheVariants.{NotAnImage}
use Rattle.image.specs.declared.results.Refused.{Refused}
use Rattle.image.proofs.reading.refused.Goals as goal

either_way :
    (r : Result Drive NotFresh) (d : Drive) {Q : NotFresh → Type 0} → MatchResult r (λ x. d ≡ x) Q → ((x : NotFresh) → Q x → d ≡ x.drive) →
    d.machine ≡ machine_of r
unfolding machine_of
either_way (Ok x) d h q = ap (λ (y : Drive). y.machine) h
either_way (Err x) d h q = ap (λ (y : Drive). y.machine) (q x h)

abbrev beside : Machine → Result Drive Refused
beside m = Err (record { refusal = NotAnImage; drive = record { machine = m } })

pub returns : goal.returns
unfolding refusal_of handed choose
returns c = ap beside (either_way _ _ c.unwrap_or_else-drive.ensures (λ x q. search rules) ∙ c.fresh.ensures.drive)
