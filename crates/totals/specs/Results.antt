-- The numbers that 01 and 02 give the refusals, and what is handed back as the definitions have it.
-- Assumes nothing.
use Rattle.std.specs.Prelude.{ℕ, Result, Ok, Err}
use Rattle.instruction.specs.declared.adding.Sums.{Sums}
use Rattle.totals.specs.Walk.{Totalled}
use Rattle.totals.specs.declared.results.Refusal.{Refusal}
use Rattle.totals.specs.declared.results.Refusal.TheVariants.{Unsound, NoCell, MetTwice, OtherCode}
use Rattle.totals.specs.declared.walk.Walked.{Walked}
use Rattle.totals.specs.declared.walk.Walked.TheVariants as walked

abbrev pub number_of : Refusal → ℕ
number_of Unsound = 2
number_of NoCell = 11
number_of MetTwice = 12
number_of OtherCode = 13

abbrev pub totalled_as : Result Sums Refusal → Totalled
totalled_as (Ok s) = Ok s
totalled_as (Err r) = Err (number_of r)

-- what a walk comes to that leaves its sums in a lent place: they count where it is not refused
abbrev pub walked_as : Walked → Sums → Totalled
walked_as walked.Whole s = Ok s
walked_as walked.MetTwice s = Err 12
walked_as walked.OtherCode s = Err 13
