-- The worked totals hold, by computation.
-- Assumes nothing.
use mathlib.Core.Path.{◌≡◌, refl}
use mathlib.Core.List.{[]}
use Rattle.cellmap.specs.Marks.{unmarked}
use Rattle.instruction.specs.Adding.{is_one_of, net_of, delay_of, added_of}
use Rattle.machine.specs.Cases.{send}
use Rattle.machine.proofs.Computing.{computing}
use Rattle.trace.specs.Course as course
use Rattle.totals.specs.Walk.{sum_of, found_by, found, ended, walk, followed, totals_in, totals_of}
use Rattle.totals.specs.TotalsCases.{same_steps, gives, refuses, idle_after, runs, totals_hold, named, unheld, chain_from, chained}
use Rattle.totals.specs.TotalsCases.{program, short, of_totals, of_refusals, of_runs, TotalsCases}

-- what the cases unfold
totalling : Unit {0}
unfolding computing unmarked is_one_of net_of delay_of added_of send course.taken course.signed course.step_of course.steps_over course.in_delay
    course.delays_from course.delay_of course.delays_over course.given course.course sum_of found_by found ended walk followed totals_in totals_of
    same_steps gives refuses idle_after runs totals_hold named unheld chain_from chained program short
totalling = tt

totals-hold : unheld of_totals ≡ []
unfolding totalling of_totals
totals-hold = refl

refusals-hold : unheld of_refusals ≡ []
unfolding totalling of_refusals
refusals-hold = refl

runs-hold : unheld of_runs ≡ []
unfolding totalling of_runs
runs-hold = refl

pub cases-hold : TotalsCases
cases-hold = record { totals = totals-hold; refusals = refusals-hold; runs = runs-hold }
