-- The worked cases hold, by computation: a fact for each table, short enough for the prover to name a case that fails.
-- Assumes nothing.
use mathlib.Core.Path.{◌≡◌, refl, ◌∙◌}
use mathlib.Core.List.{[]}
use Rattle.machine.specs.Cases.{send, replies}
use Rattle.machine.specs.Worked.{signals_text, order_text, end_text, ending_text, comes, unmet}
use Rattle.machine.specs.WorkedCases.{WorkedCases, of_strings, of_starts, of_codes, of_counts, of_runs, of_stops, of_records}
use Rattle.machine.specs.WorkedCases.{of_recoveries, of_resumptions, of_orders, of_refusals, of_targets, of_multipliers, of_commands, of_modes}
use Rattle.machine.specs.WorkedCases.{of_instructions, of_searches, of_cams, of_programs, of_loops, of_delays, of_budgets}
use Rattle.machine.proofs.Computing.{computing}
use Rattle.machine.proofs.Delays.{before_last, leap, leapt, quickly, wait_text, comes_quickly, unmet_quickly, unmet-quickly}

-- what the cases unfold
working : Unit {0}
unfolding computing send replies signals_text order_text end_text ending_text comes unmet
working = tt

strings-hold : unmet of_strings ≡ []
unfolding working of_strings
strings-hold = refl

starts-hold : unmet of_starts ≡ []
unfolding working of_starts
starts-hold = refl

codes-hold : unmet of_codes ≡ []
unfolding working of_codes
codes-hold = refl

counts-hold : unmet of_counts ≡ []
unfolding working of_counts
counts-hold = refl

runs-hold : unmet of_runs ≡ []
unfolding working of_runs
runs-hold = refl

stops-hold : unmet of_stops ≡ []
unfolding working of_stops
stops-hold = refl

records-hold : unmet of_records ≡ []
unfolding working of_records
records-hold = refl

recoveries-hold : unmet of_recoveries ≡ []
unfolding working of_recoveries
recoveries-hold = refl

resumptions-hold : unmet of_resumptions ≡ []
unfolding working of_resumptions
resumptions-hold = refl

orders-hold : unmet of_orders ≡ []
unfolding working of_orders
orders-hold = refl

refusals-hold : unmet of_refusals ≡ []
unfolding working of_refusals
refusals-hold = refl

targets-hold : unmet of_targets ≡ []
unfolding working of_targets
targets-hold = refl

multipliers-hold : unmet of_multipliers ≡ []
unfolding working of_multipliers
multipliers-hold = refl

commands-hold : unmet of_commands ≡ []
unfolding working of_commands
commands-hold = refl

modes-hold : unmet of_modes ≡ []
unfolding working of_modes
modes-hold = refl

instructions-hold : unmet of_instructions ≡ []
unfolding working of_instructions
instructions-hold = refl

searches-hold : unmet of_searches ≡ []
unfolding working of_searches
searches-hold = refl

cams-hold : unmet of_cams ≡ []
unfolding working of_cams
cams-hold = refl

programs-hold : unmet of_programs ≡ []
unfolding working of_programs
programs-hold = refl

-- over ten seconds, most of them delays
loops-quickly : unmet_quickly of_loops ≡ []
unfolding working before_last leap leapt quickly wait_text comes_quickly unmet_quickly of_loops
loops-quickly = refl

loops-hold : unmet of_loops ≡ []
loops-hold = unmet-quickly of_loops ∙ loops-quickly

delays-hold : unmet of_delays ≡ []
unfolding working of_delays
delays-hold = refl

budgets-quickly : unmet_quickly of_budgets ≡ []
unfolding working before_last leap leapt quickly wait_text comes_quickly unmet_quickly of_budgets
budgets-quickly = refl

budgets-hold : unmet of_budgets ≡ []
budgets-hold = unmet-quickly of_budgets ∙ budgets-quickly

pub worked-hold : WorkedCases
worked-hold =
    record {
      strings = strings-hold;
      starts = starts-hold;
      codes = codes-hold;
      counts = counts-hold;
      runs = runs-hold;
      stops = stops-hold;
      records = records-hold;
      recoveries = recoveries-hold;
      resumptions = resumptions-hold;
      orders = orders-hold;
      refusals = refusals-hold;
      targets = targets-hold;
      multipliers = multipliers-hold;
      commands = commands-hold;
      modes = modes-hold;
      instructions = instructions-hold;
      searches = searches-hold;
      cams = cams-hold;
      programs = programs-hold;
      loops = loops-hold;
      delays = delays-hold;
      budgets = budgets-hold;
    }
