-- That the sums of a walk fit: what a sound cell adds at most, and the room for what the cells not yet met may add.
-- Assumes nothing.
use Rattle.std.specs.Prelude.{ℕ, ◌+◌, ◌*◌, ◌≤◌, ◌≡◌, Bool, true, List, ℤ, pos, nat_abs, length, Option, Some, None}
use Rattle.fields.specs.Kinds.{valid}
use Rattle.fields.specs.declared.kinds.Kind.TheVariants.{Next}
use Rattle.units.specs.Limits.{remaining_limit, delay_limit}
use Rattle.units.specs.declared.CellAddress.{CellAddress}
use Rattle.cellmap.specs.Marks.{unmarked}
use Rattle.instruction.specs.declared.adding.Sums.{Sums}
use Rattle.totals.specs.Walk.{Row, Rows}

-- ---- what a cell adds, as numbers

abbrev pub steps_in : Option Sums → ℤ
steps_in (Some t) = t.steps.0
steps_in None = pos 0

abbrev pub delay_in : Option Sums → ℕ
delay_in (Some t) = t.delay.0
delay_in None = 0

-- a row of a sound cell
pub record Fits (r : Row) : Type 0 where
  pub steps : nat_abs (steps_in r.added) ≤ remaining_limit
  pub delay : delay_in r.added ≤ delay_limit
  pub next : valid Next r.next.0 ≡ true

abbrev pub Fitting : Rows → Type 0
Fitting rows = (a : CellAddress) → Fits (rows a)

-- ---- sums

-- the greatest sums: of 131 cells
abbrev pub steps_limit : ℕ
steps_limit = 131 * remaining_limit

abbrev pub delays_limit : ℕ
delays_limit = 131 * delay_limit

-- there is room for what the cells not yet met may add
pub record Room (met : List Bool) (s : Sums) : Type 0 where
  pub count : length met ≡ 131
  pub steps : nat_abs s.steps.0 + unmarked met * remaining_limit ≤ steps_limit
  pub delay : s.delay.0 + unmarked met * delay_limit ≤ delays_limit
