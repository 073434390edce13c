-- `numbers::holds_numbers` meets its contract: each arm joins the tests of its code's row.
-- Assumes nothing.
use Prim.Native.Nat.{ℕ}
use mathlib.Core.Path.{◌≡◌, refl, ap, ◌∙◌}
use mathlib.Core.Bool.{Bool}
use mathlib.Core.Logic.{⊎_elim}
use mathlib.Core.List.{List}
use lib.ListN.{length, get_or}
use borrow.Author.Rules.{rules}
use Rattle.laws.proofs.Telling.{Apart, told}
use Rattle.instruction.specs.Numbers.{six}
use Rattle.instruction.proofs.Numbering.{others}
use Rattle.instruction.proofs.Holding.{six-list, holds, row-01, row-31, row-02, row-32, row-11, row-21, row-12, row-22, row-03, row-05}
use Rattle.instruction.proofs.Holding.{row-57, row-58, row-60, row-61, row-62, row-63, row-65, row-70, row-69, row_other}
use Rattle.instruction.proofs.numbers.holds_numbers.Goals as goal

-- what a row says of a code and six numbers, it says of a code that is known to be that one, and of a list of six
arm : (v : List ℕ) → length v ≡ 6 → {code k : ℕ} {r : Bool} → code ≡ k →
    r ≡ holds k (six (get_or v 0 0) (get_or v 1 0) (get_or v 2 0) (get_or v 3 0) (get_or v 4 0) (get_or v 5 0)) → r ≡ holds code v
arm v n e h = told (λ (k : ℕ). holds k v) e (h ∙ ap (holds _) (six-list v n))

pub returns-in-1 : goal.returns-in-1
unfolding holds
returns-in-1 c =
    ⊎_elim (λ e. arm _ c.told-v e (row-01 _ _ _ _ _ _ (c.fits-v 2))) (λ e. arm _ c.told-v e (row-31 _ _ _ _ _ _ (c.fits-v 2))) c.in-1.is

pub returns-in-2 : goal.returns-in-2
unfolding holds
returns-in-2 c =
    ⊎_elim (λ e. arm _ c.told-v e (row-02 _ _ _ _ _ _)) (λ e. arm _ c.told-v e (row-32 _ _ _ _ _ _)) c.in-2.is

pub returns-in-11 : goal.returns-in-11
unfolding holds
returns-in-11 c = arm _ c.told-v c.in-11.is (row-11 _ _ _ _ _ _ (c.fits-v 1))

pub returns-in-21 : goal.returns-in-21
unfolding holds
returns-in-21 c = arm _ c.told-v c.in-21.is (row-21 _ _ _ _ _ _ (c.fits-v 1) c.in_table.ensures)

pub returns-in-12 : goal.returns-in-12
unfolding holds
returns-in-12 c = arm _ c.told-v c.in-12.is (row-12 _ _ _ _ _ _)

pub returns-in-22 : goal.returns-in-22
unfolding holds
returns-in-22 c = arm _ c.told-v c.in-22.is (row-22 _ _ _ _ _ _ c.in_table-in-22.ensures)

pub returns-in-3 : goal.returns-in-3
unfolding holds
returns-in-3 c = arm _ c.told-v c.in-3.is (row-03 _ _ _ _ _ _)

pub returns-in-5 : goal.returns-in-5
unfolding holds
returns-in-5 c = arm _ c.told-v c.in-5.is (row-05 _ _ _ _ _ _ (c.fits-v 3))

pub returns-in-57 : goal.returns-in-57
unfolding holds
returns-in-57 c = arm _ c.told-v c.in-57.is (row-57 _ _ _ _ _ _)

pub returns-in-58 : goal.returns-in-58
unfolding holds
returns-in-58 c = arm _ c.told-v c.in-58.is (row-58 _ _ _ _ _ _)

pub returns-in-60 : goal.returns-in-60
unfolding holds
returns-in-60 c = arm _ c.told-v c.in-60.is (row-60 _ _ _ _ _ _)

pub returns-in-61 : goal.returns-in-61
unfolding holds
returns-in-61 c = arm _ c.told-v c.in-61.is (row-61 _ _ _ _ _ _)

pub returns-in-62 : goal.returns-in-62
unfolding holds
returns-in-62 c = arm _ c.told-v c.in-62.is (row-62 _ _ _ _ _ _)

pub returns-in-63 : goal.returns-in-63
unfolding holds
returns-in-63 c = arm _ c.told-v c.in-63.is (row-63 _ _ _ _ _ _)

pub returns-in-65 : goal.returns-in-65
unfolding holds
returns-in-65 c = arm _ c.told-v c.in-65.is (row-65 _ _ _ _ _ _)

pub returns-in-70 : goal.returns-in-70
unfolding holds
returns-in-70 c = arm _ c.told-v c.in-70.is (row-70 _ _ _ _ _ _)

pub returns-in-69 : goal.returns-in-69
unfolding holds
returns-in-69 c = arm _ c.told-v c.in-69.is (row-69 _ _ _ _ _ _)

pub returns-in_default : goal.returns-in_default
unfolding holds
returns-in_default c =
    let v = c.args.v.now in
    let n : Apart (Unit {0}) c.args.code others = search rules in
    arm v c.told-v refl (row_other _ _ _ _ _ _ _ n)
