-- `seen::endings::put_ending` meets its contract.
-- Assumes nothing.
use Prim.Native.Nat.{ℕ}
use mathlib.Core.Path.{◌≡◌, sym, ap}
use mathlib.Core.List.{List, [], ◌∷◌}
use Rattle.std.specs.Prelude.{Option}
use Rattle.laws.specs.Writing.{Put}
use Rattle.laws.proofs.Writing.{put-append, put_as}
use Rattle.operations.specs.Results.{ending_as}
use Rattle.operations.specs.declared.results.Ending.{Ending}
use Rattle.seen.specs.Bytes.{ending_bytes, ended_as}
use Rattle.seen.proofs.endings.put_ending.Goals as goal

-- the bytes of an end known to be of a kind
ended-as :
    {x y : Option Ending} {l l' : List ℕ} {a e : ℕ} → x ≡ y → Put l l' (ending_bytes (ended_as y)) a e → Put l l' (ending_bytes (ended_as x)) a e
ended-as h = put_as (sym (ap (λ (z : Option Ending). ending_bytes (ended_as z)) h))

pub returns-in-Some : goal.returns-in-Some
unfolding ending_bytes ended_as ending_as
returns-in-Some c =
    ended-as c.in-Some.is
    (put-append (put_as (ap (λ (k : ℕ). k ∷ []) c.end_number.ensures) c.put_byte-begun.ensures) c.put_number.ensures)

pub returns-in-None : goal.returns-in-None
unfolding ending_bytes ended_as
returns-in-None c = ended-as c.in-None.is (put-append c.put_byte-begun-in-None.ensures c.put_number-in-None.ensures)
