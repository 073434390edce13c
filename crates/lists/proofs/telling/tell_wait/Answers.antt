-- `telling::tell_wait` meets its contract: the refusal, then the end of the wait.
-- Assumes nothing.
use Rattle.std.proofs.Common.{ℕ, [], ◌∷◌, refl, ap, arith, Some, None}
use Rattle.laws.proofs.Writing.{put-append, put_as}
use Rattle.lists.proofs.Strings.{wait-taken, wait-refused, ending-length}
use Rattle.lists.proofs.telling.tell_wait.Goals as goal

pub returns-in-Ok-clause-carries : goal.returns-in-Ok-clause-carries
returns-in-Ok-clause-carries c =
    wait-taken _ _ c.requires.machine_value c.wait.ensures c.in-Ok.is (put-append c.put_byte-begun.ensures c.put_ending.ensures)

pub returns-in-Err-clause-carries : goal.returns-in-Err-clause-carries
returns-in-Err-clause-carries c =
    wait-refused _ _ c.requires.machine_value c.wait.ensures c.in-Err.is
    (put-append (put_as (ap (λ (n : ℕ). n ∷ []) c.number.ensures) c.put_byte-begun-in-Err.ensures) c.put_ending-in-Err.ensures)

pub returns-in-Ok-clause-room : goal.returns-in-Ok-clause-room
returns-in-Ok-clause-room c = omega (arith, c.put_byte-begun.ensures.next, c.put_ending.ensures.next, ending-length (Some c.in-Ok.ending))

pub returns-in-Err-clause-room : goal.returns-in-Err-clause-room
returns-in-Err-clause-room c = omega (arith, c.put_byte-begun-in-Err.ensures.next, c.put_ending-in-Err.ensures.next, ending-length None)
