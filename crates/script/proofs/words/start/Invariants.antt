-- Invariant: the part is the one that is left to pass, from the place on.
-- Assumes nothing.
use Rattle.std.proofs.Common.{◌≡◌, ◌-◌, drop}
use Rattle.script.specs.Words.{part_at}
use Rattle.script.proofs.words.start.Given as goal

abbrev pub invariant-loop-i : goal.invariant-loop-i
invariant-loop-i l = part_at l.separator l.k l.text ≡ part_at l.separator (l.k - l._i) (drop l.at l.text)
