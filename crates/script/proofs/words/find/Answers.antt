-- `script::words::find` meets its contract.
-- Assumes nothing.
use Rattle.std.proofs.Common.{ℕ, ◌+◌, List, drop, sym, ap, ◌∙◌, arith}
use lib.Seq.{take-length}
use Rattle.scan.specs.Bytes.{index_of, slice}
use Rattle.script.proofs.Parts.{place_inside, place-outside}
use Rattle.script.proofs.words.find.Goals as goal

pub returns-then-s-from : goal.returns-then-s-from
returns-then-s-from c =
    let a = c.args in
    record { value = sym (place-outside a.byte a.from a.s.now (omega arith)); upper_bound = omega arith }

pub returns : goal.returns
unfolding slice
returns c =
    let a = c.args in
    record {
      value = c.find.ensures.place
          ∙ ap (λ (x : List ℕ). a.from + index_of a.byte (drop a.from x)) (take-length a.s.now)
          ∙ sym (place_inside a.byte a.from a.s.now (omega arith));
      upper_bound = c.find.ensures.bound;
    }
