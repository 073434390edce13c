-- Each turn takes the field at the reader's place, and the reader is moved to its end; a wrong or missing field ends the reading.
-- Assumes nothing.
use Rattle.std.proofs.Common.{◌∙◌, ◌+◌, List, ℕ, length, drop, set, replicate, refl, ap, sym, arith}
use lib.ListN.{length-set}
use Rattle.fields.specs.Reader.{field, field_at}
use Rattle.fields.specs.Rows.{fields_from, parse_fields}
use Rattle.fields.proofs.Reading.{extent-within}
use Rattle.fields.proofs.Turns.{fields-missing, fields-bad, fields-next, fields-end}
use Rattle.fields.proofs.rows.parse_fields.Goals as goal

pub loop-i-init : goal.loop-i-init
unfolding parse_fields
loop-i-init c =
    let a = c.args in
    record {
      string = cc;
      six = refl;
      same = ap (λ (at : ℕ). fields_from a.kinds.now a.s.now at 0 (replicate 6 0)) (sym c.new-reader.ensures.1);
    }

pub returns-in_err-start : goal.returns-in_err-start
returns-in_err-start c =
    let l = c.loop-i in
    let s = c.args.s.now in
    let x = sym (ap (λ (t : List ℕ). field_at t l.reader.at) l.invariant.string) ∙ sym c.field.ensures ∙ c.in_err-start.was in
    c.from_residual.ensures ∙ sym (l.invariant.same ∙ fields-missing _ s l.values l.i l.reader.at (omega arith) x)

pub slice_bounds-parse_field-count : goal.slice_bounds-parse_field-count
slice_bounds-parse_field-count c = (extent-within _ _ _ _ (sym c.field.ensures ∙ c.in_ok-start.was)).0

pub slice_bounds-parse_field-start : goal.slice_bounds-parse_field-start
slice_bounds-parse_field-start c = omega (arith, extent-within _ _ _ _ (sym c.field.ensures ∙ c.in_ok-start.was))

pub slice_bounds-parse_field-end : goal.slice_bounds-parse_field-end
slice_bounds-parse_field-end c =
    omega (arith, extent-within _ _ _ _ (sym c.field.ensures ∙ c.in_ok-start.was), ap length c.loop-i.invariant.string)

pub returns-in_err-values : goal.returns-in_err-values
returns-in_err-values c =
    let l = c.loop-i in
    let s = c.args.s.now in
    let f = c.in_ok-start.field-0 in
    let x = sym (ap (λ (t : List ℕ). field_at t l.reader.at) l.invariant.string) ∙ sym c.field.ensures ∙ c.in_ok-start.was in
    let w = sym c.parse_field.ensures ∙ c.in_err-values.was in
    c.from_residual-in_err-values.ensures ∙ sym (l.invariant.same ∙ fields-bad _ s l.values l.i l.reader.at f.start f.end (omega arith) x w)

pub loop-i-preserved : goal.loop-i-preserved
loop-i-preserved c =
    let l = c.loop-i in
    let s = c.args.s.now in
    let f = c.in_ok-start.field-0 in
    let v = c.in_ok-values.field-0 in
    let x = sym (ap (λ (t : List ℕ). field_at t l.reader.at) l.invariant.string) ∙ sym c.field.ensures ∙ c.in_ok-start.was in
    let w = sym c.parse_field.ensures ∙ c.in_ok-values.was in
    record {
      string = cc;
      six = simp length-set l.invariant.six;
      same = l.invariant.same
          ∙ fields-next c.args.kinds.now s l.values l.i l.reader.at f.start f.end v (omega arith) x w
          ∙ ap (λ (at : ℕ). fields_from (drop (l.i + 1) c.args.kinds.now) s at (l.i + 1) (set l.values l.i v)) (sym c.moved-reader.ensures.1);
    }

pub returns : goal.returns
returns c =
    let l = c.loop-i in
    sym (l.invariant.same ∙ fields-end _ c.args.s.now l.values l.i l.reader.at (omega arith))
