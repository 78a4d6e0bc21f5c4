use Rattle.std.proofs.Common.{◌∙◌, sym, refl, arith}
use Rattle.std.proofs.lemmas.Result.{err_from_is_err_and}
use Rattle.trop_grammar.proofs.Loops.{list-more, list-done, list-closed}
use Rattle.trop_files.specs.Generators.{generator_lines_at}
use Rattle.trop_reading.proofs.Loops.{list_failed, list_left_open}
use Rattle.trop_files.proofs.generators.generator_lines.Goals as goal

pub lines-init : goal.lines-init
unfolding generator_lines_at
lines-init g c = record {
  reading = rw c.new-rows.ensures.items refl;
  wide =
      rw c.new-rows.ensures.items (λ k d h. absurd (omega arith));
  count = rw c.new-rows.ensures.items (omega arith);
}

pub returns-in_err-more-clause-gives : goal.returns-in_err-more-clause-gives
returns-in_err-more-clause-gives g c =
    let p = err_from_is_err_and c.from_residual.result c.from_residual.ensures.1 in
    rw (p.1, p.2) (list_failed _ _ _ _ 4096 c.lines.counter _ _ _ c.lines-test.true c.in_err-more.ensures.gives
    c.lines.invariant.reading)

pub returns-then-not-more-clause-gives : goal.returns-then-not-more-clause-gives
returns-then-not-more-clause-gives g c = sym c.lines.invariant.reading
    ∙ list-done _ _ _ _ 4096 c.lines.counter _ _ _ _ _ c.lines-test.true
    (search c.if-not-more.true) c.in_ok-more.ensures.gives

pub lines-preserved : goal.lines-preserved
lines-preserved g c = record {
  reading = sym (list-more _ _ _ _ 4096 c.lines.counter _ _ _ _ _ c.lines-test.true
      (search c.if-not-more.false) c.in_ok-more.ensures.gives) ∙ c.lines.invariant.reading;
  wide = c.in_ok-more.ensures.wide;
  count = omega (arith, c.in_ok-more.ensures.count);
}

pub returns-in_err-rest-clause-gives : goal.returns-in_err-rest-clause-gives
returns-in_err-rest-clause-gives g c =
    let p = err_from_is_err_and c.from_residual-in_err-rest.result c.from_residual-in_err-rest.ensures.1 in
    rw (p.1, p.2) (list_left_open _ _ _ _ 4096 c.lines.counter _ _ _ c.lines-test.false c.in_err-rest.ensures
    c.lines.invariant.reading)

pub returns-clause-gives : goal.returns-clause-gives
returns-clause-gives g c = sym c.lines.invariant.reading
    ∙ list-closed _ _ _ _ 4096 c.lines.counter _ _ _ c.lines-test.false c.in_ok-rest.ensures
