use Rattle.std.proofs.Common.{◌+◌, ◌∙◌, sym, refl, ap, arith}
use Rattle.std.proofs.lemmas.Result.{err_from_is_err_and}
use Rattle.trop_grammar.proofs.Loops.{list-more, list-done, list-closed}
use Rattle.trop_files.specs.InequalityFiles.{inequalities_at}
use Rattle.trop_reading.proofs.Loops.{list_failed, list_left_open}
use Rattle.trop_files.proofs.inequalities.inequalities.Goals as goal

pub lines-init : goal.lines-init
unfolding inequalities_at
lines-init g c = record {
  reading = rw c.new-system.ensures.inequalities refl;
  width =
      c.new-system.ensures.width ∙ ap (λ n. n + 1) c.len.ensures.count;
  count =
      rw c.new-system.ensures.inequalities (omega arith);
}

pub returns-in_err-more-clause-gives : goal.returns-in_err-more-clause-gives
returns-in_err-more-clause-gives g c =
    let p = err_from_is_err_and c.from_residual.result c.from_residual.ensures.1 in
    rw (p.1, p.2) (list_failed _ _ _ _ 1024 c.lines.counter _ _ _ c.lines-test.true c.in_err-more.ensures.gives
    c.lines.invariant.reading)

pub returns-then-not-more-clause-gives : goal.returns-then-not-more-clause-gives
returns-then-not-more-clause-gives g c = sym c.lines.invariant.reading
    ∙ list-done _ _ _ _ 1024 c.lines.counter _ _ _ _ _ c.lines-test.true
    (search c.if-not-more.true) c.in_ok-more.ensures.gives

pub lines-preserved : goal.lines-preserved
lines-preserved g c = record {
  reading = sym (list-more _ _ _ _ 1024 c.lines.counter _ _ _ _ _ c.lines-test.true
      (search c.if-not-more.false) c.in_ok-more.ensures.gives) ∙ c.lines.invariant.reading;
  width = c.in_ok-more.ensures.width ∙ c.lines.invariant.width;
  count = omega (arith, c.in_ok-more.ensures.count);
}

pub returns-in_err-rest-clause-gives : goal.returns-in_err-rest-clause-gives
returns-in_err-rest-clause-gives g c =
    let p = err_from_is_err_and c.from_residual-in_err-rest.result c.from_residual-in_err-rest.ensures.1 in
    rw (p.1, p.2) (list_left_open _ _ _ _ 1024 c.lines.counter _ _ _ c.lines-test.false c.in_err-rest.ensures
    c.lines.invariant.reading)

pub returns-clause-gives : goal.returns-clause-gives
returns-clause-gives g c = sym c.lines.invariant.reading
    ∙ list-closed _ _ _ _ 1024 c.lines.counter _ _ _ c.lines-test.false c.in_ok-rest.ensures
