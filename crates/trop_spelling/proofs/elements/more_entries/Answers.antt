use Rattle.std.proofs.Common.{◌∙◌, sym, refl, arith}
use Rattle.std.proofs.lemmas.Result.{err_from_is_err_and}
use Rattle.trop_grammar.proofs.Loops.{repeat-start, repeat-step, repeat-end}
use Rattle.trop_reading.proofs.Loops.{fails_repeated}
use Rattle.trop_spelling.proofs.elements.more_entries.Goals as goal

pub entries-init : goal.entries-init
entries-init g c = record { reading = repeat-start _ c.args.count _ _; source = refl; length = omega arith }

pub returns-in_err-rest-clause-gives : goal.returns-in_err-rest-clause-gives
returns-in_err-rest-clause-gives g c =
    let p = err_from_is_err_and c.from_residual.result c.from_residual.ensures.1 in
    rw (p.1, p.2) (fails_repeated _ _ c.args.count c.entries.counter _ _ _ c.entries-test.true
    c.in_err-rest.ensures.gives c.entries.invariant.reading)

pub entries-preserved : goal.entries-preserved
entries-preserved g c = record {
  reading = sym (repeat-step _ c.args.count c.entries.counter _ _ _ _ c.entries-test.true c.in_ok-rest.ensures.gives)
      ∙ c.entries.invariant.reading;
  source = c.in_ok-rest.ensures.source ∙ c.entries.invariant.source;
  length = omega (arith, c.in_ok-rest.ensures.length);
}

pub returns-clause-gives : goal.returns-clause-gives
returns-clause-gives g c = sym c.entries.invariant.reading
    ∙ repeat-end _ c.args.count c.entries.counter _ _ c.entries-test.false
