use Rattle.std.proofs.Common.{◌∙◌, sym, refl, arith}
use Rattle.std.proofs.lemmas.Result.{err_from_is_err_and}
use Rattle.trop_grammar.proofs.Loops.{list-more, list-done, list-closed}
use Rattle.trop_files.specs.Header.{next_name, name_at, no_name, names_at}
use Rattle.trop_reading.proofs.Loops.{list_failed, list_left_open}
use Rattle.trop_files.proofs.header.read_names.Goals as goal

pub names-init : goal.names-init
unfolding names_at
names-init c = record { reading = rw c.new-names.ensures refl; count = rw c.new-names.ensures (omega arith) }

pub returns-in_err-more-clause-gives : goal.returns-in_err-more-clause-gives
returns-in_err-more-clause-gives c =
    let p = err_from_is_err_and c.from_residual.result c.from_residual.ensures.1 in
    rw (p.1, p.2) (list_failed next_name name_at (λ names. no_name) _ 63 c.names.counter _ _ _ c.names-test.true
    c.in_err-more.ensures.gives c.names.invariant.reading)

pub returns-then-not-more-clause-gives : goal.returns-then-not-more-clause-gives
returns-then-not-more-clause-gives c = sym c.names.invariant.reading ∙ list-done _ next_name name_at
    (λ names. no_name) 63 c.names.counter _ _ _ _ _ c.names-test.true
    (search c.if-not-more.true) c.in_ok-more.ensures.gives

pub names-preserved : goal.names-preserved
names-preserved c = record {
  reading = sym (list-more _ next_name name_at (λ names. no_name) 63 c.names.counter _ _ _ _ _ c.names-test.true
      (search c.if-not-more.false) c.in_ok-more.ensures.gives) ∙ c.names.invariant.reading;
  count = omega (arith, c.in_ok-more.ensures.count);
}

pub returns-in_err-rest-clause-gives : goal.returns-in_err-rest-clause-gives
returns-in_err-rest-clause-gives c =
    let p = err_from_is_err_and c.from_residual-in_err-rest.result c.from_residual-in_err-rest.ensures.1 in
    rw (p.1, p.2) (list_left_open next_name name_at (λ names. no_name) _ 63 c.names.counter _ _ _ c.names-test.false
    c.in_err-rest.ensures c.names.invariant.reading)

pub returns-clause-gives : goal.returns-clause-gives
returns-clause-gives c = sym c.names.invariant.reading ∙ list-closed _ next_name name_at
    (λ names. no_name) 63 c.names.counter _ _ _ c.names-test.false c.in_ok-rest.ensures
