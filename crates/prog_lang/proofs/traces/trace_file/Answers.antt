use Rattle.std.proofs.lemmas.Result.{err_from_is_err_and}
use Rattle.prog_texts.specs.AssertRule.{Either}
use Rattle.prog_reading.proofs.Follow.{fails_from}
use Rattle.prog_lang.proofs.Stops.{trace_stops}
use Rattle.prog_lang.proofs.traces.trace_file.Goals as goal

pub returns-in_err-rest-3 : goal.returns-in_err-rest-3
returns-in_err-rest-3 c =
    let p = err_from_is_err_and c.from_residual-in_err-rest-3.result c.from_residual-in_err-rest-3.ensures.1 in
    rw (p.1, p.2) (fails_from _ _ _ c.in_err-rest-3.ensures
    (λ miss e. trace_stops Either _ _ _ _ _ _ _ _ _ miss c.in_ok-program.ensures.gives c.in_ok-rest.ensures.gives
    c.in_ok-start.ensures c.in_ok-rest-2.ensures.gives c.in_ok-choices.ensures e))
