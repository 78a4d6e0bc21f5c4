use Rattle.std.proofs.lemmas.Result.{err_from_is_err_and}
use Rattle.prog_reading.specs.Rules.{rule_of}
use Rattle.prog_reading.proofs.Follow.{fails_from}
use Rattle.prog_lang.proofs.Stops.{whole_stops}
use Rattle.prog_lang.proofs.program.whole_program.Goals as goal

pub returns-in_err-rest : goal.returns-in_err-rest
returns-in_err-rest c =
    let p = err_from_is_err_and c.from_residual-in_err-rest.result c.from_residual-in_err-rest.ensures.1 in
    rw (p.1, p.2) (fails_from _ _ _ c.in_err-rest.ensures
    (λ miss e. whole_stops (rule_of c.args.rule) _ _ _ miss c.in_ok-program.ensures.gives e))
