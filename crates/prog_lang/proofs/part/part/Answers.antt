use Rattle.std.proofs.lemmas.Result.{err_from_is_err_and}
use Rattle.prog_reading.specs.Rules.{rule_of}
use Rattle.prog_reading.proofs.Follow.{fails_from}
use Rattle.prog_lang.proofs.Stops.{part_stops}
use Rattle.prog_lang.proofs.part.part.Goals as goal

pub returns-in_err-closing-clause-gives : goal.returns-in_err-closing-clause-gives
returns-in_err-closing-clause-gives c =
    let p = err_from_is_err_and c.from_residual-in_err-closing.result c.from_residual-in_err-closing.ensures.1 in
    rw (p.1, p.2) (fails_from _ _ _ c.in_err-closing.ensures
    (λ miss e. part_stops (rule_of c.args.rule) _ _ _ miss c.in_ok-program.ensures.gives e))
