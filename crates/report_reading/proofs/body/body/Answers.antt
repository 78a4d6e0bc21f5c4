use Rattle.std.proofs.Common.{ap}
use Rattle.std.proofs.lemmas.Result.{err_from_is_err_and}
use Rattle.report_reading.specs.Progress.{outcome_of}
use Rattle.report_reading.proofs.Bodies.{ahead_first, ahead_next, ahead_done, ahead_failed}
use Rattle.report_reading.proofs.body.body.Goals as goal

pub lines-init : goal.lines-init
lines-init g c = ahead_first g.S.Spelling.KIND g.S.Scalar.ring g.S.Scalar.numbering c.args.names.now
    c.args.points.now c.args.numbers.now _ _ c.start-progress.ensures

pub returns-in_err-outcome : goal.returns-in_err-outcome
returns-in_err-outcome g c =
    let p = err_from_is_err_and c.from_residual.result c.from_residual.ensures.1 in
    rw (p.1, p.2) (ahead_failed g.S.Spelling.KIND g.S.Scalar.ring g.S.Scalar.numbering c.args.names.now
    c.args.points.now c.args.numbers.now _ _ _ c.lines.invariant _ c.in_err-outcome.ensures.gives)

pub lines-preserved : goal.lines-preserved
lines-preserved g c = ahead_next g.S.Spelling.KIND g.S.Scalar.ring g.S.Scalar.numbering c.args.names.now
    c.args.points.now c.args.numbers.now _ _ _ c.lines.invariant _ _ _ c.in_ok-outcome.ensures.gives
    (ap outcome_of c.in-Further.is) c.in_ok-outcome.ensures.shorter

pub returns-in-Whole : goal.returns-in-Whole
returns-in-Whole g c = ahead_done g.S.Spelling.KIND g.S.Scalar.ring g.S.Scalar.numbering c.args.names.now
    c.args.points.now c.args.numbers.now _ _ _ c.lines.invariant _ _ _ c.in_ok-outcome.ensures.gives
    (ap outcome_of c.in-Whole.is)
