use Rattle.std.proofs.Common.{arith}
use Rattle.report_value.specs.Views.{said}
use Rattle.cone_reports.specs.Inductive.{IsValidAt}
use Rattle.prog_check.specs.Found.{IsFailureAt}
use Rattle.prog_check.proofs.Loops.{some_of}
use Rattle.prog_check.proofs.Steps.{fails_at, valid_more, valid_all}
use Rattle.prog_check.proofs.points.first_failure.Goals as goal

pub returns-in-Some : goal.returns-in-Some
returns-in-Some g c =
    let R = g.S.Scalar.ring in
    let r = c.args.report.now in
    fails_at R (said r) c.loop-point.point c.in-Some.index c.loop-point.invariant
    (some_of (IsValidAt R (said r) c.loop-point.point) (IsFailureAt R (said r) c.loop-point.point)
    c.failure_at.result c.in-Some.index c.in-Some.is c.failure_at.ensures)

pub loop-point-preserved : goal.loop-point-preserved
loop-point-preserved g c =
    valid_more g.S.Scalar.ring (said c.args.report.now) c.loop-point.point c.loop-point.invariant c.in_default.ensures

pub returns : goal.returns
returns g c =
    valid_all g.S.Scalar.ring (said c.args.report.now) c.loop-point.point
    (omega (arith, c.point_count-point-end.ensures)) c.loop-point.invariant
